-- Each of the four is left out.
use Rattle.std.proofs.Common.{sym, ◌∙◌}
use Rattle.ansi_screen.specs.Text.{left_out}
use Rattle.ansi_screen.proofs.TextLemmas.{used-four}
use Rattle.ansi_screen.proofs.text.LeftOut.has_four.Goals as goal
use Rattle.ansi_screen.proofs.text.LeftOut.has_four.Goals.{then-has, else-has, then-has-2, else-has-2}

pub returns-then-has-3 : goal.returns-then-has-3
returns-then-has-3 c = λ yes same.
    elim c.if-has-2.branch [
      | then-has-2 w ↦ elim c.if-has.branch [
        | then-has v ↦ used-four (left_out c.args.self) c.args.cells.now c.args.end _ c.requires.four c.requires.within same
            (sym c.has.ensures ∙ v.if-has.true) (sym v.has-then-has.ensures ∙ (sym v.value-is ∙ w.if-has-2.true))
            (sym w.has-then-has-2.ensures ∙ (sym w.value-is ∙ c.if-has-3.true)) (sym c.has-then-has-3.ensures ∙ yes)
        | else-has v ↦ (cc (v.value-is, w.if-has-2.true))
      ]
      | else-has-2 w ↦ (cc (w.value-is, c.if-has-3.true))
    ]
