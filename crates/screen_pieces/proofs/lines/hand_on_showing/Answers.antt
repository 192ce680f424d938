-- The rows of the main screen, and then those of the one that shows.
use Rattle.std.proofs.Common.{true, false, ◌∙◌, sym, subst}
use Rattle.ansi_screen.specs.Edits.{swapped}
use Rattle.ansi_screen.specs.Leaving.{TakesRows}
use Rattle.ansi_screen.specs.Text.{printed_rows}
use Rattle.screen_text.proofs.ShownLemmas.{takes-showing}
use Rattle.screen_pieces.proofs.lines.hand_on_showing.Goals as goal
use Rattle.screen_pieces.proofs.lines.hand_on_showing.Goals.{then-is_alternate, else-is_alternate}

pub returns : goal.returns
returns g c =
    let takes = g.R.TakeRow.takes in
    let d = c.args.screen.now.display in
    let a = c.args.taker.now in
    let b = c.if-is_alternate.taker in
    let end = c.hand_on_printed.new.taker in
    elim c.if-is_alternate.branch [
      | then-is_alternate w ↦
          takes-showing takes d true a b end (sym c.is_alternate.ensures ∙ w.if-is_alternate.true)
          (subst (λ t. TakesRows takes a (printed_rows (swapped d)) t) (sym w.taker-is) w.hand_on_hidden.ensures) c.hand_on_printed.ensures
      | else-is_alternate w ↦
          takes-showing takes d false a b end (sym c.is_alternate.ensures ∙ w.if-is_alternate.false) w.taker-is c.hand_on_printed.ensures
    ]
