-- Plain blanks are there, and nothing is cut.
use Rattle.std.proofs.Common.{sym, ap, ◌∙◌, arith}
use Rattle.std.proofs.lemmas.Bool.{eqb-true}
use Rattle.ansi_style.specs.Style.{plain, are_equal}
use Rattle.ansi_style.specs.declared.style.Style.{Style}
use Rattle.ansi_style.proofs.EqualityLemmas.{are_equal-same}
use Rattle.ansi_screen.proofs.RunLemmas.{blanks-there, put-on-blanks}
use Rattle.ansi_screen.proofs.runs.put_run_on_blanks.Goals as goal
use Rattle.ansi_screen.proofs.runs.put_run_on_blanks.Goals.{then-link-eq0, else-link-eq0}

pub print-requires-clause-blank : goal.print-requires-clause-blank
print-requires-clause-blank c = blanks-there c.args.place c.args.run.now c.args.cells.now c.requires.within c.requires.blank

pub print-requires-clause-plain : goal.print-requires-clause-plain
print-requires-clause-plain c is = elim c.if-link-eq0.branch [
  | then-link-eq0 w ↦ (
    are_equal-same c.args.style plain (ap (λ (s : Style). are_equal c.args.style s) (sym w.default.ensures) ∙ (sym w.is_same-is_plain.ensures ∙ (sym w.is_plain-is ∙ is))),
    omega (arith, w.if-link-eq0.true),
  )
  | else-link-eq0 w ↦ absurd (w.if-link-eq0.false (eqb-true c.args.link 0 (sym w.is_plain-is ∙ is)))
]

pub returns : goal.returns
returns c =
    put-on-blanks c.args.run.now c.args.place c.args.style c.args.link c.args.cells.now c.print.new.blanks
    c.requires.some c.requires.within c.requires.blank c.print.ensures
