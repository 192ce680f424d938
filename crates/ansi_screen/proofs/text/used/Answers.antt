-- The last cell is left out, or it is not.
use Rattle.std.proofs.Common.{sym, ◌∙◌, arith}
use Rattle.ansi_screen.specs.Text.{left_out}
use Rattle.ansi_screen.proofs.TextLemmas.{used-less, used-end}
use Rattle.ansi_screen.proofs.text.used.Goals as goal

pub end-preserved : goal.end-preserved
end-preserved c = (
  used-less (left_out c.args.ends) c.args.cells.now c.end.end _ c.end-test.true c.end.invariant.1 c.end.invariant.0 (sym c.has.ensures ∙ c.if-not-has.false),
  omega arith,
)

pub returns-then-not-has-clause-used : goal.returns-then-not-has-clause-used
returns-then-not-has-clause-used c =
    used-end (left_out c.args.ends) c.args.cells.now c.end.end _ c.end-test.true c.end.invariant.1 c.end.invariant.0 (sym c.has.ensures ∙ c.if-not-has.true)
