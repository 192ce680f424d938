-- All of them are.
use Rattle.std.proofs.Common.{ℕ, ◌≡◌, take, subst, arith}
use Rattle.screen_html.specs.Shown.{IsRun}
use Rattle.screen_html.proofs.runs.copy_run.Goals as goal

pub returns-clause-run : goal.returns-clause-run
returns-clause-run c =
    let all : c.loop-i.i ≡ c.min-count.result = omega (arith, c.loop-i.auto.i-end, c.loop-i-test.false) in
    subst (λ (n : ℕ). IsRun c.args.first.now (take n c.args.cells.now) (take n c.loop-i.block)) all c.loop-i.invariant
