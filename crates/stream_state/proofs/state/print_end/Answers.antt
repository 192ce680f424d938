-- One call, or none.
use Rattle.std.proofs.Common.{sym, subst}
use Rattle.anstyle_parse.specs.Stream.Call.{print}
use Rattle.anstyle_parse.specs.Stream.Characters.{replacement}
use Rattle.stream_state.specs.Log.{end_calls}
use Rattle.stream_state.proofs.state.print_end.Goals as goal

pub returns-then-is_begun : goal.returns-then-is_begun
returns-then-is_begun g c =
    subst (λ begun. g.P.PerformText.receives c.args.performer.now (end_calls begun) c.print.new.self) (sym c.if-is_begun.true)
    (g.met.P.PerformText.follows.one c.args.performer.now (print replacement) c.print.new.self c.print.ensures)

pub returns-else-is_begun : goal.returns-else-is_begun
returns-else-is_begun g c =
    subst (λ begun. g.P.PerformText.receives c.args.performer.now (end_calls begun) c.args.performer.now) (sym c.if-is_begun.false)
    (g.met.P.PerformText.follows.none c.args.performer.now)
