-- The characters so far are received.
use Rattle.std.proofs.Common.{map}
use Rattle.anstyle_parse.specs.Stream.Call.{print}
use Rattle.anstyle_parse.proofs.perform.PerformText.print_text.Given as goal

abbrev pub invariant-loop-c : goal.invariant-loop-c
invariant-loop-c g l = g.Self.PerformText.receives l.initial.self (map print l.yielded) l.self
