-- The characters so far are taken.
use Rattle.std.proofs.Common.{map}
use Rattle.anstyle_parse.specs.Stream.Texts.{layout_call}
use Rattle.without_hidden.specs.Passing.{ReceivesShown}
use Rattle.without_hidden.proofs.performer.WithoutHidden.take_each.Given as goal

abbrev pub invariant-loop-c : goal.invariant-loop-c
invariant-loop-c g l = ReceivesShown g.P.PerformText.receives l.initial.self (map layout_call l.yielded) l.self
