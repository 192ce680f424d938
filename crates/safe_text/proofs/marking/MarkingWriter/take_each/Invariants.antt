-- The characters so far are taken.
use Rattle.std.proofs.Common.{map}
use Rattle.anstyle_parse.specs.Stream.Texts.{layout_call}
use Rattle.safe_text.specs.MarkingWriter.{TakesMarked}
use Rattle.safe_text.proofs.marking.MarkingWriter.take_each.Given as goal

abbrev pub invariant-loop-c : goal.invariant-loop-c
invariant-loop-c g l = TakesMarked g.W.Sink l.initial.self (map layout_call l.yielded) l.self
