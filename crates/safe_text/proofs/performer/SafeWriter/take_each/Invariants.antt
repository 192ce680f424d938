-- The characters so far are taken.
use Rattle.safe_text.specs.Writer.{Takes}
use Rattle.safe_text.proofs.performer.SafeWriter.take_each.Given as goal

abbrev pub invariant-loop-c : goal.invariant-loop-c
invariant-loop-c g l = Takes g.W.Sink l.initial.self l.yielded l.self
