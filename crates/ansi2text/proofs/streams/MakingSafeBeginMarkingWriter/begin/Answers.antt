-- A new writer has written nothing, and none waits.
use Rattle.safe_text.specs.MarkingProof.{marked-of_new, ending-of_new}
use Rattle.ansi2text.proofs.streams.MakingSafeBeginMarkingWriter.begin.Goals as goal

pub returns-clause-text : goal.returns-clause-text
returns-clause-text g c = λ given _. marked-of_new c.over.result c.over.ensures.new given.calls

pub returns-clause-ending : goal.returns-clause-ending
returns-clause-ending g c = λ given _. ending-of_new c.over.result c.over.ensures.new given.calls
