-- What a new writer writes.
use Rattle.ansi_html.proofs.WriterLemmas.{blocked_text_from-new, blocked_ending_from-new}
use Rattle.ansi2html.specs.Streams.{blocked_as, has_numbers}
use Rattle.ansi2html.proofs.streams.BlockingBeginBlocksWriter.begin.Goals as goal

pub returns-clause-text : goal.returns-clause-text
returns-clause-text g c = λ given _. blocked_text_from-new (blocked_as c.args.self.now) (has_numbers c.args.self.now) c.new.result c.new.ensures.new given.calls

pub returns-clause-ending : goal.returns-clause-ending
returns-clause-ending g c = λ given _. blocked_ending_from-new (blocked_as c.args.self.now) (has_numbers c.args.self.now) c.new.result c.new.ensures.new given.calls
