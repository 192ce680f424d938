-- What a new writer writes.
use Rattle.ansi_html.proofs.WriterLemmas.{text_from-new, ending_from-new}
use Rattle.ansi2html.specs.Streams.{said_as}
use Rattle.ansi2html.proofs.streams.ConvertingBeginHtmlWriter.begin.Goals as goal

pub returns-clause-text : goal.returns-clause-text
returns-clause-text g c = λ given _. text_from-new (said_as c.args.self.now) c.new.result c.new.ensures.new given.calls

pub returns-clause-ending : goal.returns-clause-ending
returns-clause-ending g c = λ given _. ending_from-new (said_as c.args.self.now) c.new.result c.new.ensures.new given.calls
