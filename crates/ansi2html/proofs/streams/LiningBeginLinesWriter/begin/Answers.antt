-- What a new writer writes.
use Rattle.ansi_html.proofs.WriterLemmas.{lined_text_from-new, lined_ending_from-new}
use Rattle.ansi2html.specs.Streams.{lined_as}
use Rattle.ansi2html.proofs.streams.LiningBeginLinesWriter.begin.Goals as goal

pub returns-clause-text : goal.returns-clause-text
returns-clause-text g c = λ given _. lined_text_from-new (lined_as c.args.self.now) c.new.result c.new.ensures.new given.calls

pub returns-clause-ending : goal.returns-clause-ending
returns-clause-ending g c = λ given _. lined_ending_from-new (lined_as c.args.self.now) c.new.result c.new.ensures.new given.calls
