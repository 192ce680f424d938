-- A new writer has written nothing, and no carriage return waits.
use Rattle.std.proofs.Common.{filter}
use Rattle.ansi_strip.specs.Inert.{is_inert}
use Rattle.ansi_strip.specs.Passing.{performer_in}
use Rattle.ansi_strip.specs.TakingProof.{text_of-new, ending_of-new}
use Rattle.ansi2text.proofs.streams.StrippingLinesBeginInertLineFeeds.begin.Goals as goal

pub returns-clause-text : goal.returns-clause-text
returns-clause-text g c = λ given _. text_of-new (performer_in c.over.result) c.over.ensures.new (filter is_inert given.calls)

pub returns-clause-ending : goal.returns-clause-ending
returns-clause-ending g c = λ given _. ending_of-new (performer_in c.over.result) c.over.ensures.new (filter is_inert given.calls)
