-- What a new writer writes.
use Rattle.std.proofs.Common.{ap, ◌∙◌}
use Rattle.ansi2text.specs.Streams.{size_of}
use Rattle.screen_text.specs.Recording.{screen_for}
use Rattle.ansi2text.proofs.StreamLemmas.{screen-read}
use Rattle.screen_safe.specs.Writer.{standing_of}
use Rattle.screen_safe.proofs.RowLemmas.{left-new, ending-new}
use Rattle.ansi2text.proofs.streams.ShowingBeginShownWriterSafeRows.begin.Goals as goal

pub returns-in-Ok-clause-text : goal.returns-in-Ok-clause-text
returns-in-Ok-clause-text g c = λ given begins.
    let new = ap standing_of c.new-in-Ok.ensures.rows ∙ c.new.ensures.new in
    left-new standing_of (screen_for (size_of c.args.self.now) given.read) c.new-in-Ok.result (c.new-in-Ok.ensures.screen ∙ screen-read (size_of c.args.self.now) c.args.front.now c.in-Ok.screen given begins c.in-Ok.ensures) new given.calls

pub returns-in-Ok-clause-ending : goal.returns-in-Ok-clause-ending
returns-in-Ok-clause-ending g c = λ given begins.
    let new = ap standing_of c.new-in-Ok.ensures.rows ∙ c.new.ensures.new in
    ending-new standing_of (screen_for (size_of c.args.self.now) given.read) c.new-in-Ok.result (c.new-in-Ok.ensures.screen ∙ screen-read (size_of c.args.self.now) c.args.front.now c.in-Ok.screen given begins c.in-Ok.ensures) new given.calls
