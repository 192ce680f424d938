-- What a new writer writes.
use Rattle.std.proofs.Common.{ap, ◌∙◌}
use Rattle.screen_text.specs.Recording.{screen_for}
use Rattle.ansi2html.specs.Streams.{size_of, shown_as}
use Rattle.screen_html.specs.Blocks.{blocked_of}
use Rattle.screen_html.proofs.BlockLemmas.{left-new, ending-new}
use Rattle.ansi2html.proofs.streams.ShowingBeginShownWriterBlockRows.begin.Goals as goal

pub returns-in-Ok-clause-text : goal.returns-in-Ok-clause-text
returns-in-Ok-clause-text g c = λ given begins.
    let new = ap blocked_of c.new.ensures.rows ∙ c.new-rows.ensures.new in
    left-new (shown_as c.args.self.now) (screen_for (size_of c.args.self.now) given.read) given.calls blocked_of c.new.result (c.new.ensures.screen ∙ c.in-Ok.ensures given begins) new

pub returns-in-Ok-clause-ending : goal.returns-in-Ok-clause-ending
returns-in-Ok-clause-ending g c = λ given begins.
    let new = ap blocked_of c.new.ensures.rows ∙ c.new-rows.ensures.new in
    ending-new (shown_as c.args.self.now) (screen_for (size_of c.args.self.now) given.read) given.calls blocked_of c.new.result (c.new.ensures.screen ∙ c.in-Ok.ensures given begins) new
