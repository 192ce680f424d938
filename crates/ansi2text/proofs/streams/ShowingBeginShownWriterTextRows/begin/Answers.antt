-- What a new writer writes.
use Rattle.std.proofs.Common.{sym, ap, ◌∙◌, append-nil}
use Rattle.ansi2text.specs.Streams.{size_of}
use Rattle.screen_text.specs.Recording.{screen_for}
use Rattle.ansi2text.proofs.StreamLemmas.{screen-read}
use Rattle.screen_text.specs.Lines.{is_open, row_text_at, after_row, after_command, closing}
use Rattle.screen_text.specs.Writer.{ending_from}
use Rattle.screen_text.proofs.ShownLemmas.{text_from-new, ending_from-new}
use Rattle.ansi2text.proofs.streams.ShowingBeginShownWriterTextRows.begin.Goals as goal

pub returns-in-Ok-clause-text : goal.returns-in-Ok-clause-text
returns-in-Ok-clause-text g c = λ given begins.
    let closed = ap is_open c.new-in-Ok.ensures.rows ∙ c.new.ensures.closed in
    text_from-new is_open (screen_for (size_of c.args.self.now) given.read) c.new-in-Ok.result (c.new-in-Ok.ensures.screen ∙ screen-read (size_of c.args.self.now) c.args.front.now c.in-Ok.screen given begins c.in-Ok.ensures) closed given.calls

pub returns-in-Ok-clause-ending : goal.returns-in-Ok-clause-ending
returns-in-Ok-clause-ending g c = λ given begins.
    let closed = ap is_open c.new-in-Ok.ensures.rows ∙ c.new.ensures.closed in
    let screen = screen_for (size_of c.args.self.now) given.read in
    let performer = c.new-in-Ok.result in
    sym (append-nil (ending_from is_open row_text_at after_row after_command closing performer given.calls))
    ∙ ending_from-new is_open screen performer (c.new-in-Ok.ensures.screen ∙ screen-read (size_of c.args.self.now) c.args.front.now c.in-Ok.screen given begins c.in-Ok.ensures) closed given.calls
