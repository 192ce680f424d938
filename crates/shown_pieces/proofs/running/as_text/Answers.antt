-- A new writer has written nothing.
use Rattle.std.proofs.Common.{sym, ap, ◌∙◌, subst, append-nil}
use Rattle.screen_text.specs.Lines.{output_of, is_open, row_text_at, after_row, after_command, closing}
use Rattle.screen_text.specs.Recording.{screen_for}
use Rattle.screen_text.specs.Writer.{ending_from}
use Rattle.screen_text.proofs.ShownLemmas.{text_from-new, ending_from-new}
use Rattle.shown_pieces.specs.Running.{IsEmpty}
use Rattle.shown_pieces.proofs.running.as_text.Goals as goal

pub returns : goal.returns
returns c = λ size form whole is same.
    let performer = c.new-performer.result in
    let shows = c.new-performer.ensures.screen ∙ same in
    let closed = ap is_open c.new-performer.ensures.rows ∙ c.new-rows.ensures.closed in (
      is,
      performer,
      record {
        output = subst IsEmpty (sym (ap output_of c.new-performer.ensures.rows ∙ c.new-rows.ensures.output)) c.requires;
        text = text_from-new is_open (screen_for size whole) performer shows closed;
        ending = λ calls. sym (append-nil (ending_from is_open row_text_at after_row after_command closing performer calls))
            ∙ ending_from-new is_open (screen_for size whole) performer shows closed calls;
      },
      c.new.ensures,
    )
