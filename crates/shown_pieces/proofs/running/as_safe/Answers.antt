-- A new writer has written nothing.
use Rattle.std.proofs.Common.{sym, ap, ◌∙◌, subst}
use Rattle.screen_safe.specs.Writer.{output_of, standing_of}
use Rattle.screen_safe.proofs.RowLemmas.{left-new, ending-new}
use Rattle.screen_text.specs.Recording.{screen_for}
use Rattle.shown_pieces.specs.Running.{IsEmpty}
use Rattle.shown_pieces.proofs.running.as_safe.Goals as goal

pub returns : goal.returns
returns c = λ size form whole is same.
    let performer = c.new-performer.result in
    let shows = c.new-performer.ensures.screen ∙ same in
    let new = ap standing_of c.new-performer.ensures.rows ∙ c.new-rows.ensures.new in (
      is,
      performer,
      record {
        output = subst IsEmpty (sym (ap output_of c.new-performer.ensures.rows ∙ c.new-rows.ensures.output)) c.requires;
        text = left-new standing_of (screen_for size whole) performer shows new;
        ending = ending-new standing_of (screen_for size whole) performer shows new;
      },
      c.new.ensures,
    )
