-- No calls were made, and nothing is held.
use Rattle.std.proofs.Common.{false, [], ap, ap₂, ◌∙◌}
use Rattle.anstyle_parse.specs.Machine.AsRead.{as_read}
use Rattle.stream_state.proofs.LogLemmas.{AreCalls-log_begins}
use Rattle.anstyle_parse.proofs.Division.Only.{AreCalls-only}
use Rattle.ansi_html.specs.Html.{Element, at_start, standing_at_end}
use Rattle.ansi_html.specs.Writer.{kept}
use Rattle.html_pieces.proofs.StateLemmas.{kept-start}
use Rattle.html_pieces.proofs.state.HtmlState.new.Goals as goal

pub returns-clause-begins : goal.returns-clause-begins
returns-clause-begins c = record {
  stream = c.new.ensures.begins_log;
  standing = λ calls are.
      ap₂ (λ (shown selected : Element). kept (record { shown = shown; selected = selected; returned = false })) c.none.ensures c.none-2.ensures
      ∙ kept-start ∙ ap (λ l. standing_at_end at_start l) (AreCalls-only (as_read []) [] calls AreCalls-log_begins are);
}
