-- No calls were made, and nothing is held.
use Rattle.std.proofs.Common.{false, [], refl, ap, ◌∙◌}
use Rattle.anstyle_parse.specs.Machine.AsRead.{as_read}
use Rattle.anstyle_parse.proofs.Division.Only.{AreCalls-only}
use Rattle.stream_state.proofs.LogLemmas.{AreCalls-log_begins}
use Rattle.ansi_style.specs.Style.{plain}
use Rattle.safe_text.specs.Decided.{last_from, waiting}
use Rattle.safe_text.specs.Marks.{nothing_hidden, marked_from, hiding_from}
use Rattle.safe_text.proofs.MarkLemmas.{hiding-same}
use Rattle.safe_pieces.proofs.state.SafeState.new.Goals as goal

pub returns : goal.returns
returns c = record {
  stream = c.new.ensures.begins_log;
  last = λ calls are. ap (λ l. last_from 0 (marked_from nothing_hidden l)) (AreCalls-only (as_read []) [] calls AreCalls-log_begins are);
  held = λ calls are. ap (λ l. waiting (marked_from nothing_hidden l)) (AreCalls-only (as_read []) [] calls AreCalls-log_begins are);
  hiding = λ calls are.
      hiding-same _ plain false false (c.of.ensures ∙ c.default-style.ensures) refl
      ∙ ap (hiding_from nothing_hidden) (AreCalls-only (as_read []) [] calls AreCalls-log_begins are);
}
