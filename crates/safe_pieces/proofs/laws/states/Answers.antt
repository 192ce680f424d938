-- Nothing is held.
use Rattle.std.proofs.Common.{ℕ, List, [], take, refl, ap, ap₂, sym, ◌∙◌, subst}
use Rattle.std.specs.Prelude.{◌==◌}
use Rattle.anstyle_parse.specs.Machine.AsRead.{as_read}
use Rattle.anstyle_parse.proofs.Division.Only.{AreCalls-only}
use Rattle.stream_state.proofs.LogLemmas.{AreCalls-log_begins}
use Rattle.anstyle_parse.specs.Machine.Decoder.{decoded}
use Rattle.anstyle_parse.specs.Machine.Step.{new_machine, machine_after}
use Rattle.anstyle_parse.specs.Machine.Stands.{StandsAfter}
use Rattle.ansi_style.specs.Bytes.{style_of}
use Rattle.safe_text.specs.Held.{held_characters}
use Rattle.safe_text.specs.Decided.{last_from, waiting}
use Rattle.safe_text.specs.Marks.{nothing_hidden, marked_from, hiding_from}
use Rattle.safe_text.proofs.MarkLemmas.{hiding}
use Rattle.safe_pieces.specs.State.{character_numbered, held_numbered}
use Rattle.safe_pieces.proofs.laws.states.Goals as goal

pub returns : goal.returns
unfolding as_read
returns c = λ state zero. record {
  stream = subst (λ (l : List ℕ). StandsAfter (machine_after decoded l (new_machine [])) (as_read [])) (sym (ap (λ n. take n state.stream.pending) zero.stream)) refl;
  last = λ calls are. ap character_numbered zero.before ∙ ap (λ l. last_from 0 (marked_from nothing_hidden l)) (AreCalls-only (as_read []) [] calls AreCalls-log_begins are);
  held = λ calls are. ap (λ n. held_characters (held_numbered n)) zero.held ∙ ap (λ l. waiting (marked_from nothing_hidden l)) (AreCalls-only (as_read []) [] calls AreCalls-log_begins are);
  hiding = λ calls are.
      ap₂ (λ s o. hiding (style_of s) (o == 1)) zero.style zero.is_open
      ∙ ap (hiding_from nothing_hidden) (AreCalls-only (as_read []) [] calls AreCalls-log_begins are);
}
