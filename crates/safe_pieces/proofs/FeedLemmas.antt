-- Pieces one after another, and what a state is fed.
use Rattle.std.proofs.Common.{◌≡◌, ◌<◌, ◌≤◌, ◌+◌, ◌*◌, ℕ, List, [], ◌++◌, length, take, drop, refl, sym, ap, ap₂, ◌∙◌, subst, arith, append-nil, append_assoc, length-append, length-take, length-drop, zero, suc}
use Rattle.std.specs.List.{AllByRecursion}
use Rattle.std.specs.Str.{encode_utf8_all, chars}
use Rattle.std.specs.Prelude.{IsTrue, IsUtf8, None, Result}
use Rattle.std.proofs.lemmas.Str.{encodes-append}
use Rattle.anstyle_parse.specs.Machine.AsRead.{as_read, as_read_whole}
use Rattle.anstyle_parse.specs.Machine.Decoder.{decoded}
use Rattle.anstyle_parse.specs.Machine.Step.{new_machine, machine_calls}
use Rattle.anstyle_parse.specs.Stream.Call.{Call}
use Rattle.anstyle_parse.specs.Stream.Calls.{AreCalls}
use Rattle.anstyle_parse.proofs.Division.Only.{AreCalls-only}
use Rattle.anstyle_parse.proofs.Agreement.Whole.{AreCalls-machine}
use Rattle.anstyle_parse.specs.declared.io.Fault.{Fault}
use Rattle.anstyle_parse.specs.Io.Output.{writer_in, fault_in, Finishes}
use Rattle.stream_state.specs.contracts.bounded_sink.LentBytesSink.TheImpl.{ghosts}
use Rattle.stream_state.specs.declared.bounded_sink.LentBytes.{LentBytes}
use Rattle.stream_state.specs.Lent.{limit_of, held_in as bytes_in}
use Rattle.stream_state.specs.Log.{StandsForLog, EndsLog}
use Rattle.stream_state.specs.State.{pending_of}
use Rattle.stream_state.proofs.LogLemmas.{any_log, lawful-log, ContinuesLog-append, ContinuesLog-nil}
use Rattle.stream_state.proofs.LentLemmas.{both-front, both-behind, both-length, held-all, no_fault-within}
use Rattle.safe_text.specs.Classes.{is_of_safe_text}
use Rattle.safe_text.specs.Safe.{safe_from}
use Rattle.safe_text.specs.Decided.{decided_from, last_from, waiting}
use Rattle.safe_text.specs.Marks.{Hiding, nothing_hidden, marked_from, hiding_from, closing, safe_marked, decided_marked}
use Rattle.safe_text.specs.MarkingProof.{marked-append, hiding-append}
use Rattle.safe_text.specs.TakingProof.{held-waits, decided_from-append, waiting-append, last_from-append}
use Rattle.safe_text.specs.declared.marking.MarkingWriter.{MarkingWriter}
use Rattle.safe_text.specs.Writer.{before_in as writer_before, held_in as writer_held}
use Rattle.safe_text.specs.MarkingWriter.{writer_in as safe_writer, output_in, hiding_in as writer_hiding, text_from, TakesMarked}
use Rattle.safe_text.proofs.MarkedLemmas.{length-from}
use Rattle.safe_text.proofs.WholeLemmas.{IsItem, all-items, all-append}
use Rattle.safe_text.proofs.PieceLemmas.{items-later, decided-append, last-append, waiting-more, decided-then-end, decided-utf8, decided-class, length-decided, length-held, held-scalars}
use Rattle.safe_pieces.specs.declared.state.SafeState.{SafeState}
use Rattle.safe_pieces.specs.Sizes.{at_once, least_room}
use Rattle.safe_pieces.specs.State.{held_numbered, before_in, held_in, hiding_in, StandsFor}
use Rattle.safe_pieces.specs.Feed.{Takes, Feeds}

-- no bytes
pub Takes-nil : (state : SafeState) (room : List ℕ) → Takes state state [] room room 0
Takes-nil state room =
    let at = held-waits (held_numbered state.held) (before_in state) in
    let none : held_in state ++ [] ≡ held_in state = append-nil (held_in state) in
    record {
      calls = [];
      continues = λ before is. ContinuesLog-nil before;
      stream = λ before is. subst (λ l. StandsForLog state.stream l) (sym (append-nil before)) is;
      last = sym (ap (last_from (before_in state)) none ∙ at.2);
      held = sym (ap waiting none ∙ at.1);
      hiding = refl;
      few_calls = omega arith;
      same_length = refl;
      written_fits = omega arith;
      text = sym (ap encode_utf8_all (ap (decided_from (before_in state)) none ∙ at.0));
      untouched = refl;
    }

-- some bytes, and then others, whose text goes to what is left of the room
module _ (old mid new : SafeState) (piece more room between rest after : List ℕ) (written further : ℕ)
    (one : Takes old mid piece room between written) (two : Takes mid new more (drop written between) rest further)
    (whole : after ≡ take written between ++ rest) where
  abbrev first : List ℕ
  first = held_in old ++ marked_from (hiding_in old) one.calls

  abbrev second : List ℕ
  second = marked_from (hiding_from (hiding_in old) one.calls) two.calls

  joined : held_in old ++ marked_from (hiding_in old) (one.calls ++ two.calls) ≡ first ++ second
  joined =
      ap (λ l. held_in old ++ l) (marked-append (hiding_in old) one.calls two.calls)
      ∙ sym (append_assoc (held_in old) (marked_from (hiding_in old) one.calls) second)

  -- what comes then, where the first bytes are taken
  behind : held_in mid ++ marked_from (hiding_in mid) two.calls ≡ waiting first ++ second
  behind = ap₂ (λ h at. h ++ marked_from at two.calls) one.held one.hiding

  text-both : take (written + further) after ≡ encode_utf8_all (decided_from (before_in old) (held_in old ++ marked_from (hiding_in old) (one.calls ++ two.calls)))
  text-both =
      both-front room between rest after written further one.same_length one.written_fits whole ∙ ap₂ (λ (l r : List ℕ). l ++ r) one.text two.text
      ∙ ap₂ (λ b l. encode_utf8_all (decided_from (before_in old) first) ++ encode_utf8_all (decided_from b l)) one.last behind
      ∙ sym (encodes-append (decided_from (before_in old) first) (decided_from (last_from (before_in old) first) (waiting first ++ second)))
      ∙ ap encode_utf8_all (sym (decided_from-append (before_in old) first second))
      ∙ ap (λ l. encode_utf8_all (decided_from (before_in old) l)) (sym joined)

  pub Takes-append : Takes old new (piece ++ more) room after (written + further)
  Takes-append = record {
    calls = one.calls ++ two.calls;
    continues = λ before is. ContinuesLog-append before piece more one.calls two.calls (one.continues before is) (two.continues (before ++ piece) (one.stream before is));
    stream = λ before is. subst (λ l. StandsForLog new.stream l) (append_assoc before piece more) (two.stream (before ++ piece) (one.stream before is));
    last = two.last ∙ ap₂ last_from one.last behind ∙ sym (last_from-append (before_in old) first second) ∙ ap (last_from (before_in old)) (sym joined);
    held = two.held ∙ ap waiting behind ∙ sym (waiting-append first second) ∙ ap waiting (sym joined);
    hiding = two.hiding ∙ ap (λ at. hiding_from at two.calls) one.hiding ∙ sym (hiding-append (hiding_in old) one.calls two.calls);
    few_calls = omega (arith, one.few_calls, two.few_calls, length-append one.calls two.calls, length-append piece more);
    same_length = both-length room between rest after written further one.same_length one.written_fits whole two.same_length;
    written_fits = omega (arith, two.written_fits, length-drop written between, one.same_length, one.written_fits);
    text = text-both;
    untouched = both-behind room between rest after written further one.same_length one.written_fits whole two.untouched one.untouched;
  }

-- what comes then, where the state stands for some bytes
stands-behind : (old : SafeState) (calls : List Call) (before : List ℕ) → StandsFor old before → (own : List Call) → AreCalls (as_read before) own
    → held_in old ++ marked_from (hiding_in old) calls ≡ waiting (marked_from nothing_hidden own) ++ marked_from (hiding_from nothing_hidden own) calls
stands-behind old calls before is own are = ap₂ (λ h at. h ++ marked_from at calls) (is.held own are) (is.hiding own are)

module _ (old new : SafeState) (piece room room_after : List ℕ) (written : ℕ) (takes : Takes old new piece room room_after written) where
  -- where the safe text stands after these bytes too
  pub StandsFor-taken : (before : List ℕ) → StandsFor old before → StandsFor new (before ++ piece)
  StandsFor-taken before is =
      let own = machine_calls decoded (as_read before) (new_machine []) in
      let are = AreCalls-machine (as_read before) in
      let only : (calls : List Call) → AreCalls (as_read (before ++ piece)) calls → own ++ takes.calls ≡ calls =
      λ calls these. AreCalls-only (as_read (before ++ piece)) (own ++ takes.calls) calls (takes.continues before is.stream own are) these in
      record {
        stream = takes.stream before is.stream;
        last = λ calls these.
            takes.last ∙ ap₂ last_from (is.last own are) (stands-behind old takes.calls before is own are)
            ∙ sym (last-append own takes.calls) ∙ ap (λ l. last_from 0 (marked_from nothing_hidden l)) (only calls these);
        held = λ calls these.
            takes.held ∙ ap waiting (stands-behind old takes.calls before is own are)
            ∙ sym (waiting-more own takes.calls) ∙ ap (λ l. waiting (marked_from nothing_hidden l)) (only calls these);
        hiding = λ calls these.
            takes.hiding ∙ ap (λ at. hiding_from at takes.calls) (is.hiding own are)
            ∙ sym (hiding-append nothing_hidden own takes.calls) ∙ ap (hiding_from nothing_hidden) (only calls these);
      }

  -- what is then decided
  text-taken : (before : List ℕ) → StandsFor old before → (own all : List Call) → AreCalls (as_read before) own → AreCalls (as_read (before ++ piece)) all
      → decided_marked all ≡ decided_marked own ++ take written room_after
  text-taken before is own all are these =
      ap decided_marked (AreCalls-only (as_read (before ++ piece)) all (own ++ takes.calls) these (takes.continues before is.stream own are))
      ∙ decided-append own takes.calls
      ∙ ap (λ t. decided_marked own ++ t)
      (ap₂ (λ b l. encode_utf8_all (decided_from b l)) (sym (is.last own are)) (sym (stands-behind old takes.calls before is own are)) ∙ sym takes.text)

  -- it is made of scalar values and marks
  abbrev made_of : List ℕ
  made_of = held_in old ++ marked_from (hiding_in old) takes.calls

  items-taken : AllByRecursion IsItem made_of
  items-taken =
      let log = any_log (pending_of old.stream) in
      let own = machine_calls decoded (as_read log.0) (new_machine []) in
      all-append IsItem (held_in old) (marked_from (hiding_in old) takes.calls) (all-items (held_in old) (held-scalars (held_numbered old.held)))
      (items-later (hiding_in old) own takes.calls (lawful-log log.0 piece takes.calls (takes.continues log.0 log.1)))

  utf8-taken : IsUtf8 (take written room_after)
  utf8-taken = subst IsUtf8 (sym takes.text) (decided-utf8 (before_in old) made_of items-taken)

  class-taken : AllByRecursion (λ c. IsTrue (is_of_safe_text c)) (chars (take written room_after))
  class-taken =
      subst (λ (t : List ℕ). AllByRecursion (λ c. IsTrue (is_of_safe_text c)) (chars t)) (sym takes.text) (decided-class (before_in old) made_of items-taken)

  pub bounded-taken : written ≤ 40 * length piece + 20
  bounded-taken =
      omega (
        arith,
        length-take written room_after,
        takes.same_length,
        takes.written_fits,
        ap length takes.text,
        length-decided (before_in old) made_of,
        length-append (held_in old) (marked_from (hiding_in old) takes.calls),
        length-held (held_numbered old.held),
        length-from (hiding_in old) takes.calls,
        takes.few_calls,
      )

pub Feeds-taken : (old new : SafeState) (piece room room_after : List ℕ) (taken written : ℕ)
    → (0 < length piece → least_room ≤ length room) → taken ≤ length piece → (0 < length piece → 0 < taken)
    → (at_once (length piece) ≤ length room → taken ≡ length piece)
    → Takes old new (take taken piece) room room_after written → Feeds old new piece room room_after taken written
Feeds-taken old new piece room room_after taken written enough fits some all takes =
    let bytes = take taken piece in
    record {
      enough_room = enough;
      taken_fits = fits;
      written_fits = takes.written_fits;
      takes = takes;
      stands = StandsFor-taken old new bytes room room_after written takes;
      text = text-taken old new bytes room room_after written takes;
      utf8 = utf8-taken old new bytes room room_after written takes;
      of_the_class = class-taken old new bytes room room_after written takes;
      some_taken = some;
      taken_at_once = all;
      bounded = omega (arith, bounded-taken old new bytes room room_after written takes, length-take taken piece);
    }

-- where the next part is empty only if nothing is left, nothing is
pub none-left : (rest next : ℕ) → (0 < rest → 0 < next) → next ≡ 0 → rest ≡ 0
none-left zero next some none = refl
none-left (suc n) next some none = absurd (let more = some (omega arith) in omega arith)

-- the text of a part: it is not long,
pub text-short : (writer : MarkingWriter LentBytes) (calls : List Call) → length (text_from writer calls) ≤ 20 * length calls + 20
text-short writer calls =
    omega (
      arith,
      length-decided (writer_before (safe_writer writer)) (writer_held (safe_writer writer) ++ marked_from (writer_hiding writer) calls),
      length-append (writer_held (safe_writer writer)) (marked_from (writer_hiding writer) calls),
      length-held (safe_writer writer).held,
      length-from (writer_hiding writer) calls,
    )

-- so all of it is held
pub text-held : {T : Type 0} (start : LentBytes) (writer after : MarkingWriter LentBytes) (calls : List Call) (buffer : LentBytes) (answer : Result T Fault)
    → writer_in (output_in writer) ≡ start → bytes_in start ≡ [] → fault_in (output_in writer) ≡ None
    → TakesMarked ghosts writer calls after → 20 * length calls + 20 ≤ limit_of start → Finishes ghosts (output_in after) buffer answer
    → bytes_in buffer ≡ text_from writer calls
text-held start writer after calls buffer answer begins empty without taken fits finishes =
    let text = text_from writer calls in
    let added = taken.taken.added in
    let no_fault = no_fault-within text start (output_in writer) (output_in after) begins empty without added (omega (arith, text-short writer calls, fits)) in
    (held-all text start (output_in writer) (output_in after) begins empty without added buffer answer no_fault finishes).1

-- where the stream ends, that is what the state still writes
pub end-rest : (old : SafeState) (calls : List Call) → ((before : List ℕ) → StandsForLog old.stream before → EndsLog before calls)
    → (before : List ℕ) → StandsFor old before → (own all : List Call) → AreCalls (as_read before) own → AreCalls (as_read_whole before) all
    → safe_marked all
    ≡ decided_marked own
    ++ encode_utf8_all (safe_from (before_in old) (held_in old ++ (marked_from (hiding_in old) calls ++ closing (hiding_from (hiding_in old) calls))))
end-rest old calls adds before is own all are these =
    let rest : Hiding → List ℕ = λ at. marked_from at calls ++ closing (hiding_from at calls) in
    ap safe_marked (AreCalls-only (as_read_whole before) all (own ++ calls) these (adds before is.stream own are))
    ∙ decided-then-end own calls
    ∙ ap (λ t. decided_marked own ++ t)
    (ap₂ (λ b l. encode_utf8_all (safe_from b l)) (sym (is.last own are))
    (ap₂ (λ h at. h ++ rest at) (sym (is.held own are)) (sym (is.hiding own are))))
