-- Bytes are given one by one, each of their calls is noted, and what is noted are the ends of records.
use Rattle.std.proofs.Common.{◌≡◌, ◌<◌, ◌≤◌, ◌↔◌, ◌+◌, ◌-◌, ℕ, suc, List, [], ◌∷◌, ◌++◌, length, map, take, drop, get_or, min, refl, sym, ap, ◌∙◌, subst, append_assoc, append-nil, length-append, length-take, take_all, take-append-drop, arith, ⊎_elim}
use Rattle.std.specs.Prelude.{⊤}
use Rattle.std.proofs.Math.Seq.{take-append_seam}
use Rattle.std.proofs.lemmas.Bool.{cases_lt}
use Rattle.std.proofs.lemmas.List.{length-map, append_cancel_left, map-append, get_or_at, get_or_append_left, get_or-append-add, get_or-map, get_or-take, take-append-le, take_at}
use Rattle.anstyle_parse.specs.declared.accumulator.Utf8Parser.{Utf8Parser}
use Rattle.anstyle_parse.specs.declared.parser.Parser.{Parser}
use Rattle.anstyle_parse.specs.Views.Accumulator.{front_of, parser_added, parser_after}
use Rattle.anstyle_parse.specs.Views.DecodingProof.{Decodes-parser_after}
use Rattle.anstyle_parse.specs.Views.Parser.{machine_of, IsAfter, AreBelow}
use Rattle.anstyle_parse.specs.Machine.Decoder.{decoded}
use Rattle.anstyle_parse.specs.Machine.Stands.{seen}
use Rattle.anstyle_parse.specs.Machine.Step.{Machine, new_machine, step_calls, machine_after, machine_calls}
use Rattle.anstyle_parse.specs.Stream.Call.{Call, unhook, Goes}
use Rattle.anstyle_parse.specs.Stream.Calls.{Continues}
use Rattle.anstyle_parse.proofs.Agreement.Whole.{AreCalls-machine, Continues-machine, machine_calls-append}
use Rattle.anstyle_parse.proofs.Division.Only.{AreCalls-only}
use Rattle.anstyle_parse.proofs.Machine.Seen.{Seen-machine}
use Rattle.stream_state.specs.declared.state.StreamState.{StreamState}
use Rattle.stream_state.specs.State.{StandsFor}
use Rattle.event_pieces.specs.declared.event.Event.{Event}
use Rattle.event_pieces.specs.declared.end_writer.EndWriter.{EndWriter}
use Rattle.event_pieces.specs.Event.{read_events, records_of, calls_bytes}
use Rattle.event_pieces.specs.Feed.{AreEventsOf}
use Rattle.event_pieces.specs.Writer.{IsPlain, ArePlain}
use Rattle.event_pieces.specs.Ends.{BeginWith, IsEnd, AreEnds, FindsEnds}
use Rattle.event_pieces.specs.EndWriter.{Placed, ends_of, HasEnds, Notes, Gives}
use Rattle.event_pieces.specs.AddingProof.{AllByRecursion-front, calls_bytes-append}
use Rattle.event_pieces.proofs.Bounds.{plain-continued}
use Rattle.event_pieces.proofs.FeedLemmas.{with_items-front, with_items-rest}
use Rattle.event_pieces.proofs.Parted.{calls_in, EndsAt, ends-at, length-ends}
use Rattle.event_pieces.proofs.Placed.{all-noted}
use Rattle.event_pieces.proofs.RoomLemmas.{StandsAt}
use Rattle.event_pieces.proofs.Says.{reads-records}

abbrev made : Machine Utf8Parser → List ℕ → List Call
made machine bytes = machine_calls parser_after bytes machine

abbrev none : Placed
none = (unhook, 0)

-- the calls of the first bytes are the first of all
made-front : (machine : Machine Utf8Parser) (count : ℕ) (bytes : List ℕ) → (rest : List Call) × (made machine bytes ≡ made machine (take count bytes) ++ rest)
made-front machine count bytes = (
  made (machine_after parser_after (take count bytes) machine) (drop count bytes),
  sym (ap (made machine) (take-append-drop count bytes)) ∙ machine_calls-append parser_after (take count bytes) (drop count bytes) machine,
)

made-few : (machine : Machine Utf8Parser) (count : ℕ) (bytes : List ℕ) → length (made machine (take count bytes)) ≤ length (made machine bytes)
made-few machine count bytes =
    let front = made-front machine count bytes in
    omega (arith, ap length front.1, length-append (made machine (take count bytes)) front.0)

-- no bytes
pub Gives-none : (machine : Machine Utf8Parser) (writer : EndWriter) → Gives machine [] writer writer
Gives-none machine writer = record {
  calls = [];
  made = refl;
  placed = λ call count some few. absurd (omega (arith, some));
  noted = λ places has. has;
}

-- the writer knows which byte comes next
pub HasEnds-given : (calls : List Placed) (places : List ℕ) (old new : EndWriter) → new.written ≡ old.written → new.ends ≡ old.ends → new.is_in_text ≡ old.is_in_text → HasEnds calls places old → HasEnds calls places new
HasEnds-given calls places old new written ends text has = record {
  written = written ∙ has.written;
  ends = ap (λ ends. ends.now) ends ∙ has.ends;
  text = text ∙ has.text;
}

-- one byte more
module _ (machine : Machine Utf8Parser) (bytes : List ℕ) (byte : ℕ) (first old ready new : EndWriter) (gives : Gives machine bytes first old)
    (given : ready.given ≡ length bytes + 1) (same : (calls : List Placed) (places : List ℕ) → HasEnds calls places old → HasEnds calls places ready)
    (goes : Goes (λ old call new. Notes call old new) ready (step_calls parser_after byte (machine_after parser_after bytes machine)) new) where
  abbrev more : List Call
  more = step_calls parser_after byte (machine_after parser_after bytes machine)

  abbrev added : List Placed
  added = map (λ call. (call, ready.given)) more

  abbrev all : List ℕ
  all = bytes ++ byte ∷ []

  added-long : length added ≡ length more
  added-long = length-map more (λ call. (call, ready.given))

  made-all : made machine all ≡ made machine bytes ++ more
  made-all = machine_calls-append parser_after bytes (byte ∷ []) machine ∙ ap (λ l. made machine bytes ++ l) (append-nil more)

  all-long : length all ≡ length bytes + 1
  all-long = length-append bytes (byte ∷ [])

  as_many : length gives.calls ≡ length (made machine bytes)
  as_many = sym (length-map gives.calls (λ (placed : Placed). placed.0)) ∙ ap length gives.made

  -- the calls of fewer bytes, and of all
  made-before : (count : ℕ) → count ≤ length bytes → made machine (take count all) ≡ made machine (take count bytes)
  made-before count few = ap (made machine) (take-append-le count bytes (byte ∷ []) few)

  made-then : (count : ℕ) → length bytes < count → made machine (take count all) ≡ made machine all
  made-then count past = ap (made machine) (take_all count all (omega (arith, past, all-long)))

  long : length (gives.calls ++ added) ≡ length (made machine all)
  long = omega (arith, length-append gives.calls added, added-long, ap length made-all, length-append (made machine bytes) more, as_many)

  -- a call of the bytes before
  place-before : (call count : ℕ) → call < length gives.calls → count ≤ length all
      → ((get_or (gives.calls ++ added) call none).1 ≤ count ↔ call < length (made machine (take count all)))
  place-before call count here few =
      let same_place : (get_or (gives.calls ++ added) call none).1 ≡ (get_or gives.calls call none).1 =
      ap (λ (p : Placed). p.1) (get_or_append_left gives.calls added none call here) in
      let whole = gives.placed call (length bytes) here (omega arith) in
      let last = whole.1 (omega (arith, here, as_many, ap (λ l. length (made machine l)) (take_all (length bytes) bytes (omega arith)))) in
      ⊎_elim
      (λ (past : length bytes < count). (
        (λ le. omega (arith, here, long, length-append gives.calls added, ap length (made-then count past))),
        (λ lt. omega (arith, past, same_place, last)),
      ))
      (λ (within : count ≤ length bytes).
      let it = gives.placed call count here within in (
        (λ le. omega (arith, it.0 (omega (arith, le, same_place)), ap length (made-before count within))),
        (λ lt. omega (arith, it.1 (omega (arith, lt, ap length (made-before count within))), same_place)),
      ))
      (cases_lt (length bytes) count)

  -- and one of this byte
  place-added : (call count : ℕ) → length gives.calls ≤ call → call < length (gives.calls ++ added) → count ≤ length all
      → ((get_or (gives.calls ++ added) call none).1 ≤ count ↔ call < length (made machine (take count all)))
  place-added call count late here few =
      let at : call ≡ length gives.calls + (call - length gives.calls) = omega (arith, late) in
      let behind : call - length gives.calls < length more = omega (arith, late, here, length-append gives.calls added, added-long) in
      let same_place : (get_or (gives.calls ++ added) call none).1 ≡ length bytes + 1 =
      ap (λ n. (get_or (gives.calls ++ added) n none).1) at
      ∙ ap (λ (p : Placed). p.1) (get_or-append-add gives.calls added (call - length gives.calls) none)
      ∙ ap (λ (p : Placed). p.1) (get_or-map (λ c. (c, ready.given)) more (call - length gives.calls) unhook none behind)
      ∙ given in
      ⊎_elim
      (λ (past : length bytes < count). ((λ le. omega (arith, here, long, ap length (made-then count past))), (λ lt. omega (arith, past, same_place))))
      (λ (within : count ≤ length bytes). (
        (λ le. absurd (omega (arith, le, same_place, within))),
        (λ lt. absurd (omega (arith, lt, late, as_many, ap length (made-before count within), made-few machine count bytes))),
      ))
      (cases_lt (length bytes) count)

  pub same_reference : new.ends.ghost_name ≡ ready.ends.ghost_name
  same_reference = (all-noted more ready new goes).same_reference

  pub Gives-more : Gives machine all first new
  Gives-more = record {
    calls = gives.calls ++ added;
    made = map-append (λ (placed : Placed). placed.0) gives.calls added
        ∙ ap (λ l. l ++ map (λ (placed : Placed). placed.0) added) gives.made
        ∙ ap (λ l. made machine bytes ++ l) (calls-back more)
        ∙ sym made-all;
    placed = λ call count here few.
        ⊎_elim
        (λ (before : call < length gives.calls). place-before call count before few)
        (λ (late : length gives.calls ≤ call). place-added call count late here few)
        (cases_lt call (length gives.calls));
    noted = λ places has. (all-noted more ready new goes).noted gives.calls places (same gives.calls places (gives.noted places has));
  }
    where
      calls-back : (calls : List Call) → map (λ (placed : Placed). placed.0) (map (λ call. (call, ready.given)) calls) ≡ calls
      calls-back [] = refl
      calls-back (call ∷ calls) = ap (λ l. call ∷ l) (calls-back calls)

-- two lists of which one begins with both
begin-with : (front calls tail rest : List Call) → calls ++ tail ≡ front ++ rest → length front ≤ length calls → BeginWith front calls
begin-with front calls tail rest same long = (
  drop (length front) calls,
  sym (take-append-drop (length front) calls)
      ∙ ap (λ l. l ++ drop (length front) calls)
      (sym (take-append-le (length front) calls tail long) ∙ ap (take (length front)) same ∙ take-append_seam front rest),
)

-- what was given to a parser that stands after other bytes
module _ (parser : Parser Utf8Parser) (before bytes room : List ℕ) (events : List Event) (places places_after : List ℕ) (first last : EndWriter)
    (below : AreBelow 256 bytes) (stands : IsAfter front_of parser before) (are : AreEventsOf before bytes room events)
    (gives : Gives (machine_of parser) bytes first last) (begins : HasEnds [] places first) (shown : places_after ≡ last.ends.now) where
  abbrev machine : Machine Utf8Parser
  machine = machine_of parser

  below-front : (count : ℕ) → AreBelow 256 (take count bytes)
  below-front count = AllByRecursion-front (λ b. b < 256) (take count bytes) (drop count bytes) (subst (AreBelow 256) (sym (take-append-drop count bytes)) below)

  continues-made : (some : List ℕ) → AreBelow 256 some → Continues before some (made machine some)
  continues-made some small =
      subst (λ (calls : List Call). Continues before some calls) (sym (Seen-machine front_of (λ _ _. ⊤) parser_added parser_after Decodes-parser_after some small machine).1)
      (Continues-machine (seen front_of machine) before some stands)

  -- no other calls continue those of the bytes before
  only-made : (some : List ℕ) (calls : List Call) → AreBelow 256 some → Continues before some calls → calls ≡ made machine some
  only-made some calls small continues =
      let own = machine_calls decoded before (new_machine []) in
      let is = AreCalls-machine before in
      append_cancel_left own calls (made machine some) (AreCalls-only (before ++ some) (own ++ calls) (own ++ made machine some) (continues own is) (continues-made some small own is))

  calls-are : calls_in gives.calls ≡ are.0
  calls-are = gives.made ∙ sym (only-made bytes are.0 below are.1)

  has : HasEnds gives.calls places last
  has = gives.noted places begins

  records-are : events ≡ records_of 0 (calls_in gives.calls)
  records-are = are.2.records ∙ ap (records_of 0) (sym calls-are)

  pub found-counted : last.written ≡ min (length events) (length places)
  found-counted = omega (arith, has.written, length-ends 0 gives.calls, ap length records-are)

  plain : ArePlain (calls_in gives.calls)
  plain =
      subst ArePlain (sym (gives.made ∙ (Seen-machine front_of (λ _ _. ⊤) parser_added parser_after Decodes-parser_after bytes below machine).1))
      (plain-continued before bytes (machine_calls decoded bytes (seen front_of machine)) (seen front_of machine) stands (λ held is. Continues-machine (seen front_of machine) held bytes is))

  -- the record at a place
  module _ (place : ℕ) (within : place < length (ends_of gives.calls)) where
    abbrev found : EndsAt gives.calls 0 place
    found = ends-at gives.calls 0 place within

    abbrev front : List Call
    front = calls_in (found.before ++ found.last ∷ [])

    calls-split : calls_in gives.calls ≡ front ++ calls_in found.after
    calls-split =
        ap calls_in (found.whole ∙ sym (append_assoc found.before (found.last ∷ []) found.after))
        ∙ map-append (λ (placed : Placed). placed.0) (found.before ++ found.last ∷ []) found.after

    front-long : length front ≡ length found.before + 1
    front-long = length-map (found.before ++ found.last ∷ []) (λ (placed : Placed). placed.0) ∙ length-append found.before (found.last ∷ [])

    room-stands : StandsAt 0 (calls_bytes front) room
    room-stands = record {
      before = [];
      after = calls_bytes (calls_in found.after);
      whole = are.2.bytes ∙ ap calls_bytes (sym calls-are ∙ calls-split) ∙ calls_bytes-append front (calls_in found.after);
      at = refl;
    }

    read-front : read_events room (take (suc place) events) ≡ front
    read-front =
        ap (λ l. read_events room (take (suc place) l)) (records-are ∙ found.records)
        ∙ ap (read_events room) (take_at (records_of 0 front) found.others (suc place) found.many)
        ∙ (reads-records room 0 front (AllByRecursion-front IsPlain front (calls_in found.after) (subst ArePlain calls-split plain)) room-stands).same

    the-end : get_or (ends_of gives.calls) place 0 ≡ (get_or gives.calls (length found.before) none).1
    the-end = found.end ∙ sym (ap (λ (p : Placed). p.1) (ap (λ l. get_or l (length found.before) none) found.whole ∙ get_or_at found.before found.last found.after none (length found.before) refl))

    is-within : length found.before < length gives.calls
    is-within = omega (arith, ap length found.whole, length-append found.before (found.last ∷ found.after))

    made-begin : (count : ℕ) → (BeginWith front (made machine (take count bytes)) ↔ length found.before < length (made machine (take count bytes)))
    made-begin count = (
      (λ (rest, same). omega (arith, ap length same, length-append front rest, front-long)),
      (λ long.
          let tail = made-front machine count bytes in
          begin-with front (made machine (take count bytes)) tail.0 (calls_in found.after) (sym tail.1 ∙ sym gives.made ∙ calls-split) (omega (arith, long, front-long))),
    )

    pub is-end : IsEnd before bytes room events place (get_or (ends_of gives.calls) place 0)
    is-end = λ count calls few continues.
        let same = only-made (take count bytes) calls (below-front count) continues in
        let placed = gives.placed (length found.before) count is-within few in
        let begun = made-begin count in (
          (λ reached. subst (λ l. BeginWith l calls) (sym read-front) (subst (BeginWith front) (sym same) (begun.1 (placed.0 (omega (arith, reached, the-end)))))),
          (λ begin. omega (arith, placed.1 (begun.0 (subst (BeginWith front) same (subst (λ l. BeginWith l calls) read-front begin))), the-end)),
        )

  written-few : last.written ≡ length (take (length places) (ends_of gives.calls))
  written-few = omega (arith, has.written, length-take (length places) (ends_of gives.calls))

  ends-front : take last.written places_after ≡ take (length places) (ends_of gives.calls)
  ends-front =
      ap (λ n. take n places_after) written-few
      ∙ ap (take (length (take (length places) (ends_of gives.calls)))) (shown ∙ has.ends)
      ∙ with_items-front (take (length places) (ends_of gives.calls)) places

  pub are-ends : AreEnds before bytes room events (take last.written places_after)
  are-ends = λ place here.
      let front = ap length ends-front in
      let long = length-take (length places) (ends_of gives.calls) in
      let within : place < length (ends_of gives.calls) = omega (arith, here, front, long) in
      let free : place < length places = omega (arith, here, front, long) in
      subst (IsEnd before bytes room events place)
      (sym (ap (λ l. get_or l place 0) ends-front ∙ get_or-take (length places) (ends_of gives.calls) place 0 free))
      (is-end place within)

-- after what is written the places are as they were
pub ends-untouched : (calls : List Placed) (places places_after : List ℕ) (writer : EndWriter) → HasEnds calls places writer → places_after ≡ writer.ends.now
    → drop writer.written places_after ≡ drop writer.written places
ends-untouched calls places places_after writer has shown =
    let ends = take (length places) (ends_of calls) in
    let few : writer.written ≡ length ends = omega (arith, has.written, length-take (length places) (ends_of calls)) in
    ap (λ n. drop n places_after) few ∙ ap (drop (length ends)) (shown ∙ has.ends) ∙ with_items-rest ends places ∙ ap (λ n. drop n places) (sym few)

-- what was given to a parser that stands for a state
pub FindsEnds-given : (state : StreamState) (parser : Parser Utf8Parser) (bytes places places_after : List ℕ) (found : ℕ) (first last : EndWriter) → AreBelow 256 bytes
    → ((before : List ℕ) → StandsFor state before → IsAfter front_of parser before) → Gives (machine_of parser) bytes first last → HasEnds [] places first
    → places_after ≡ last.ends.now → found ≡ last.written → FindsEnds state bytes places places_after found
FindsEnds-given state parser bytes places places_after found first last below resumed gives begins shown counted = record {
  counted = λ before room events is are.
      counted ∙ found-counted parser before bytes room events places places_after first last below (resumed before is) are gives begins shown;
  are_ends = λ before room events is are.
      subst (λ n. AreEnds before bytes room events (take n places_after)) (sym counted)
      (are-ends parser before bytes room events places places_after first last below (resumed before is) are gives begins shown);
  untouched = subst (λ n. drop n places_after ≡ drop n places) (sym counted) (ends-untouched gives.calls places places_after last (gives.noted places begins) shown);
}
