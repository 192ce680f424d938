-- What a parser took and its calls added is what a state is fed.
use Rattle.std.proofs.Common.{◌≡◌, ◌<◌, ◌≤◌, ◌+◌, ℕ, zero, suc, List, [], ◌++◌, length, take, drop, refl, sym, ap, ◌∙◌, subst, arith}
use Rattle.std.proofs.Math.Seq.{take-append_seam, drop-append_seam}
use Rattle.anstyle_parse.specs.declared.accumulator.Utf8Parser.{Utf8Parser}
use Rattle.anstyle_parse.specs.declared.parser.Parser.{Parser}
use Rattle.anstyle_parse.specs.Stream.Call.{Call}
use Rattle.anstyle_parse.specs.Views.Accumulator.{front_of}
use Rattle.anstyle_parse.specs.Views.Parser.{IsAfter}
use Rattle.stream_state.specs.declared.state.StreamState.{StreamState}
use Rattle.stream_state.specs.State.{StandsFor}
use Rattle.event_pieces.specs.declared.event.Event.{Event}
use Rattle.event_pieces.specs.declared.feeding.Fed.{Fed}
use Rattle.event_pieces.specs.declared.writer.EventWriter.{EventWriter}
use Rattle.event_pieces.specs.Event.{records_of, calls_bytes, AreRecords}
use Rattle.event_pieces.specs.Feed.{least_events, least_room, most_events, most_room, AreEventsOf, Feeds, IsTaken}
use Rattle.event_pieces.specs.Writer.{with_items, Has}
use Rattle.event_pieces.specs.AddingProof.{with_items-nil, same_events_length, same_room_length}
use Rattle.event_pieces.proofs.Says.{are-records}

-- a writer that has written nothing
pub Has-nothing : (events : List Event) (room : List ℕ) (writer : EventWriter) → writer.written ≡ 0 → writer.used ≡ 0 → writer.events.now ≡ events → writer.room.now ≡ room
    → Has [] events room writer
Has-nothing events room writer empty unused events_begin room_begins = record {
  written = empty;
  used = unused;
  events_fit = omega arith;
  room_fits = omega arith;
  records_are = events_begin ∙ sym (with_items-nil 0 events);
  room_is = room_begins ∙ sym (with_items-nil 0 room);
}

-- items at the front, and what stands after them
module _ {A : Type 0} (items list : List A) where
  pub with_items-front : take (length items) (with_items 0 items list) ≡ items
  with_items-front = take-append_seam items (drop (0 + length items) list)

  pub with_items-rest : drop (length items) (with_items 0 items list) ≡ drop (length items) list
  with_items-rest =
      let none : 0 + length items ≡ length items = omega arith in
      drop-append_seam items (drop (0 + length items) list) ∙ ap (λ n. drop n list) none

-- where there is room for what one byte may lead to, one is taken
taken-some : (taken written used piece events room : ℕ) → 0 < piece → least_events ≤ events → least_room ≤ room → (taken ≡ 0 → written ≡ 0) → (taken ≡ 0 → used ≡ 0)
    → (written + least_events ≤ events → used + least_room ≤ room → taken ≡ piece) → 0 < taken
taken-some zero written used piece events room some enough_events enough_room none_written none_used all =
    let same = all (omega (arith, none_written refl)) (omega (arith, none_used refl)) in
    absurd (omega arith)
taken-some (suc n) written used piece events room some enough_events enough_room none_written none_used all = omega arith

-- a state is fed where a parser that stands for it takes bytes, and it is saved
module _ (old new : StreamState) (parser parser_after : Parser Utf8Parser) (piece : List ℕ) (events events_after : List Event) (room room_after : List ℕ)
    (writer writer_after : EventWriter) (fed : Fed)
    (resumed : (before : List ℕ) → StandsFor old before → IsAfter front_of parser before) (saved : (before : List ℕ) → IsAfter front_of parser_after before → StandsFor new before)
    (empty : writer.written ≡ 0) (unused : writer.used ≡ 0) (events_begin : writer.events.now ≡ events) (room_begins : writer.room.now ≡ room)
    (events_end : events_after ≡ writer_after.events.now) (room_ends : room_after ≡ writer_after.room.now)
    (counted : fed.written ≡ writer_after.written) (counted_room : fed.used ≡ writer_after.used)
    (took : IsTaken parser parser_after piece writer writer_after fed.taken) where
  abbrev records : List Event
  records = records_of 0 took.calls

  abbrev bytes : List ℕ
  bytes = calls_bytes took.calls

  begun : Has [] events room writer
  begun = Has-nothing events room writer empty unused events_begin room_begins

  has : Has took.calls events room writer_after
  has = took.added [] events room begun

  written_is : fed.written ≡ length records
  written_is = counted ∙ has.written

  used_is : fed.used ≡ length bytes
  used_is = counted_room ∙ has.used

  shown_events : events_after ≡ with_items 0 records events
  shown_events = events_end ∙ has.records_are

  shown_room : room_after ≡ with_items 0 bytes room
  shown_room = room_ends ∙ has.room_is

  events_front : take fed.written events_after ≡ records
  events_front = ap (λ n. take n events_after) written_is ∙ ap (λ l. take (length records) l) shown_events ∙ with_items-front records events

  room_front : take fed.used room_after ≡ bytes
  room_front = ap (λ n. take n room_after) used_is ∙ ap (λ l. take (length bytes) l) shown_room ∙ with_items-front bytes room

  pub none_written : fed.taken ≡ 0 → fed.written ≡ 0
  none_written e = written_is ∙ ap (λ (l : List Call). length (records_of 0 l)) (took.nothing e)

  pub none_used : fed.taken ≡ 0 → fed.used ≡ 0
  none_used e = used_is ∙ ap (λ (l : List Call). length (calls_bytes l)) (took.nothing e)

  are : AreRecords (take fed.used room_after) (take fed.written events_after) took.calls
  are = subst (λ (l : List ℕ). AreRecords l (take fed.written events_after) took.calls) (sym room_front)
      (subst (λ (l : List Event). AreRecords bytes l took.calls) (sym events_front) (are-records took.calls took.plain))

  said : (before : List ℕ) → StandsFor old before → AreEventsOf before (take fed.taken piece) (take fed.used room_after) (take fed.written events_after)
  said before is = (took.calls, took.continues before (resumed before is), are)

  module _ (all : writer_after.written + least_events ≤ length writer_after.events.now → writer_after.used + least_room ≤ length writer_after.room.now → fed.taken ≡ length piece)
      (at_once : writer.written + most_events (length piece) ≤ length writer.events.now → writer.used + most_room (length piece) ≤ length writer.room.now → fed.taken ≡ length piece)
      (enough_events : 0 < length piece → least_events ≤ length events) (enough_room : 0 < length piece → least_room ≤ length room) where
    all_taken : fed.written + least_events ≤ length events → fed.used + least_room ≤ length room → fed.taken ≡ length piece
    all_taken more_events more_room =
        let as_many = same_events_length took.calls events room writer_after has in
        let as_long = same_room_length took.calls events room writer_after has in
        all (omega (arith, counted, more_events, as_many)) (omega (arith, counted_room, more_room, as_long))

    pub Feeds-taken : Feeds old new piece events events_after room room_after fed
    Feeds-taken = record {
      enough_events = enough_events;
      enough_room = enough_room;
      taken_fits = took.taken_fits;
      written_fits = omega (arith, written_is, has.events_fit);
      used_fits = omega (arith, used_is, has.room_fits);
      stands = λ before is. saved (before ++ take fed.taken piece) (took.stands before (resumed before is));
      said = said;
      untouched_events = ap (λ n. drop n events_after) written_is ∙ ap (λ l. drop (length records) l) shown_events ∙ with_items-rest records events ∙ ap (λ n. drop n events) (sym written_is);
      untouched_room = ap (λ n. drop n room_after) used_is ∙ ap (λ l. drop (length bytes) l) shown_room ∙ with_items-rest bytes room ∙ ap (λ n. drop n room) (sym used_is);
      some_taken = λ some. taken-some fed.taken fed.written fed.used (length piece) (length events) (length room) some (enough_events some) (enough_room some) none_written none_used all_taken;
      all_taken = all_taken;
      taken_at_once = λ more_events more_room. at_once (omega (arith, more_events, empty, ap length events_begin)) (omega (arith, more_room, unused, ap length room_begins));
      bounded_events = omega (arith, counted, empty, took.few, took.bounded);
      none_written = none_written;
      none_used = none_used;
    }
