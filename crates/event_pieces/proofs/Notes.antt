-- What calls add of which one record is noted.
use Rattle.std.proofs.Common.{◌≡◌, ◌<◌, ◌≤◌, ◌+◌, ◌-◌, ℕ, Bool, true, false, List, [], ◌∷◌, ◌++◌, length, drop, refl, sym, ap, ◌∙◌, subst, append_assoc, append-nil, length-append, arith}
use Rattle.std.specs.Prelude.{◌==◌}
use Rattle.anstyle_parse.specs.Stream.Call.{Call}
use Rattle.event_pieces.specs.declared.event.Event.{Event}
use Rattle.event_pieces.specs.declared.writer.EventWriter.{EventWriter}
use Rattle.event_pieces.specs.Event.{text_kind, is_text, with_length, kind_of, byte_of, flag_of, intermediates_of, record_with, record_of, records_of, call_bytes, calls_bytes}
use Rattle.event_pieces.specs.Writer.{with_items, Puts, Pushes, NotesText, text_from, Suits, Has, Adds}
use Rattle.event_pieces.specs.AddingProof.{with_items-twice, with_items-length, calls_bytes-append, same_events_length, same_room_length}
use Rattle.event_pieces.proofs.Records.{joined-text, joined-first, joined-second, glued, glued-last, records_of-append, records-follow, splits-last, last-ends, Follow}

-- as many after none
from_none : {a b : ℕ} → a ≡ b → a ≡ 0 + b
from_none same = omega (arith, same)

-- bytes of more calls are put, and the records are those of all
module _ (calls : List Call) (bytes : List ℕ) (old middle new : EventWriter) (have : calls_bytes calls ≡ bytes) (puts : Puts bytes old middle)
    (same_room : new.room ≡ middle.room) (same_used : new.used ≡ middle.used)
    (suits : Suits calls old) (before : List Call) (events : List Event) (room : List ℕ) (has : Has before events room old) where
  fits : old.used + length bytes ≤ length old.room.now
  fits = omega (arith, ap length have, suits.room_fits)

  all_bytes : calls_bytes (before ++ calls) ≡ calls_bytes before ++ bytes
  all_bytes = calls_bytes-append before calls ∙ ap (λ l. calls_bytes before ++ l) have

  all_length : length (calls_bytes (before ++ calls)) ≡ length (calls_bytes before) + length bytes
  all_length = ap length all_bytes ∙ length-append (calls_bytes before) bytes

  room_fits : length (calls_bytes before) + length bytes ≤ length room
  room_fits = omega (arith, fits, has.used, same_room_length before events room old has)

  new_used : new.used ≡ length (calls_bytes (before ++ calls))
  new_used = omega (arith, same_used, puts.used fits, has.used, all_length)

  new_room : new.room.now ≡ with_items 0 (calls_bytes (before ++ calls)) room
  new_room =
      ap (λ room. room.now) same_room
      ∙ puts.room fits
      ∙ ap (λ n. with_items n bytes old.room.now) (from_none has.used)
      ∙ ap (λ l. with_items (0 + length (calls_bytes before)) bytes l) has.room_is
      ∙ with_items-twice 0 (calls_bytes before) bytes room (omega (arith, room_fits, length-append (calls_bytes before) bytes))
      ∙ ap (λ l. with_items 0 l room) (sym all_bytes)

  pub Has-with : (records : List Event) → records_of 0 (before ++ calls) ≡ records → new.written ≡ length records → length records ≤ length events
      → new.events.now ≡ with_items 0 records events → Has (before ++ calls) events room new
  Has-with records are written fit shown = record {
    written = written ∙ ap length (sym are);
    used = new_used;
    events_fit = omega (arith, fit, ap length are);
    room_fits = omega (arith, all_length, room_fits);
    records_are = shown ∙ ap (λ l. with_items 0 l events) (sym are);
    room_is = new_room;
  }

-- one record more
module _ (old new : EventWriter) (event : Event) (records events : List Event) (pushes : Pushes event old new)
    (written : old.written ≡ length records) (shown : old.events.now ≡ with_items 0 records events) (fits : length records < length events) where
  within : old.written < length old.events.now
  within = omega (arith, fits, written, ap length shown, with_items-length 0 records events (omega arith))

  one_more : length (records ++ event ∷ []) ≡ length records + 1
  one_more = length-append records (event ∷ [])

  pub pushed-written : new.written ≡ length (records ++ event ∷ [])
  pushed-written = omega (arith, pushes.written within, written, one_more)

  pub pushed-events : new.events.now ≡ with_items 0 (records ++ event ∷ []) events
  pushed-events =
      pushes.events within
      ∙ ap (λ n. with_items n (event ∷ []) old.events.now) (from_none written)
      ∙ ap (λ l. with_items (0 + length records) (event ∷ []) l) shown
      ∙ with_items-twice 0 records (event ∷ []) events (omega (arith, fits, one_more))

-- one that is no text after others
glued-other : (event : Event) (records : List Event) → is_text event ≡ false → glued records (event ∷ []) ≡ records ++ event ∷ []
glued-other event [] other = refl
glued-other event (first ∷ []) other = joined-second first event [] other
glued-other event (first ∷ next ∷ records) other = ap (λ l. first ∷ l) (glued-other event (next ∷ records) other)

-- the records of a call that is no text, after those of others
records-other : (before : List Call) (call : Call) (place : ℕ) → length (calls_bytes before) ≡ place → is_text (record_of place call) ≡ false
    → records_of 0 (before ++ call ∷ []) ≡ records_of 0 before ++ record_of place call ∷ []
records-other before call place at other =
    records_of-append 0 before (call ∷ [])
    ∙ ap (λ n. glued (records_of 0 before) (record_of n call ∷ [])) (sym (from_none (sym at)))
    ∙ glued-other (record_of place call) (records_of 0 before) other

-- a call that is no text, of which a record is noted after its bytes were put
module _ (call : Call) (bytes : List ℕ) (size : ℕ) (old middle new : EventWriter) (have : call_bytes call ≡ bytes) (puts : Puts bytes old middle)
    (sized : middle.used ≡ old.used + length bytes → size ≡ length bytes)
    (pushes : Pushes (record_with old.used size (kind_of call) (byte_of call) (flag_of call) (intermediates_of call)) middle new)
    (other : (kind_of call == text_kind) ≡ false) where
  have_all : calls_bytes (call ∷ []) ≡ bytes
  have_all = append-nil (call_bytes call) ∙ have

  module _ (suits : Suits (call ∷ []) old) (before : List Call) (events : List Event) (room : List ℕ) (has : Has before events room old) where
    enough : old.used + length bytes ≤ length old.room.now
    enough = omega (arith, ap length have_all, suits.room_fits)

    is_record : record_with old.used size (kind_of call) (byte_of call) (flag_of call) (intermediates_of call) ≡ record_of old.used call
    is_record = ap (λ n. record_with old.used n (kind_of call) (byte_of call) (flag_of call) (intermediates_of call)) (sized (puts.used enough) ∙ ap length (sym have))

    pushes_it : Pushes (record_of old.used call) middle new
    pushes_it = subst (λ event. Pushes event middle new) is_record pushes

    written : middle.written ≡ length (records_of 0 before)
    written = puts.same_written ∙ has.written

    shown : middle.events.now ≡ with_items 0 (records_of 0 before) events
    shown = ap (λ events. events.now) puts.same_events ∙ has.records_are

    some : length (records_of 0 before) < length events
    some = omega (arith, suits.events_fit, has.written, same_events_length before events room old has)

    has_all : Has (before ++ call ∷ []) events room new
    has_all =
        let records = records_of 0 before in
        let event = record_of old.used call in
        Has-with (call ∷ []) bytes old middle new have_all puts pushes.same_room pushes.same_used suits before events room has
        (records ++ event ∷ []) (records-other before call old.used (sym has.used) other)
        (pushed-written middle new event records events pushes_it written shown some)
        (omega (arith, some, length-append records (event ∷ [])))
        (pushed-events middle new event records events pushes_it written shown some)

  pub Adds-note : Adds (call ∷ []) old new
  Adds-note = record {
    same_events = pushes.same_reference ∙ ap (λ events. events.ghost_name) puts.same_events;
    same_room = ap (λ room. room.ghost_name) pushes.same_room ∙ puts.same_reference;
    few = omega (arith, pushes.few, puts.same_written);
    added = has_all;
  }

-- a text of characters, after its bytes were put
module _ (calls : List Call) (text : List ℕ) (old middle new : EventWriter) (have : calls_bytes calls ≡ text) (some : 0 < length calls) (puts : Puts text old middle)
    (notes : NotesText old.used middle new)
    (one : (start : ℕ) → records_of start calls ≡ text_from start (start + length text) ∷ []) where
  module _ (suits : Suits calls old) (before : List Call) (events : List Event) (room : List ℕ) (has : Has before events room old) where
    text_enough : old.used + length text ≤ length old.room.now
    text_enough = omega (arith, ap length have, suits.room_fits)

    abbrev records : List Event
    records = records_of 0 before

    abbrev event : Event
    event = text_from old.used middle.used

    all_records : records_of 0 (before ++ calls) ≡ glued records (event ∷ [])
    all_records =
        records_of-append 0 before calls
        ∙ ap (λ n. glued records (records_of n calls)) (sym (from_none has.used))
        ∙ ap (λ es. glued records es) (one old.used)
        ∙ ap (λ n. glued records (text_from old.used n ∷ [])) (sym (puts.used text_enough))

    text_written : middle.written ≡ length records
    text_written = puts.same_written ∙ has.written

    text_shown : middle.events.now ≡ with_items 0 records events
    text_shown = ap (λ events. events.now) puts.same_events ∙ has.records_are

    text_fits : length records < length events
    text_fits = omega (arith, some, suits.events_fit, has.written, same_events_length before events room old has)

    -- a record more
    has_pushed : Pushes event middle new → glued records (event ∷ []) ≡ records ++ event ∷ [] → Has (before ++ calls) events room new
    has_pushed pushes apart =
        Has-with calls text old middle new have puts notes.same_room notes.same_used suits before events room has
        (records ++ event ∷ []) (all_records ∙ apart)
        (pushed-written middle new event records events pushes text_written text_shown text_fits)
        (omega (arith, text_fits, length-append records (event ∷ [])))
        (pushed-events middle new event records events pushes text_written text_shown text_fits)

    -- a last record
    module _ (front : List Event) (last : Event) (whole : records ≡ front ++ last ∷ []) where
      abbrev rest : List Event
      rest = drop (0 + length records) events

      stands : middle.events.now ≡ front ++ last ∷ rest
      stands = text_shown ∙ ap (λ l. l ++ rest) whole ∙ append_assoc front (last ∷ []) rest

      at : middle.written ≡ length front + 1
      at = omega (arith, text_written, ap length whole, length-append front (last ∷ []))

      ends : last.start + last.length ≡ old.used
      ends = omega (arith, last-ends 0 (0 + length (calls_bytes before)) front last (subst (λ es. Follow 0 es (0 + length (calls_bytes before))) whole (records-follow 0 before)), has.used)

      abbrev longer : Event
      longer = with_length last (middle.used - last.start)

      grown : middle.used - last.start ≡ last.length + (middle.used - old.used)
      grown = omega (arith, ends, puts.used text_enough)

      as_long : length (front ++ longer ∷ []) ≡ length records
      as_long = omega (arith, ap length whole, length-append front (last ∷ []), length-append front (longer ∷ []))

      has_longer : is_text last ≡ true → Has (before ++ calls) events room new
      has_longer is =
          let changed = notes.longer front last rest stands at is in
          Has-with calls text old middle new have puts notes.same_room notes.same_used suits before events room has
          (front ++ longer ∷ [])
          (all_records ∙ ap (λ es. glued es (event ∷ [])) whole ∙ glued-last front last (event ∷ []) ∙ ap (λ es. front ++ es) (joined-text last event [] is refl ∙ ap (λ n. with_length last n ∷ []) (sym grown)))
          (omega (arith, changed.0, text_written, as_long))
          (omega (arith, as_long, text_fits))
          (changed.1 ∙ sym (ap (λ n. (front ++ longer ∷ []) ++ drop (0 + n) events) as_long ∙ append_assoc front (longer ∷ []) rest))

      has_behind : is_text last ≡ false → Has (before ++ calls) events room new
      has_behind other =
          has_pushed (notes.behind front last rest stands at other)
          (ap (λ es. glued es (event ∷ [])) whole ∙ glued-last front last (event ∷ []) ∙ ap (λ es. front ++ es) (joined-first last event [] other) ∙ sym (append_assoc front (last ∷ []) (event ∷ [])) ∙ ap (λ es. es ++ event ∷ []) (sym whole))

      has_last : (is : Bool) → is_text last ≡ is → Has (before ++ calls) events room new
      has_last true p = has_longer p
      has_last false p = has_behind p

    has_text : (found : List Event) → records ≡ found → Has (before ++ calls) events room new
    has_text [] none = has_pushed (notes.first (text_written ∙ ap length none)) (ap (λ es. glued es (event ∷ [])) none ∙ ap (λ es. es ++ event ∷ []) (sym none))
    has_text (first ∷ others) are =
        let split = splits-last first others in
        has_last split.front split.last (are ∙ split.whole) (is_text split.last) refl

  pub Adds-text : Adds calls old new
  Adds-text = record {
    same_events = notes.same_reference ∙ ap (λ events. events.ghost_name) puts.same_events;
    same_room = ap (λ room. room.ghost_name) notes.same_room ∙ puts.same_reference;
    few = omega (arith, notes.few, puts.same_written, some);
    added = λ suits before events room has. has_text suits before events room has (records_of 0 before) refl;
  }
