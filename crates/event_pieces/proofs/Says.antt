-- The records of calls say these, read with the room that has their bytes.
use Rattle.std.proofs.Common.{◌≡◌, ◌<◌, ◌≤◌, ◌+◌, ℕ, Bool, true, false, List, [], ◌∷◌, ◌++◌, length, map, take, drop, refl, sym, ap, ◌∙◌, subst, append_assoc, append-nil, arith}
use Rattle.std.specs.Prelude.{if◌then◌else◌}
use Rattle.std.specs.Str.{IsUtf8}
use Rattle.std.proofs.Math.Seq.{take-add}
use Rattle.std.proofs.lemmas.Bool.{eqb-true}
use Rattle.std.proofs.lemmas.List.{drop-drop, map-append}
use Rattle.std.proofs.lemmas.Str.{IsUtf8-append, IsUtf8-encode, chars-append}
use Rattle.anstyle_parse.specs.Stream.Call.{Call, print, execute, hook, put, unhook, osc_dispatch, csi_dispatch, esc_dispatch}
use Rattle.anstyle_parse.specs.Stream.Texts.{text_calls}
use Rattle.anstyle_parse.proofs.Characters.Scalars.{length-encode-some}
use Rattle.event_pieces.specs.declared.event.Event.{Event}
use Rattle.event_pieces.specs.Event.{text_kind, esc_kind, is_set, max_intermediates, bytes_in, intermediates_in, calls_by, read_event, read_events, IsSound, Reads, AreRecords, call_bytes, calls_bytes, kind_of, byte_of, flag_of, intermediates_of, record_of, records_of, is_text, joined, with_length}
use Rattle.event_pieces.specs.Writer.{IsPlain, ArePlain}
use Rattle.event_pieces.proofs.Fields.{groups_in-bytes, parts_in-joined}
use Rattle.event_pieces.proofs.Records.{joined-text, joined-first, joined-second, Follow, records-follow}
use Rattle.event_pieces.proofs.RoomLemmas.{StandsAt, StandsAt-front, StandsAt-back, StandsAt-bytes, StandsAt-within}
use Rattle.event_pieces.proofs.Texts.{text-one}

-- what a record has of a flag and of two intermediates at most
flag-back : (flag : Bool) → is_set (if flag then 1 else 0) ≡ flag
flag-back true = refl
flag-back false = refl

flag-small : (flag : Bool) → (if flag then 1 else 0) ≤ 1
flag-small true = omega arith
flag-small false = omega arith

few-back : (bytes : List ℕ) → length bytes ≤ max_intermediates → take (length (take max_intermediates bytes)) (take max_intermediates (bytes ++ 0 ∷ 0 ∷ [])) ≡ bytes
few-back [] few = refl
few-back (a ∷ []) few = refl
few-back (a ∷ b ∷ []) few = refl
few-back (a ∷ b ∷ c ∷ bytes) few = absurd (omega (arith, few))

few-count : (bytes : List ℕ) → length (take max_intermediates bytes) ≤ max_intermediates
few-count [] = omega arith
few-count (a ∷ []) = omega arith
few-count (a ∷ b ∷ bytes) = omega arith

same_of_three : (kind byte : ℕ) (f g : Bool) (a b c d : List ℕ) → f ≡ g → a ≡ b → c ≡ d → calls_by kind byte f a c ≡ calls_by kind byte g b d
same_of_three kind byte f g a b c d p q r = cc

-- a call by what its record has
calls-back : (call : Call) → IsPlain call → calls_by (kind_of call) (byte_of call) (flag_of call) (intermediates_of call) (call_bytes call) ≡ call ∷ []
calls-back (print character) plain = text-one character plain
calls-back (execute byte) plain = refl
calls-back (hook groups intermediates ignore final) plain = ap (λ gs. hook gs intermediates ignore final ∷ []) (groups_in-bytes groups plain.0)
calls-back (put byte) plain = refl
calls-back unhook plain = refl
calls-back (osc_dispatch parts bell) plain = ap (λ ps. osc_dispatch ps bell ∷ []) (parts_in-joined parts plain.0 plain.1)
calls-back (csi_dispatch groups intermediates ignore final) plain = ap (λ gs. csi_dispatch gs intermediates ignore final ∷ []) (groups_in-bytes groups plain.0)
calls-back (esc_dispatch intermediates ignore final) plain = refl

plain-few : (call : Call) → IsPlain call → length (intermediates_of call) ≤ max_intermediates
plain-few (print character) plain = omega arith
plain-few (execute byte) plain = omega arith
plain-few (hook groups intermediates ignore final) plain = plain.1
plain-few (put byte) plain = omega arith
plain-few unhook plain = omega arith
plain-few (osc_dispatch parts bell) plain = omega arith
plain-few (csi_dispatch groups intermediates ignore final) plain = plain.1
plain-few (esc_dispatch intermediates ignore final) plain = plain

plain-utf8 : (call : Call) → IsPlain call → kind_of call ≡ text_kind → IsUtf8 (call_bytes call)
plain-utf8 (print character) plain text = IsUtf8-encode character plain
plain-utf8 (execute byte) plain text = absurd (omega (arith, text))
plain-utf8 (hook groups intermediates ignore final) plain text = absurd (omega (arith, text))
plain-utf8 (put byte) plain text = absurd (omega (arith, text))
plain-utf8 unhook plain text = absurd (omega (arith, text))
plain-utf8 (osc_dispatch parts bell) plain text = absurd (omega (arith, text))
plain-utf8 (csi_dispatch groups intermediates ignore final) plain text = absurd (omega (arith, text))
plain-utf8 (esc_dispatch intermediates ignore final) plain text = absurd (omega (arith, text))

plain-some : (call : Call) → kind_of call ≡ text_kind → 0 < length (call_bytes call)
plain-some (print character) text = length-encode-some character
plain-some (execute byte) text = absurd (omega (arith, text))
plain-some (hook groups intermediates ignore final) text = absurd (omega (arith, text))
plain-some (put byte) text = absurd (omega (arith, text))
plain-some unhook text = absurd (omega (arith, text))
plain-some (osc_dispatch parts bell) text = absurd (omega (arith, text))
plain-some (csi_dispatch groups intermediates ignore final) text = absurd (omega (arith, text))
plain-some (esc_dispatch intermediates ignore final) text = absurd (omega (arith, text))

one-of-eight : (call : Call) → kind_of call ≤ esc_kind
one-of-eight (print character) = omega arith
one-of-eight (execute byte) = omega arith
one-of-eight (hook groups intermediates ignore final) = omega arith
one-of-eight (put byte) = omega arith
one-of-eight unhook = omega arith
one-of-eight (osc_dispatch parts bell) = omega arith
one-of-eight (csi_dispatch groups intermediates ignore final) = omega arith
one-of-eight (esc_dispatch intermediates ignore final) = omega arith

-- the record of a call whose bytes stand in the room there
module _ (room : List ℕ) (start : ℕ) (call : Call) (plain : IsPlain call) (there : StandsAt start (call_bytes call) room) where
  one-read : read_event room (record_of start call) ≡ call ∷ []
  one-read =
      same_of_three (kind_of call) (byte_of call) (is_set (if flag_of call then 1 else 0)) (flag_of call)
      (intermediates_in (record_of start call)) (intermediates_of call) (bytes_in room (record_of start call)) (call_bytes call)
      (flag-back (flag_of call)) (few-back (intermediates_of call) (plain-few call plain)) (StandsAt-bytes start (call_bytes call) room there)
      ∙ calls-back call plain

  one-sound : IsSound room (record_of start call)
  one-sound = record {
    within = StandsAt-within start (call_bytes call) room there;
    utf8 = λ text. subst IsUtf8 (sym (StandsAt-bytes start (call_bytes call) room there)) (plain-utf8 call plain text);
    some_text = plain-some call;
    few = few-count (intermediates_of call);
    one_of_eight = one-of-eight call;
    one_or_none = flag-small (flag_of call);
  }

text_is : (event : Event) → is_text event ≡ true → event.kind ≡ text_kind
text_is event is = eqb-true event.kind text_kind is

apart : (room : List ℕ) (first second : Event) (events : List Event) (call : Call) (calls : List Call) → read_event room first ≡ call ∷ [] → IsSound room first
    → Reads room (second ∷ events) calls → Reads room (first ∷ second ∷ events) (call ∷ calls)
apart room first second events call calls read sound reads = record {
  same = ap (λ l. l ++ read_events room (second ∷ events)) read ∙ ap (λ l. call ∷ l) reads.same;
  sound = (sound, reads.sound);
}

-- two texts of which the second stands right behind the first
module _ (room : List ℕ) (first second : Event) (texts : is_text first ≡ true) (also : is_text second ≡ true) (behind : second.start ≡ first.start + first.length) where
  abbrev both : Event
  both = with_length first (first.length + second.length)

  both-bytes : bytes_in room both ≡ bytes_in room first ++ bytes_in room second
  both-bytes =
      take-add first.length second.length (drop first.start room)
      ∙ ap (λ l. bytes_in room first ++ take second.length l) (drop-drop first.length first.start room ∙ ap (λ n. drop n room) (sym behind))

  as_text : (event : Event) → is_text event ≡ true → read_event room event ≡ text_calls (bytes_in room event)
  as_text event is = rw is refl

  both-read : IsUtf8 (bytes_in room first) → read_event room both ≡ read_event room first ++ read_event room second
  both-read utf8 =
      as_text both texts
      ∙ ap text_calls both-bytes
      ∙ ap (map print) (chars-append (bytes_in room first) (bytes_in room second) utf8)
      ∙ map-append print _ _
      ∙ sym (ap (λ l. l ++ read_event room second) (as_text first texts) ∙ ap (λ l. text_calls (bytes_in room first) ++ l) (as_text second also))

  both-sound : IsSound room first → IsSound room second → IsSound room both
  both-sound one two = record {
    within = omega (arith, two.within, behind);
    utf8 = λ text. subst IsUtf8 (sym both-bytes) (IsUtf8-append (bytes_in room first) (bytes_in room second) (one.utf8 text) (two.utf8 (text_is second also)));
    some_text = λ text. omega (arith, one.some_text text);
    few = one.few;
    one_of_eight = one.one_of_eight;
    one_or_none = one.one_or_none;
  }

-- a record that says one call, before others
before-none : (room : List ℕ) (first : Event) (call : Call) → read_event room first ≡ call ∷ [] → IsSound room first → Reads room (first ∷ []) (call ∷ [])
before-none room first call read sound = record { same = append-nil (read_event room first) ∙ read; sound = (sound, tt) }

before-others : (room : List ℕ) (first second : Event) (events : List Event) (call : Call) (calls : List Call) (a b : Bool) → is_text first ≡ a → is_text second ≡ b
    → second.start ≡ first.start + first.length → read_event room first ≡ call ∷ [] → IsSound room first → Reads room (second ∷ events) calls
    → Reads room (joined first (second ∷ events)) (call ∷ calls)
before-others room first second events call calls true true p q behind read sound reads =
    subst (λ es. Reads room es (call ∷ calls)) (sym (joined-text first second events p q)) (record {
      same = ap (λ l. l ++ read_events room events) (both-read room first second p q behind (sound.utf8 (text_is first p)))
          ∙ append_assoc (read_event room first) (read_event room second) (read_events room events)
          ∙ ap (λ l. l ++ read_events room (second ∷ events)) read
          ∙ ap (λ l. call ∷ l) reads.same;
      sound = (both-sound room first second p q behind sound reads.sound.0, reads.sound.1);
    })
before-others room first second events call calls true false p q behind read sound reads = subst (λ es. Reads room es (call ∷ calls)) (sym (joined-second first second events q)) (apart room first second events call calls read sound reads)
before-others room first second events call calls false b p q behind read sound reads = subst (λ es. Reads room es (call ∷ calls)) (sym (joined-first first second events p)) (apart room first second events call calls read sound reads)

before-all : (room : List ℕ) (first : Event) (events : List Event) (call : Call) (calls : List Call) (end : ℕ) → Follow (first.start + first.length) events end
    → read_event room first ≡ call ∷ [] → IsSound room first → Reads room events calls → Reads room (joined first events) (call ∷ calls)
before-all room first [] call calls end follow read sound reads = subst (λ (l : List Call). Reads room (first ∷ []) (call ∷ l)) reads.same (before-none room first call read sound)
before-all room first (second ∷ events) call calls end follow read sound reads =
    before-others room first second events call calls (is_text first) (is_text second) refl refl follow.0 read sound reads

-- the records of calls whose bytes stand in the room from a place on say the calls
pub reads-records : (room : List ℕ) (start : ℕ) (calls : List Call) → ArePlain calls → StandsAt start (calls_bytes calls) room → Reads room (records_of start calls) calls
reads-records room start [] plain there = record { same = refl; sound = tt }
reads-records room start (call ∷ calls) plain there =
    let first = StandsAt-front start (call_bytes call) (calls_bytes calls) room there in
    let rest = StandsAt-back start (call_bytes call) (calls_bytes calls) room there in
    let place_behind = start + length (call_bytes call) in
    before-all room (record_of start call) (records_of place_behind calls) call calls (place_behind + length (calls_bytes calls)) (records-follow place_behind calls)
    (one-read room start call plain.0 first) (one-sound room start call plain.0 first) (reads-records room place_behind calls plain.1 rest)

-- all of the room, and all records
pub are-records : (calls : List Call) → ArePlain calls → AreRecords (calls_bytes calls) (records_of 0 calls) calls
are-records calls plain = record {
  records = refl;
  bytes = refl;
  reads = reads-records (calls_bytes calls) 0 calls plain (record { before = []; after = []; whole = sym (append-nil (calls_bytes calls)); at = refl });
}
