-- Pieces of a stream one after another, and how much text they lead to.
use Rattle.std.proofs.Common.{◌≡◌, ◌<◌, ◌≤◌, ◌+◌, ◌*◌, ℕ, List, [], ◌∷◌, ◌++◌, length, take, drop, refl, sym, ap, ◌∙◌, subst, append_assoc, append-nil, arith, zero, suc, length-append}
use Rattle.std.proofs.Math.Seq.{take-append_seam, drop-append_seam}
use Rattle.anstyle_parse.specs.Stream.Call.{Call, print}
use Rattle.anstyle_parse.specs.Stream.Characters.{replacement}
use Rattle.anstyle_parse.specs.Stream.Calls.{AreCalls, Continues}
use Rattle.anstyle_parse.specs.Machine.AsRead.{as_read, as_read_whole}
use Rattle.anstyle_parse.specs.Machine.Decoder.{decoded}
use Rattle.anstyle_parse.specs.Machine.Step.{Machine, AccumulatorStep, new_machine, step, step_calls, machine_calls}
use Rattle.anstyle_parse.proofs.Agreement.Whole.{AreCalls-machine}
use Rattle.anstyle_parse.proofs.Lawful.Calls.{lawful}
use Rattle.anstyle_parse.proofs.Machine.CallCounts.{step_calls-few}
use Rattle.ansi_strip.proofs.InertLemmas.{IsInertText-later, length-inert}
use Rattle.ansi_strip.proofs.PieceLength.{length-stripped_text}
use Rattle.ansi_strip.specs.Inert.{is_driving, inert_text, IsInertText}
use Rattle.anstyle_parse.specs.declared.accumulator.Utf8Parser.{Utf8Parser}
use Rattle.anstyle_parse.specs.declared.parser.Parser.{Parser}
use Rattle.anstyle_parse.specs.Views.Accumulator.{front_of}
use Rattle.anstyle_parse.specs.Views.Parser.{AreBelow, IsAfter}
use Rattle.strip_pieces.specs.declared.slice_writer.SliceWriter.{SliceWriter}
use Rattle.stream_state.specs.declared.state.StreamState.{StreamState}
use Rattle.strip_pieces.specs.Feed.{least_room, end_room, most_text, Feeds, Ends, IsTaken}
use Rattle.stream_state.specs.Log.{StandsForLog, ContinuesLog, EndsLog}
use Rattle.strip_pieces.specs.SliceWriter.{with_text}
use Rattle.stream_state.specs.State.{pending_of, StandsFor}
use Rattle.stream_state.proofs.LogLemmas.{any_log, lawful-log}
use Rattle.stream_state.proofs.LogLength.{text_length-log}
use Rattle.strip_pieces.proofs.SliceWriterLemmas.{Puts-length, with_text-front, with_text-rest}

-- the inert text of the calls that continue others: it is UTF-8 of inert characters, and not long
IsInertText-continued : (before bytes : List ℕ) (calls : List Call) → ContinuesLog before bytes calls → IsInertText (inert_text calls)
IsInertText-continued before bytes calls continues =
    IsInertText-later (machine_calls decoded (as_read before) (new_machine [])) calls (lawful-log before bytes calls continues)

pub length-continued : (before bytes : List ℕ) (calls : List Call) → ContinuesLog before bytes calls → length (inert_text calls) ≤ 3 * length bytes + 3
length-continued before bytes calls continues = omega (arith, length-inert calls, length-stripped_text calls, text_length-log before bytes calls continues)

-- where there is room for what one byte may lead to, one is taken
taken-some : (taken written piece room : ℕ) → 0 < piece → least_room ≤ room → (taken ≡ 0 → written ≡ 0) → (written + least_room ≤ room → taken ≡ piece) → 0 < taken
taken-some zero written piece room some enough nothing all =
    let same = all (omega (arith, nothing refl)) in
    absurd (omega arith)
taken-some (suc n) written piece room some enough nothing all = omega arith

-- a state is fed where a parser that stands for it takes bytes, and it is saved
pub Feeds-taken : (old new : StreamState) (parser parser_after : Parser Utf8Parser) (piece room room_after : List ℕ) (text text_after : SliceWriter) (taken written : ℕ)
    → ((before : List ℕ) → StandsFor old before → IsAfter front_of parser before) → ((before : List ℕ) → IsAfter front_of parser_after before → StandsFor new before)
    → text.written ≡ 0 → text.into.now ≡ room → room_after ≡ text_after.into.now → written ≡ text_after.written → IsTaken parser parser_after piece text text_after taken
    → (text_after.written + least_room ≤ length text_after.into.now → taken ≡ length piece) → (text.written + most_text (length piece) ≤ length text.into.now → taken ≡ length piece)
    → (0 < length piece → least_room ≤ length room) → Feeds old new piece room room_after taken written
Feeds-taken old new parser parser_after piece room room_after text text_after taken written resumed saved empty begins ends counted took all at_once enough =
    let left = inert_text took.calls in
    let count : written ≡ length left = omega (arith, took.puts.written took.fits) in
    let shown : room_after ≡ with_text 0 left room = ends ∙ took.puts.bytes took.fits ∙ ap (λ n. with_text n left text.into.now) empty ∙ ap (λ l. with_text 0 left l) begins in
    let long = Puts-length left text text_after took.fits took.puts in
    let same = ap length begins in
    let front : take written room_after ≡ left =
    ap (λ n. take n room_after) count ∙ ap (λ l. take (length left) l) shown ∙ with_text-front left room in
    let held = any_log (pending_of old) in
    let inert = subst IsInertText (sym front) (IsInertText-continued held.0 (take taken piece) took.calls (took.continues held.0 (resumed (as_read held.0) held.1))) in
    let none : taken ≡ 0 → written ≡ 0 = λ e. count ∙ ap (λ l. length (inert_text l)) (took.nothing e) in
    record {
      enough_room = enough;
      taken_fits = took.taken_fits;
      written_fits = omega (arith, took.fits);
      stands = λ before is. saved (as_read (before ++ take taken piece)) (took.stands before (resumed (as_read before) is));
      text = λ before is. (took.calls, took.continues before (resumed (as_read before) is), front);
      utf8 = inert.0;
      inert = inert;
      untouched = ap (λ n. drop n room_after) count ∙ ap (λ l. drop (length left) l) shown ∙ with_text-rest left room ∙ ap (λ n. drop n room) (sym count);
      some_taken = λ some. taken-some taken written (length piece) (length room) some (enough some) none (λ more. all (omega arith));
      all_taken = λ more. all (omega arith);
      taken_at_once = λ more. at_once (omega arith);
      nothing = none;
      bounded = omega (arith, took.bounded);
    }

-- The end leads to these calls, whose text stands at the front of the room.
pub Ends-of : (old new : StreamState) (room room_after text : List ℕ) (written : ℕ) (calls : List Call) → end_room ≤ length room → length text ≤ end_room
    → written ≡ length text → room_after ≡ text ++ drop (length text) room → text ≡ inert_text calls
    → ((before : List ℕ) → StandsForLog old before → EndsLog before calls) → StandsForLog new [] → Ends old new room room_after written
Ends-of old new room room_after text written calls enough short count is leads ends begins =
    let rest = drop (length text) room in
    let front : take written room_after ≡ inert_text calls =
    ap (λ n. take n room_after) count ∙ ap (take (length text)) is ∙ take-append_seam text rest ∙ leads in
    let held = any_log (pending_of old) in
    let first = machine_calls decoded (as_read held.0) (new_machine []) in
    record {
      enough_room = enough;
      written_fits = omega (arith, count, short);
      text = λ before stands. (calls, ends before stands, front);
      inert = subst IsInertText (sym front)
          (IsInertText-later first calls (lawful (as_read_whole held.0) (first ++ calls) (ends held.0 held.1 first (AreCalls-machine (as_read held.0)))));
      untouched = ap (λ n. drop n room_after) count ∙ ap (drop (length text)) is ∙ drop-append_seam text rest ∙ ap (λ n. drop n room) (sym count);
      begins = begins;
    }

-- U+FFFD, and none
pub inert_text-replacement : 0xEF ∷ 0xBF ∷ 0xBD ∷ [] ≡ inert_text (print replacement ∷ [])
unfolding is_driving lib.Utf8.encode
inert_text-replacement = refl

-- a part of a list of bytes is one
below-drop : (count : ℕ) (bytes : List ℕ) → AreBelow 256 bytes → AreBelow 256 (drop count bytes)
below-drop zero bytes below = below
below-drop (suc count) [] below = tt
below-drop (suc count) (b ∷ bytes) below = below-drop count bytes below.1

below-take : (count : ℕ) (bytes : List ℕ) → AreBelow 256 bytes → AreBelow 256 (take count bytes)
below-take zero bytes below = tt
below-take (suc count) [] below = tt
below-take (suc count) (b ∷ bytes) below = (below.0, below-take count bytes below.1)

pub below-part : (from count : ℕ) (bytes : List ℕ) → AreBelow 256 bytes → AreBelow 256 (take count (drop from bytes))
below-part from count bytes below = below-take count (drop from bytes) (below-drop from bytes below)
