-- Texts and the calls of their characters.
use Rattle.std.proofs.Common.{◌≡◌, ◌<◌, ◌+◌, ℕ, false, List, [], ◌∷◌, length, map, refl, sym, ap, ◌∙◌, subst, append-nil, length-append, arith}
use Rattle.std.specs.Prelude.{encode_utf8}
use Rattle.std.specs.Char.{IsScalar}
use Rattle.std.specs.Str.{IsUtf8, chars}
use Rattle.std.proofs.lemmas.Str.{chars_from_encodes, IsUtf8-encode, IsUtf8-nil}
use Rattle.anstyle_parse.specs.Stream.Call.{Call, print}
use Rattle.anstyle_parse.specs.Stream.Texts.{text_calls}
use Rattle.anstyle_parse.proofs.Written.Texts.{flat_map-text_calls}
use Rattle.event_pieces.specs.Event.{text_kind, joined, record_with, record_of, records_of, call_bytes, calls_bytes}
use Rattle.event_pieces.specs.declared.writer.EventWriter.{EventWriter}
use Rattle.event_pieces.specs.Writer.{text_from, Puts, NotesText, Adds}
use Rattle.event_pieces.specs.AddingProof.{Adds-none}
use Rattle.event_pieces.proofs.Notes.{Adds-text}

-- a text has its own bytes in the room
pub text-bytes : (text : List ℕ) → IsUtf8 text → calls_bytes (text_calls text) ≡ text
text-bytes text utf8 = flat_map-text_calls call_bytes (λ _. refl) text utf8

some-calls : (calls : List Call) (text : List ℕ) → calls_bytes calls ≡ text → 0 < length text → 0 < length calls
some-calls [] text have some = absurd (omega (arith, ap length have, some))
some-calls (call ∷ calls) text have some = omega arith

-- and calls, if it has bytes
pub text-some : (text : List ℕ) → IsUtf8 text → 0 < length text → 0 < length (text_calls text)
text-some text utf8 some = some-calls (text_calls text) text (text-bytes text utf8) some

-- an empty text has none
pub text-none : text_calls [] ≡ []
text-none = ap (map print) (sym (chars_from_encodes [] [] IsUtf8-nil refl))

-- and one record
records-print : (start : ℕ) (c : ℕ) (cs : List ℕ)
    → records_of start (map print (c ∷ cs)) ≡ record_with start (length (calls_bytes (map print (c ∷ cs)))) text_kind 0 false [] ∷ []
records-print start c [] = ap (λ (l : List ℕ). record_with start (length l) text_kind 0 false [] ∷ []) (sym (append-nil (encode_utf8 c)))
records-print start c (d ∷ cs) =
    ap (λ es. joined (record_of start (print c)) es) (records-print (start + length (encode_utf8 c)) d cs)
    ∙ ap (λ n. record_with start n text_kind 0 false [] ∷ []) (sym (length-append (encode_utf8 c) (calls_bytes (map print (d ∷ cs)))))

records-prints : (start : ℕ) (cs text : List ℕ) → calls_bytes (map print cs) ≡ text → 0 < length text → records_of start (map print cs) ≡ text_from start (start + length text) ∷ []
records-prints start [] text have some = absurd (omega (arith, ap length have, some))
records-prints start (c ∷ cs) text have some =
    records-print start c cs ∙ ap (λ n. record_with start n text_kind 0 false [] ∷ []) (let long = ap length have in omega (arith, long))

pub text-record : (text : List ℕ) → IsUtf8 text → 0 < length text → (start : ℕ) → records_of start (text_calls text) ≡ text_from start (start + length text) ∷ []
text-record text utf8 some start = records-prints start (chars text) text (text-bytes text utf8) some

-- one character is printed
pub text-one : (character : ℕ) → IsScalar character → text_calls (encode_utf8 character) ≡ print character ∷ []
text-one character is =
    ap (map print) (sym (chars_from_encodes (character ∷ []) (encode_utf8 character) (IsUtf8-encode character is) (append-nil (encode_utf8 character))))

-- what is done with a text: nothing, where it is empty, and else its bytes are put and a record is noted
pub Adds-no_text : (text : List ℕ) (writer : EventWriter) → text ≡ [] → Adds (text_calls text) writer writer
Adds-no_text text writer none = subst (λ calls. Adds calls writer writer) (sym (ap text_calls none ∙ text-none)) (Adds-none writer)

pub Adds-some_text : (text : List ℕ) (old middle new : EventWriter) → IsUtf8 text → 0 < length text → Puts text old middle → NotesText old.used middle new → Adds (text_calls text) old new
Adds-some_text text old middle new utf8 some puts notes =
    Adds-text (text_calls text) text old middle new (text-bytes text utf8) (text-some text utf8 some) puts notes (text-record text utf8 some)
