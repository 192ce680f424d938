-- Texts that are put: the inert text of each, and the room after them.
use Rattle.std.proofs.Common.{◌≡◌, ◌≤◌, ◌+◌, ℕ, List, ◌++◌, length, take, drop, ap, ◌∙◌, arith}
use Rattle.std.proofs.Math.Seq.{take-append_seam, drop-append_seam}
use Rattle.std.specs.Prelude.{not, filter}
use Rattle.std.specs.Str.{IsUtf8, chars}
use Rattle.std.proofs.lemmas.Grind.{flat_map-append}
use Rattle.anstyle_parse.specs.Stream.Items.{EachIs}
use Rattle.anstyle_parse.specs.Stream.Texts.{layout_calls}
use Rattle.ansi_strip.specs.Driving.{is_clear}
use Rattle.ansi_strip.specs.Inert.{is_driving, is_inert, inert_text}
use Rattle.ansi_strip.specs.Strip.{stripped_call, stripped}
use Rattle.ansi_strip.proofs.DrivingLemmas.{inert-whole, inert-parts}
use Rattle.ansi_strip.proofs.Left.{stripped-layout_calls}
use Rattle.strip_pieces.specs.declared.slice_writer.SliceWriter.{SliceWriter}
use Rattle.strip_pieces.specs.SliceWriter.{with_text, Puts}
use Rattle.strip_pieces.specs.PuttingProof.{with_text-length}

-- a text that fits leaves the room as long as it was
pub Puts-length : (text : List ℕ) (old new : SliceWriter) → old.written + length text ≤ length old.into.now → Puts text old new → length new.into.now ≡ length old.into.now
Puts-length text old new fits puts = ap length (puts.bytes fits) ∙ with_text-length old.written text old.into.now fits

-- a text at the front, and what stands after it
pub with_text-front : (text bytes : List ℕ) → take (length text) (with_text 0 text bytes) ≡ text
with_text-front text bytes = take-append_seam text (drop (0 + length text) bytes)

pub with_text-rest : (text bytes : List ℕ) → drop (length text) (with_text 0 text bytes) ≡ drop (length text) bytes
with_text-rest text bytes =
    let none : 0 + length text ≡ length text = omega arith in
    drop-append_seam text (drop (0 + length text) bytes) ∙ ap (λ n. drop n bytes) none

-- a text that is clear is its own inert text
pub inert_text-whole : (text : List ℕ) → IsUtf8 text → EachIs is_clear text → inert_text (layout_calls text) ≡ text
inert_text-whole text utf8 clear = ap stripped (inert-whole text utf8 clear) ∙ stripped-layout_calls text utf8

-- any other is parted at a character that drives a terminal
pub inert_text-parts : (text front behind : List ℕ) → IsUtf8 front
    → filter (λ c. not (is_driving c)) (chars text) ≡ chars front ++ filter (λ c. not (is_driving c)) (chars behind)
    → inert_text (layout_calls text) ≡ front ++ inert_text (layout_calls behind)
inert_text-parts text front behind utf8 are =
    ap stripped (inert-parts text front behind are)
    ∙ flat_map-append stripped_call (layout_calls front) (filter is_inert (layout_calls behind))
    ∙ ap (λ l. l ++ inert_text (layout_calls behind)) (stripped-layout_calls front utf8)
