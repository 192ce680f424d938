-- What a terminal makes of a stream that takes U+0080 to U+009F for the controls that they are.
use Rattle.std.specs.Prelude.{ℕ, ◌-◌, Bool, false, ◌&&◌, ◌==◌, nat_le, List, [], ◌∷◌, if◌then◌else◌}
use Rattle.anstyle_parse.specs.Stream.Bytes.{escape_byte}
use Rattle.anstyle_parse.specs.Stream.Call.{Call, print, execute}
use Rattle.anstyle_parse.specs.Stream.Calls.{AreCalls}
use Rattle.ansi_strip.specs.Strip.{is_layout}
use Rattle.ansi_strip.specs.Inert.{is_inert_character}

-- the bytes of such a character: C2, and one of 80 to 9F
unfoldable pub is_eight_bit : (first second : ℕ) → Bool
is_eight_bit first second = first == 0xC2 && (nat_le 0x80 second && nat_le second 0x9F)

-- The bytes with each such character replaced by what it stands for: ESC and a byte of 40 to 5F, by 40 less than its
-- number. So ECMA-48 defines the C1 controls of a 7-bit and of an 8-bit code (5.3), and DEC those of the VT500.
-- C2 begins a character wherever it stands, since no other character goes on with it.
abbrev pub in_seven_bits : List ℕ → List ℕ
in_seven_bits [] = []
in_seven_bits (first ∷ []) = first ∷ []
in_seven_bits (first ∷ second ∷ bytes) =
    if is_eight_bit first second then escape_byte ∷ (second - 0x40) ∷ in_seven_bits bytes
    else first ∷ in_seven_bits (second ∷ bytes)

-- These are the calls of the bytes by a parser that also takes such characters for controls.
abbrev pub AreEightBitCalls : List ℕ → List Call → Type 0
AreEightBitCalls bytes calls = AreCalls (in_seven_bits bytes) calls

-- a print of a character of inert text, or layout
abbrev pub is_shown : Call → Bool
is_shown (print character) = is_inert_character character
is_shown (execute byte) = is_layout byte
is_shown call = false
