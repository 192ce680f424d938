-- Inert text, which drives no terminal: stripped text without the characters that terminals take for controls.
use Rattle.std.specs.Prelude.{ℕ, Bool, true, not, ◌||◌, ◌&&◌, nat_le, List, filter, IsUtf8}
use Rattle.std.specs.Str.{chars}
use Rattle.anstyle_parse.specs.Stream.Call.{Call, print}
use Rattle.anstyle_parse.specs.Stream.Items.{EachIs}
use Rattle.ansi_strip.specs.Strip.{is_layout, stripped}

-- a character that terminals take for a control, though it is no C0 control: DEL, or one of U+0080 to U+009F, which
-- ISO/IEC 10646 leaves to the C1 controls of ECMA-48
unfoldable pub is_driving : ℕ → Bool
is_driving character = nat_le 0x7F character && nat_le character 0x9F

-- any call but a print of such a character
abbrev pub is_inert : Call → Bool
is_inert (print character) = not (is_driving character)
is_inert call = true

-- what is left of the calls without such prints
abbrev pub inert_text : List Call → List ℕ
inert_text calls = stripped (filter is_inert calls)

-- a character of inert text: layout, or from the space on one that drives nothing
unfoldable pub is_inert_character : ℕ → Bool
is_inert_character character = is_layout character || (nat_le 0x20 character && not (is_driving character))

-- text of such characters alone, in well-formed UTF-8
abbrev pub IsInertText : List ℕ → Type 0
IsInertText text = IsUtf8 text × EachIs is_inert_character (chars text)
