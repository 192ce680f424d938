-- A text that a program tells: in UTF-8, at most 1,024 bytes of whole characters, of which none is a control.
--
-- Source: xterm's ctlseqs, "Operating System Commands" (Pt). What is no text is ours to say: a control and what has no
-- room are left out, and a part ends at the first byte that is no UTF-8.
use Rattle.std.specs.Prelude.{ℕ, ◌+◌, Bool, ◌&&◌, not, nat_le, List, [], ◌∷◌, ◌++◌, length, take, encode_utf8, if◌then◌else◌}
use Rattle.std.specs.Str.{chars, is_utf8}
use Rattle.std.specs.Str.Lossy.{utf8_valid_len}
use Rattle.std.specs.List.{list_all}

abbrev pub max_text : ℕ
max_text = 1024

-- a character that is no control: from the space on, but for DEL and C1 (7F to 9F)
unfoldable pub is_shown : ℕ → Bool
is_shown c = nat_le 0x20 c && not (nat_le 0x7F c && nat_le c 0x9F)

-- it is UTF-8, and no character of it is a control
abbrev pub is_inert : List ℕ → Bool
is_inert text = is_utf8 text && list_all is_shown (chars text)

-- one character more, where it is none and has room
unfoldable pub with_character : ℕ → List ℕ → List ℕ
with_character c text =
    if is_shown c && nat_le (length text + length (encode_utf8 c)) max_text then text ++ encode_utf8 c else text

abbrev pub with_characters : List ℕ → List ℕ → List ℕ
with_characters [] text = text
with_characters (c ∷ characters) text = with_characters characters (with_character c text)

-- the characters of bytes, up to the first that is no UTF-8
abbrev pub with_bytes : List ℕ → List ℕ → List ℕ
with_bytes bytes text = with_characters (chars (take (utf8_valid_len bytes) bytes)) text

-- parts, each with ; before it
abbrev pub with_parts : List (List ℕ) → List ℕ → List ℕ
with_parts [] text = text
with_parts (part ∷ parts) text = with_parts parts (with_bytes part (with_character 0x3B text))

-- The text of the parts of a command that come after its number; ; stood between them.
unfoldable pub text_of : List (List ℕ) → List ℕ
text_of [] = []
text_of (part ∷ parts) = with_parts parts (with_bytes part [])
