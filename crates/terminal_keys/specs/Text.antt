-- The bytes of a key: a character; SS3 and a byte; a control sequence.
--
-- Source: Kovid Goyal, "Comprehensive keyboard handling in terminals" (sw.kovidgoyal.net/kitty/keyboard-protocol), "An
-- overview": CSI KEY : SHIFTED ; MODIFIERS : EVENT ; TEXT and a final byte. xterm's sequences are of this form.
use Rattle.std.specs.Prelude.{ℕ, Bool, ◌&&◌, ◌||◌, not, ◌==◌, List, [], ◌∷◌, ◌++◌, decimal, encode_utf8, if◌then◌else◌}
use Rattle.terminal_keys.specs.declared.text.Sequence.{Sequence}
use Rattle.terminal_keys.specs.declared.text.KeyText.{KeyText}
use Rattle.terminal_keys.specs.declared.text.KeyText.TheVariants.{Nothing, Typed, Single, Control}

-- a mark and a number, where it is not 0
abbrev pub part : (mark number : ℕ) → List ℕ
part mark number = if number == 0 then [] else mark ∷ decimal number

-- the key has the number 1, and there is nothing to tell of it
abbrev pub is_short : Sequence → Bool
is_short s = s.number == 1 && s.shifted == 0 && s.modifiers == 1 && s.event == 1 && s.text == 0

-- "the 1 is left out if there are no modifiers"
abbrev pub number_text : Sequence → List ℕ
number_text s = if is_short s then [] else decimal s.number

abbrev pub has_second : Sequence → Bool
has_second s = not (s.modifiers == 1) || not (s.event == 1)

-- a press is not told
abbrev pub told_event : Sequence → ℕ
told_event s = if s.event == 1 then 0 else s.event

-- "if no modifiers are present, the modifiers field must have the value 1" before what happens
abbrev pub second_text : Sequence → List ℕ
second_text s = 0x3B ∷ (decimal s.modifiers ++ part 0x3A (told_event s))

-- before a text it may be empty
abbrev pub modifiers_text : Sequence → List ℕ
modifiers_text s =
    if has_second s then second_text s
    else if s.text == 0 then []
    else 0x3B ∷ []

abbrev pub sequence_text : Sequence → List ℕ
sequence_text s =
    (0x1B ∷ 0x5B ∷ [])
    ++ (number_text s ++ (part 0x3A s.shifted ++ (modifiers_text s ++ (part 0x3B s.text ++ s.last ∷ []))))

abbrev pub held_text : (modifiers : ℕ) → List ℕ
held_text modifiers = if modifiers == 1 then [] else decimal modifiers

abbrev pub single_text : (modifiers last : ℕ) → List ℕ
single_text modifiers last = (0x1B ∷ 0x4F ∷ []) ++ (held_text modifiers ++ last ∷ [])

abbrev pub escape_text : Bool → List ℕ
escape_text wanted = if wanted then 0x1B ∷ [] else []

abbrev pub typed_text : (character : ℕ) → (after_escape : Bool) → List ℕ
typed_text character after_escape = escape_text after_escape ++ encode_utf8 character

abbrev pub key_bytes : KeyText → List ℕ
key_bytes Nothing = []
key_bytes (Typed character after_escape) = typed_text character after_escape
key_bytes (Single modifiers last) = single_text modifiers last
key_bytes (Control sequence) = sequence_text sequence
