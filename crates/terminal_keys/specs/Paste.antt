-- What is pasted, and the focus.
--
-- Source: xterm's ctlseqs, "Bracketed Paste Mode" and "FocusIn/FocusOut".
use Rattle.std.specs.Prelude.{ℕ, Bool, ◌||◌, ◌==◌, List, [], ◌∷◌, ◌++◌, encode_utf8, if◌then◌else◌}
use Rattle.std.specs.List.{flat_map}
use Rattle.std.specs.Str.{chars}
use Rattle.terminal_keys.specs.declared.modes.KeyModes.{KeyModes}
use Rattle.terminal_keys.specs.declared.text.KeyText.{KeyText}
use Rattle.terminal_keys.specs.declared.text.KeyText.TheVariants.{Nothing}
use Rattle.terminal_keys.specs.Keys.{is_typed}
use Rattle.terminal_keys.specs.Legacy.{with_number}

-- TAB, LF, CR, and what is no control
abbrev pub is_pasted : ℕ → Bool
is_pasted c = c == 0x09 || c == 0x0A || c == 0x0D || is_typed c

abbrev pub pasted_character : ℕ → List ℕ
pasted_character c = if is_pasted c then encode_utf8 c else []

abbrev pub pasted : List ℕ → List ℕ
pasted text = flat_map pasted_character (chars text)

-- ESC [ 200 ~ and ESC [ 201 ~
abbrev pub paste_begin : List ℕ
paste_begin = 0x1B ∷ 0x5B ∷ 0x32 ∷ 0x30 ∷ 0x30 ∷ 0x7E ∷ []

abbrev pub paste_end : List ℕ
paste_end = 0x1B ∷ 0x5B ∷ 0x32 ∷ 0x30 ∷ 0x31 ∷ 0x7E ∷ []

abbrev pub bracketed : List ℕ → List ℕ
bracketed text = paste_begin ++ (pasted text ++ paste_end)

abbrev pub paste_text : List ℕ → (brackets : Bool) → List ℕ
paste_text text brackets = if brackets then bracketed text else pasted text

-- CSI I and CSI O
abbrev pub focus_text : (gained : Bool) → KeyModes → KeyText
focus_text gained modes = if modes.focus then with_number 1 1 0 (if gained then 0x49 else 0x4F) else Nothing
