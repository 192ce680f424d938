-- What the laws speak of.
use Rattle.std.specs.Prelude.{◌≡◌, ◌≢◌, ℕ, Bool, true, false, ◌&&◌, ◌||◌, not, ◌==◌, nat_le, List, [], ◌++◌, if◌then◌else◌}
use Rattle.terminal_keys.specs.declared.key.Key.{Key}
use Rattle.terminal_keys.specs.declared.key.Key.TheVariants.{Character}
use Rattle.terminal_keys.specs.declared.key.Stroke.{Stroke}
use Rattle.terminal_keys.specs.declared.modes.KeyModes.{KeyModes}
use Rattle.terminal_keys.specs.declared.text.KeyText.{KeyText}
use Rattle.terminal_keys.specs.declared.text.KeyText.TheVariants.{Nothing}
use Rattle.terminal_keys.specs.declared.mouse.MouseText.{MouseText}
use Rattle.terminal_keys.specs.declared.mouse.MouseText.TheVariants.{Nothing as NoMouse}
use Rattle.terminal_keys.specs.Keys.{is_key, is_typed}
use Rattle.terminal_keys.specs.Text.{key_bytes}
use Rattle.terminal_keys.specs.Enhanced.{key_text}
use Rattle.terminal_keys.specs.Paste.{pasted, paste_end}

-- a byte of what is pasted: TAB, LF, CR, and from space on all but DEL
unfoldable pub is_pasted_byte : ℕ → Bool
is_pasted_byte b = if nat_le 0x20 b then not (b == 0x7F) else (b == 0x09 || b == 0x0A || b == 0x0D)

-- kitty's numbers of other keys are those of private characters, which no key types
unfoldable pub is_own_character : ℕ → Bool
is_own_character c = is_typed c && not (nat_le 57344 c && nat_le c 63743)

unfoldable pub is_own : Key → Bool
is_own (Character c) = is_own_character c
is_own key = is_key key

-- kitty's flags 1 and 8, without 16
pub record TellsAll (modes : KeyModes) : Type 0 where
  pub apart : modes.flags.disambiguates ≡ true
  pub all : modes.flags.all ≡ true
  pub bare : modes.flags.text ≡ false

-- where two have the same bytes, and some, they are the same key, with the same modifiers
abbrev pub AreApart : KeyModes → (first second : Stroke) → Type 0
AreApart modes first second =
    key_bytes (key_text first modes) ≢ [] → key_bytes (key_text first modes) ≡ key_bytes (key_text second modes)
    → (first.key ≡ second.key) × (first.modifiers ≡ second.modifiers)

-- what the first end of a paste in it ends is all that was pasted, and nothing comes after
abbrev pub EndsOnce : (text : List ℕ) → Type 0
EndsOnce text =
    (before after : List ℕ) → pasted text ++ paste_end ≡ before ++ (paste_end ++ after)
    → (before ≡ pasted text) × (after ≡ [])

abbrev pub no_key : KeyText
no_key = Nothing

abbrev pub no_mouse : MouseText
no_mouse = NoMouse
