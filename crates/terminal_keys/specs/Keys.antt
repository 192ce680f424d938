-- Keys and modifiers, and their numbers.
--
-- Sources: xterm's ctlseqs, "PC-Style Function Keys"; Kovid Goyal, "Comprehensive keyboard handling in terminals"
-- (sw.kovidgoyal.net/kitty/keyboard-protocol), "Modifiers", "Event types".
use Rattle.std.specs.Prelude.{ℕ, ◌+◌, Bool, true, false, ◌&&◌, ◌||◌, not, nat_le, Option, None, Some, if◌then◌else◌}
use Rattle.terminal_keys.specs.declared.key.Key.{Key}
use Rattle.terminal_keys.specs.declared.key.Key.TheVariants.{Character, Function, Keypad}
use Rattle.terminal_keys.specs.declared.key.Pad.TheVariants.{Digit}
use Rattle.terminal_keys.specs.declared.key.Modifiers.{Modifiers}
use Rattle.terminal_keys.specs.declared.key.Event.{Event}
use Rattle.terminal_keys.specs.declared.key.Event.TheVariants.{Press, Repeat, Release}
use Rattle.terminal_keys.specs.declared.key.Stroke.{Stroke}

abbrev pub bit : Bool → ℕ → ℕ
bit on number = if on then number else 0

-- no control: neither of C0, nor DEL, nor of C1
unfoldable pub is_typed : ℕ → Bool
is_typed c = (nat_le 0x20 c && nat_le c 0x7E) || (nat_le 0xA0 c && nat_le c 0x10FFFF)

-- the numbers that keys have
unfoldable pub is_key : Key → Bool
is_key (Character c) = is_typed c
is_key (Function number) = nat_le 1 number && nat_le number 24
is_key (Keypad (Digit number)) = nat_le number 9
is_key key = true

abbrev pub nothing_held : Modifiers
nothing_held = record {
  shift = false;
  alt = false;
  control = false;
  super_key = false;
  hyper = false;
  meta = false;
  caps_lock = false;
  num_lock = false;
}

-- with Shift and the locks alone a key types its character
abbrev pub is_plain : Modifiers → Bool
is_plain m = not m.alt && not m.control && not m.super_key && not m.hyper && not m.meta

-- 1, and a bit for each
abbrev pub number_of_modifiers : Modifiers → ℕ
number_of_modifiers m =
    (bit m.shift 1 + bit m.alt 2 + bit m.control 4) + (bit m.super_key 8 + bit m.hyper 16 + bit m.meta 32)
    + bit m.caps_lock 64 + bit m.num_lock 128 + 1

abbrev pub number_of_event : Event → ℕ
number_of_event Press = 1
number_of_event Repeat = 2
number_of_event Release = 3

abbrev pub is_release : Event → Bool
is_release Release = true
is_release event = false

abbrev pub typed_as : (plain : ℕ) → Option ℕ → Bool → ℕ
typed_as plain None shift = plain
typed_as plain (Some shifted) shift = if shift && is_typed shifted then shifted else plain

-- what the key of a character types
unfoldable pub typed : (plain : ℕ) → Stroke → ℕ
typed plain stroke = typed_as plain stroke.shifted stroke.modifiers.shift
