-- What a program asked of the keys.
--
-- Source: Kovid Goyal, "Comprehensive keyboard handling in terminals" (sw.kovidgoyal.net/kitty/keyboard-protocol),
-- "Progressive enhancement".
use Rattle.std.specs.Prelude.{ℕ, ◌/◌, ◌%◌, Bool, false, ◌||◌, ◌==◌, None}
use Rattle.ansi_modes.specs.declared.asked.Asked.{Asked}
use Rattle.ansi_modes.specs.Asked.{flags_in_force}
use Rattle.terminal_keys.specs.declared.modes.Flags.{Flags}
use Rattle.terminal_keys.specs.declared.modes.KeyModes.{KeyModes}

-- bits 0 to 4
unfoldable pub flags_of : ℕ → Flags
flags_of n = record {
  disambiguates = n % 2 == 1;
  events = n / 2 % 2 == 1;
  alternates = n / 4 % 2 == 1;
  all = n / 8 % 2 == 1;
  text = n / 16 % 2 == 1;
}

abbrev pub no_flags : Flags
no_flags = record { disambiguates = false; events = false; alternates = false; all = false; text = false }

-- The other two only say more of a key that is told by the protocol.
abbrev pub is_enhanced : Flags → Bool
is_enhanced flags = flags.disambiguates || flags.events || flags.all

abbrev pub nothing_asked : KeyModes
nothing_asked = record {
  cursor_keys = false;
  keypad = false;
  backspace = false;
  other_keys = 0;
  flags = no_flags;
  focus = false;
  paste = false;
  tracking = None;
  encoding = None;
}

-- what a stream asked for, field by field; the flags are those of the screen that shows
abbrev pub key_modes : Asked → KeyModes
key_modes asked = record {
  cursor_keys = asked.modes.cursor_keys;
  keypad = asked.modes.keypad;
  backspace = asked.modes.backspace;
  other_keys = asked.other_keys;
  flags = flags_of (flags_in_force asked);
  focus = asked.modes.focus;
  paste = asked.modes.paste;
  tracking = asked.modes.tracking;
  encoding = asked.modes.encoding;
}
