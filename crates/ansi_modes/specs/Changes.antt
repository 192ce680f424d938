-- What was set since it was last asked. It is told too of what was set to what it was.
use Rattle.std.specs.Prelude.{ℕ, ◌+◌, Bool, true, false, if◌then◌else◌}
use Rattle.ansi_modes.specs.declared.modes.Switch.{Switch}
use Rattle.ansi_modes.specs.declared.modes.Switch.TheVariants.{CursorKeys, Reverse, Blink, Keypad, Backspace, Focus, AlternateScroll, Alternate, Paste, Synchronized}
use Rattle.ansi_modes.specs.declared.modes.Field.{Field}
use Rattle.ansi_modes.specs.declared.modes.Field.TheVariants.{Switches, Tracks, Encodes, Declined}
use Rattle.ansi_modes.specs.declared.changes.Changes.{Changes}
use Rattle.ansi_modes.specs.Titles.{is_of_window, is_of_icon}

abbrev pub no_changes : Changes
no_changes = record {
  keys = false;
  mouse = false;
  focus = false;
  paste = false;
  synchronized = false;
  reverse = false;
  cursor = false;
  window = false;
  icon = false;
  folder = false;
  progress = false;
  bells = false;
  colors = false;
}

-- which part a mode is of; each screen has flags of keys of its own
unfoldable pub noted_switch : Switch → Changes → Changes
noted_switch CursorKeys c = record c { keys = true }
noted_switch Keypad c = record c { keys = true }
noted_switch Backspace c = record c { keys = true }
noted_switch Reverse c = record c { reverse = true }
noted_switch Blink c = record c { cursor = true }
noted_switch Focus c = record c { focus = true }
noted_switch AlternateScroll c = record c { mouse = true }
noted_switch Alternate c = record c { keys = true }
noted_switch Paste c = record c { paste = true }
noted_switch Synchronized c = record c { synchronized = true }

unfoldable pub noted_field : Field → Changes → Changes
noted_field (Switches switch) c = noted_switch switch c
noted_field (Tracks tracking) c = record c { mouse = true }
noted_field (Encodes encoding) c = record c { mouse = true }
noted_field Declined c = c

unfoldable pub noted_titles : ℕ → Changes → Changes
noted_titles kind c = record c {
  window = if is_of_window kind then true else c.window;
  icon = if is_of_icon kind then true else c.icon;
}

-- what DECSTR sets, and what RIS sets
abbrev pub noted_soft_reset : Changes → Changes
noted_soft_reset c = record c { keys = true; cursor = true; colors = true }

abbrev pub noted_reset : Changes → Changes
noted_reset c = record c {
  keys = true;
  mouse = true;
  focus = true;
  paste = true;
  synchronized = true;
  reverse = true;
  cursor = true;
  progress = true;
  colors = true;
}

-- all of them
abbrev pub all_changes : Changes
all_changes = record {
  keys = true;
  mouse = true;
  focus = true;
  paste = true;
  synchronized = true;
  reverse = true;
  cursor = true;
  window = true;
  icon = true;
  folder = true;
  progress = true;
  bells = true;
  colors = true;
}

abbrev pub bit : Bool → ℕ → ℕ
bit is_set value = if is_set then value else 0

-- the same as a word of bits
abbrev pub bits_of : Changes → ℕ
bits_of c =
    bit c.keys 1 + bit c.mouse 2 + bit c.focus 4 + bit c.paste 8 + bit c.synchronized 16 + bit c.reverse 32
    + bit c.cursor 64 + bit c.window 128 + bit c.icon 256 + bit c.folder 512 + bit c.progress 1024 + bit c.bells 2048 + bit c.colors 4096
