-- Keys and the mouse in plain bytes, and what a program reads of them by what it asked for.
--
-- The numbers of modifiers and events are those of kitty's protocol (sw.kovidgoyal.net/kitty/keyboard-protocol); of buttons
-- X11's (its protocol, "Pointer buttons", as XTEST and evdev number 8 and 9); of keys this library's own.
use Rattle.std.specs.Prelude.{ℕ, ◌-◌, ◌/◌, ◌%◌, ◌&&◌, ◌||◌, ◌==◌, nat_le, nat_lt, Option, None, Some, if◌then◌else◌}
use Rattle.terminal_keys.specs.declared.key.Navigation.{Navigation}
use Rattle.terminal_keys.specs.declared.key.Navigation.TheVariants.{Up, Down, Right, Left, Home, End, Insert, Delete, PageUp, PageDown}
use Rattle.terminal_keys.specs.declared.key.Pad.{Pad}
use Rattle.terminal_keys.specs.declared.key.Pad.TheVariants.{Digit, Decimal, Divide, Multiply, Subtract, Add, Separator, Equal, Return, Begin}
use Rattle.terminal_keys.specs.declared.key.Key.{Key}
use Rattle.terminal_keys.specs.declared.key.Key.TheVariants.{Character, Enter, Tab, Backspace, Escape, Navigation as Navigates, Function, Keypad, KeypadNavigation}
use Rattle.terminal_keys.specs.declared.key.Modifiers.{Modifiers}
use Rattle.terminal_keys.specs.declared.key.Event.{Event}
use Rattle.terminal_keys.specs.declared.key.Event.TheVariants.{Press, Repeat, Release}
use Rattle.terminal_keys.specs.declared.key.Stroke.{Stroke}
use Rattle.terminal_keys.specs.declared.modes.KeyModes.{KeyModes}
use Rattle.terminal_keys.specs.declared.mouse.Button.{Button}
use Rattle.terminal_keys.specs.declared.mouse.Button.TheVariants.{Left as LeftButton, Middle, Right as RightButton, Back, Forward}
use Rattle.terminal_keys.specs.declared.mouse.Wheel.{Wheel}
use Rattle.terminal_keys.specs.declared.mouse.Wheel.TheVariants.{Up as UpWheel, Down as DownWheel, Left as LeftWheel, Right as RightWheel}
use Rattle.terminal_keys.specs.declared.mouse.Action.{Action}
use Rattle.terminal_keys.specs.declared.mouse.Action.TheVariants.{Press as Presses, Release as Releases, Turn, Move}
use Rattle.terminal_keys.specs.declared.mouse.MouseText.{MouseText}
use Rattle.terminal_keys.specs.declared.mouse.MouseText.TheVariants.{Nothing}
use Rattle.terminal_keys.specs.Mouse.{mouse_text}
use Rattle.screen_pieces.specs.declared.keys.KeyBytes.{KeyBytes}
use Rattle.screen_pieces.specs.declared.keys.MouseBytes.{MouseBytes}

-- a number that is none of a character counts for none: 0, which no key types
abbrev pub character_numbered : ℕ → ℕ
character_numbered n = if nat_lt n 0xD800 || nat_le 0xE000 n && nat_lt n 0x110000 then n else 0

abbrev pub navigation_of : ℕ → Navigation
navigation_of n =
    if n == 1 then Up
    else if n == 2 then Down
    else if n == 3 then Right
    else if n == 4 then Left
    else if n == 5 then Home
    else if n == 6 then End
    else if n == 7 then Insert
    else if n == 8 then Delete
    else if n == 9 then PageUp
    else PageDown

abbrev pub pad_of : ℕ → Pad
pad_of n =
    if nat_le n 9 then Digit n
    else if n == 10 then Decimal
    else if n == 11 then Divide
    else if n == 12 then Multiply
    else if n == 13 then Subtract
    else if n == 14 then Add
    else if n == 15 then Separator
    else if n == 16 then Equal
    else if n == 17 then Return
    else Begin

-- any other number is no key
unfoldable pub key_of : (number character : ℕ) → Key
key_of number character =
    if number == 0 then Character (character_numbered character)
    else if number == 1 then Enter
    else if number == 2 then Tab
    else if number == 3 then Backspace
    else if number == 4 then Escape
    else if nat_le 11 number && nat_le number 20 then Navigates (navigation_of (number - 10))
    else if nat_le 40 number && nat_le number 58 then Keypad (pad_of (number - 40))
    else if nat_le 61 number && nat_le number 70 then KeypadNavigation (navigation_of (number - 60))
    else if nat_le 101 number && nat_le number 124 then Function (number - 100)
    else Character 0

-- bits 0 to 7
unfoldable pub modifiers_of : ℕ → Modifiers
modifiers_of n = record {
  shift = n % 2 == 1;
  alt = n / 2 % 2 == 1;
  control = n / 4 % 2 == 1;
  super_key = n / 8 % 2 == 1;
  hyper = n / 16 % 2 == 1;
  meta = n / 32 % 2 == 1;
  caps_lock = n / 64 % 2 == 1;
  num_lock = n / 128 % 2 == 1;
}

-- any other number is a press
abbrev pub event_of : ℕ → Event
event_of n = if n == 2 then Repeat else if n == 3 then Release else Press

abbrev pub stroke_of : KeyBytes → Stroke
stroke_of bytes = record {
  key = key_of bytes.key bytes.character;
  shifted = Some (character_numbered bytes.shifted);
  modifiers = modifiers_of bytes.modifiers;
  event = event_of bytes.event;
}

-- any other number is none
abbrev pub button_of : ℕ → Option Button
button_of n =
    if n == 1 then Some LeftButton
    else if n == 2 then Some Middle
    else if n == 3 then Some RightButton
    else if n == 8 then Some Back
    else if n == 9 then Some Forward
    else None

abbrev pub wheel_of : ℕ → Option Wheel
wheel_of n =
    if n == 4 then Some UpWheel
    else if n == 5 then Some DownWheel
    else if n == 6 then Some LeftWheel
    else if n == 7 then Some RightWheel
    else None

abbrev pub pressed : Option Wheel → Option Button → Option Action
pressed (Some wheel) button = Some (Turn wheel)
pressed None (Some button) = Some (Presses button)
pressed None None = None

abbrev pub released : Option Button → Option Action
released (Some button) = Some (Releases button)
released None = None

-- any other number does nothing
unfoldable pub action_of : (number button : ℕ) → Option Action
action_of number button =
    if number == 1 then pressed (wheel_of button) (button_of button)
    else if number == 2 then released (button_of button)
    else if number == 3 then Some (Move (button_of button))
    else None

abbrev pub mouse_by : Option Action → MouseBytes → KeyModes → MouseText
mouse_by None bytes modes = Nothing
mouse_by (Some action) bytes modes =
    mouse_text (record {
      action = action;
      modifiers = modifiers_of bytes.modifiers;
      column = bytes.column;
      row = bytes.row;
      x = bytes.x;
      y = bytes.y;
    }) modes
