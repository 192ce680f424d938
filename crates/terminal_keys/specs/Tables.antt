-- The numbers and final bytes of keys.
--
-- Sources: xterm's ctlseqs, "PC-Style Function Keys" and "VT220-Style Function Keys" (F13 to F20, the keypad of an
-- application); for F21 to F24 xterm's input.c, decfuncvalue: "the codes are made up". Kovid Goyal, "Comprehensive
-- keyboard handling in terminals" (sw.kovidgoyal.net/kitty/keyboard-protocol), "Functional key definitions".
use Rattle.std.specs.Prelude.{ℕ, ◌+◌, min, nat_le, ◌==◌, if◌then◌else◌}
use Rattle.terminal_keys.specs.declared.key.Navigation.{Navigation}
use Rattle.terminal_keys.specs.declared.key.Navigation.TheVariants.{Up, Down, Right, Left, Home, End, Insert, Delete, PageUp, PageDown}
use Rattle.terminal_keys.specs.declared.key.Pad.{Pad}
use Rattle.terminal_keys.specs.declared.key.Pad.TheVariants.{Digit, Decimal, Divide, Multiply, Subtract, Add, Separator, Equal, Return, Begin}
use Rattle.terminal_keys.specs.declared.key.Key.{Key}
use Rattle.terminal_keys.specs.declared.key.Key.TheVariants.{Character, Enter, Tab, Backspace, Escape, Navigation as Navigates, Function, Keypad, KeypadNavigation}
use Rattle.terminal_keys.specs.declared.tables.Code.{Code}

-- CSI NUMBER ~
abbrev pub numbered : ℕ → Code
numbered n = record { number = n; last = 0x7E }

-- CSI BYTE
abbrev pub lettered : ℕ → Code
lettered byte = record { number = 1; last = byte }

-- CSI NUMBER u
abbrev pub unicode : ℕ → Code
unicode n = record { number = n; last = 0x75 }

abbrev pub navigation_code : Navigation → Code
navigation_code Up = lettered 0x41
navigation_code Down = lettered 0x42
navigation_code Right = lettered 0x43
navigation_code Left = lettered 0x44
navigation_code End = lettered 0x46
navigation_code Home = lettered 0x48
navigation_code Insert = numbered 2
navigation_code Delete = numbered 3
navigation_code PageUp = numbered 5
navigation_code PageDown = numbered 6

-- F5 is 15; F6 to F10 are 17 to 21, F11 to F14 23 to 26, F15 and F16 28 and 29, F17 to F20 31 to 34, F21 to F24 42 to 45
unfoldable pub function_number : ℕ → ℕ
function_number n =
    if nat_le n 5 then n + 10
    else if nat_le n 10 then n + 11
    else if nat_le n 14 then n + 12
    else if nat_le n 16 then n + 13
    else if nat_le n 20 then n + 14
    else n + 21

-- F1 to F4 are P to S
unfoldable pub function_code : ℕ → Code
function_code n = if nat_le n 4 then lettered (0x4F + n) else numbered (function_number n)

-- F3 is 13, since CSI R tells a place; F13 to F24 are 57376 to 57387
unfoldable pub told_function : ℕ → Code
told_function n =
    if n == 3 then numbered 13
    else if nat_le n 12 then function_code n
    else unicode (n + 57363)

abbrev pub pad_character : Pad → ℕ
pad_character (Digit n) = 0x30 + min n 9
pad_character Decimal = 0x2E
pad_character Divide = 0x2F
pad_character Multiply = 0x2A
pad_character Subtract = 0x2D
pad_character Add = 0x2B
pad_character Separator = 0x2C
pad_character Equal = 0x3D
pad_character Return = 0x0D
pad_character Begin = 0x0D

-- p to y are the digits
abbrev pub pad_final : Pad → ℕ
pad_final (Digit n) = 0x70 + min n 9
pad_final Decimal = 0x6E
pad_final Divide = 0x6F
pad_final Multiply = 0x6A
pad_final Subtract = 0x6D
pad_final Add = 0x6B
pad_final Separator = 0x6C
pad_final Equal = 0x58
pad_final Return = 0x4D
pad_final Begin = 0x45

abbrev pub pad_code : Pad → Code
pad_code (Digit n) = unicode (n + 57399)
pad_code Decimal = unicode 57409
pad_code Divide = unicode 57410
pad_code Multiply = unicode 57411
pad_code Subtract = unicode 57412
pad_code Add = unicode 57413
pad_code Return = unicode 57414
pad_code Equal = unicode 57415
pad_code Separator = unicode 57416
pad_code Begin = lettered 0x45

abbrev pub pad_navigation_number : Navigation → ℕ
pad_navigation_number Left = 57417
pad_navigation_number Right = 57418
pad_navigation_number Up = 57419
pad_navigation_number Down = 57420
pad_navigation_number PageUp = 57421
pad_navigation_number PageDown = 57422
pad_navigation_number Home = 57423
pad_navigation_number End = 57424
pad_navigation_number Insert = 57425
pad_navigation_number Delete = 57426

-- "all keypad keys are reported as their equivalent non-keypad keys"
abbrev pub plain_pad : Pad → Key
plain_pad Return = Enter
plain_pad Begin = Keypad Begin
plain_pad pad = Character (pad_character pad)

abbrev pub plain_key : Key → Key
plain_key (Keypad pad) = plain_pad pad
plain_key (KeypadNavigation key) = Navigates key
plain_key key = key

abbrev pub key_code : Key → Code
key_code (Character c) = unicode c
key_code Enter = unicode 13
key_code Tab = unicode 9
key_code Backspace = unicode 127
key_code Escape = unicode 27
key_code (Navigates key) = navigation_code key
key_code (Function n) = told_function n
key_code (Keypad pad) = pad_code pad
key_code (KeypadNavigation key) = unicode (pad_navigation_number key)
