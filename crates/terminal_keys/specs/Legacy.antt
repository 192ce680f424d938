-- Keys as xterm tells them, with modifyOtherKeys or without.
--
-- Sources: xterm's ctlseqs, "PC-Style Function Keys"; its input.c: Input, ModifyOtherKeys, allowedCharModifiers,
-- IsControlAlias, with the resources that it has by itself, but for metaSendsEscape and eightBitInput, so that Alt is ESC
-- before the character, as everywhere today. Which characters have controls: libX11's XkbToControl.
use Rattle.std.specs.Prelude.{ℕ, ◌+◌, ◌-◌, ◌%◌, Bool, true, false, ◌&&◌, ◌||◌, not, ◌==◌, nat_le, if◌then◌else◌}
use Rattle.terminal_keys.specs.declared.key.Key.{Key}
use Rattle.terminal_keys.specs.declared.key.Key.TheVariants.{Character, Enter, Tab, Backspace, Escape, Navigation, Function, Keypad, KeypadNavigation}
use Rattle.terminal_keys.specs.declared.key.Pad.{Pad}
use Rattle.terminal_keys.specs.declared.key.Pad.TheVariants.{Begin}
use Rattle.terminal_keys.specs.declared.key.Modifiers.{Modifiers}
use Rattle.terminal_keys.specs.declared.key.Stroke.{Stroke}
use Rattle.terminal_keys.specs.declared.modes.KeyModes.{KeyModes}
use Rattle.terminal_keys.specs.declared.tables.Code.{Code}
use Rattle.terminal_keys.specs.declared.text.KeyText.{KeyText}
use Rattle.terminal_keys.specs.declared.text.KeyText.TheVariants.{Typed, Single, Control}
use Rattle.terminal_keys.specs.Keys.{bit, typed}
use Rattle.terminal_keys.specs.Tables.{navigation_code, function_code, pad_character, pad_final}

-- 2 is Shift, 3 Alt, 5 Control, and so on to 8
abbrev pub modifier_number : Modifiers → ℕ
modifier_number m = bit m.shift 1 + bit m.alt 2 + bit m.control 4 + 1

abbrev pub is_held : Modifiers → Bool
is_held m = m.shift || m.alt || m.control

abbrev pub with_number : (number modifiers text last : ℕ) → KeyText
with_number number modifiers text last =
    Control (record { number = number; shifted = 0; modifiers = modifiers; event = 1; text = text; last = last })

-- "the SS3 is altered to CSI when sending a function key modifier as a parameter"
abbrev pub with_modifiers : Code → (modifiers : ℕ) → (application : Bool) → KeyText
with_modifiers code modifiers application =
    if application && code.number == 1 && modifiers == 1 then Single 1 code.last
    else with_number code.number modifiers 0 code.last

-- @ to ~
unfoldable pub is_letter : ℕ → Bool
is_letter c = nat_le 0x40 c && nat_le c 0x7E

-- space, / and 2 to 8
unfoldable pub has_control : ℕ → Bool
has_control c = c == 0x20 || c == 0x2F || (nat_le 0x32 c && nat_le c 0x38)

-- any other character, but for ?, stays what it is
unfoldable pub control_of : ℕ → ℕ
control_of c =
    if is_letter c then c % 32
    else if c == 0x20 || c == 0x32 then 0
    else if nat_le 0x33 c && nat_le c 0x37 then c - 0x18
    else if c == 0x38 || c == 0x3F then 0x7F
    else if c == 0x2F then 0x1F
    else c

-- 1: with Control, where that gives no control, or with Alt where it is no letter; 2: with any modifier, but for Shift
-- where the character is no letter
unfoldable pub is_told : (character : ℕ) → Modifiers → (level : ℕ) → Bool
is_told c m level =
    if level == 1 then m.control && not (is_letter c) && (m.alt || not (has_control c))
    else if level == 2 then m.alt || m.control || (m.shift && (is_letter c || c == 0x20))
    else false

-- CSI 27 ; MODIFIERS ; CHARACTER ~, or the character
abbrev pub told_or_typed : Bool → (modifiers character : ℕ) → (alt : Bool) → KeyText
told_or_typed told modifiers character alt = if told then with_number 27 modifiers character 0x7E else Typed character alt

unfoldable pub character_text : ℕ → Modifiers → (level : ℕ) → KeyText
character_text c m level =
    told_or_typed (is_told c m level) (modifier_number m)
    (if m.control && not (is_told c m level) then control_of c else c) m.alt

-- 1: with Shift or Control, but Alt takes away Control and itself
unfoldable pub enter_text : Modifiers → (level : ℕ) → KeyText
enter_text m level =
    if level == 1
    then told_or_typed (m.shift || (m.control && not m.alt)) (if m.alt then 2 else modifier_number m) 0x0D m.alt
    else if level == 2 then told_or_typed (is_held m) (modifier_number m) 0x0D m.alt
    else Typed 0x0D m.alt

-- with Shift CSI Z; 2: but with Shift and others, and with others as Enter is
unfoldable pub tab_text : Modifiers → (level : ℕ) → KeyText
tab_text m level =
    if m.shift && (not (level == 2) || (not m.alt && not m.control)) then with_number 1 1 0 0x5A
    else if level == 2 then told_or_typed (is_held m) (modifier_number m) 0x09 m.alt
    else if level == 1 then told_or_typed (m.control && not m.alt) (modifier_number m) 0x09 m.alt
    else Typed 0x09 m.alt

-- 1: with Alt and another
unfoldable pub escape_text : Modifiers → (level : ℕ) → KeyText
escape_text m level =
    told_or_typed
    (if level == 1 then m.alt && (m.shift || m.control) else if level == 2 then is_held m else false)
    (modifier_number m) 0x1B m.alt

-- DEL, or BS as DECBKM and Control have it; 2: with Shift or Alt
unfoldable pub backspace_text : Modifiers → (backspace : Bool) → (level : ℕ) → KeyText
backspace_text m backspace level =
    told_or_typed (level == 2 && (m.shift || m.alt)) (modifier_number m)
    (if (backspace && m.control) || (not backspace && not m.control) then 0x7F else 0x08) m.alt

-- "Use the NumLock key to override the application mode."
abbrev pub pad_text : Pad → Modifiers → KeyModes → KeyText
pad_text Begin m modes = with_modifiers (record { number = 1; last = 0x45 }) (modifier_number m) modes.cursor_keys
pad_text pad m modes =
    if modes.keypad && not m.num_lock then Single (modifier_number m) (pad_final pad)
    else Typed (pad_character pad) false

-- The level is that of modifyOtherKeys.
abbrev pub legacy : Key → Stroke → KeyModes → (level : ℕ) → KeyText
legacy (Character c) stroke modes level = character_text (typed c stroke) stroke.modifiers level
legacy Enter stroke modes level = enter_text stroke.modifiers level
legacy Tab stroke modes level = tab_text stroke.modifiers level
legacy Backspace stroke modes level = backspace_text stroke.modifiers modes.backspace level
legacy Escape stroke modes level = escape_text stroke.modifiers level
legacy (Navigation key) stroke modes level =
    with_modifiers (navigation_code key) (modifier_number stroke.modifiers) modes.cursor_keys
legacy (KeypadNavigation key) stroke modes level =
    with_modifiers (navigation_code key) (modifier_number stroke.modifiers) modes.cursor_keys
legacy (Function n) stroke modes level = with_modifiers (function_code n) (modifier_number stroke.modifiers) true
legacy (Keypad pad) stroke modes level = pad_text pad stroke.modifiers modes
