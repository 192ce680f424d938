-- The mouse.
--
-- Source: xterm's ctlseqs, "Mouse Tracking": "X10 compatibility mode", "Normal tracking mode", "Wheel mice", "Other
-- buttons", "Button-event tracking", "Any-event tracking", "Extended coordinates".
use Rattle.std.specs.Prelude.{ℕ, ◌+◌, Bool, true, false, ◌&&◌, nat_lt, Option, None, Some, List, [], ◌∷◌, ◌++◌, decimal, if◌then◌else◌}
use Rattle.terminal_keys.specs.declared.key.Modifiers.{Modifiers}
use Rattle.ansi_modes.specs.declared.modes.Tracking.{Tracking}
use Rattle.ansi_modes.specs.declared.modes.Tracking.TheVariants.{Presses, Buttons, Drags, Motion}
use Rattle.ansi_modes.specs.declared.modes.Encoding.{Encoding}
use Rattle.ansi_modes.specs.declared.modes.Encoding.TheVariants.{Sgr as InSgr, Urxvt as InUrxvt, Pixels}
use Rattle.terminal_keys.specs.declared.modes.KeyModes.{KeyModes}
use Rattle.terminal_keys.specs.declared.mouse.Button.{Button}
use Rattle.terminal_keys.specs.declared.mouse.Button.TheVariants.{Left, Middle, Right, Back, Forward}
use Rattle.terminal_keys.specs.declared.mouse.Wheel.{Wheel}
use Rattle.terminal_keys.specs.declared.mouse.Wheel.TheVariants.{Up, Down, Left as ToLeft, Right as ToRight}
use Rattle.terminal_keys.specs.declared.mouse.Action.{Action}
use Rattle.terminal_keys.specs.declared.mouse.Action.TheVariants.{Press, Release, Turn, Move}
use Rattle.terminal_keys.specs.declared.mouse.Mouse.{Mouse}
use Rattle.terminal_keys.specs.declared.mouse.MouseText.{MouseText}
use Rattle.terminal_keys.specs.declared.mouse.MouseText.TheVariants.{Nothing, Bytes, Sgr, Urxvt}
use Rattle.terminal_keys.specs.Keys.{bit}

-- MB1, MB2, MB3; "by adding 128 for buttons 8 through 11"
abbrev pub button_code : Button → ℕ
button_code Left = 0
button_code Middle = 1
button_code Right = 2
button_code Back = 128
button_code Forward = 129

-- buttons 4 to 7: "64 is added to the event code"
abbrev pub wheel_code : Wheel → ℕ
wheel_code Up = 64
wheel_code Down = 65
wheel_code ToLeft = 66
wheel_code ToRight = 67

-- 3 is a release, of any button; "on button-motion events, xterm adds 32"
abbrev pub action_code : Action → (is_named : Bool) → ℕ
action_code (Press button) is_named = button_code button
action_code (Release button) is_named = if is_named then button_code button else 3
action_code (Turn wheel) is_named = wheel_code wheel
action_code (Move (Some button)) is_named = button_code button + 32
action_code (Move None) is_named = 35

abbrev pub is_released : Action → Bool
is_released (Release button) = true
is_released action = false

-- "on button press, ... button is 1, 2 or 3"; presses, releases and the wheel; motion with a button down; any motion
unfoldable pub is_mouse_told : Tracking → Action → Bool
is_mouse_told Presses (Press Left) = true
is_mouse_told Presses (Press Middle) = true
is_mouse_told Presses (Press Right) = true
is_mouse_told Presses action = false
is_mouse_told Motion action = true
is_mouse_told Buttons (Move button) = false
is_mouse_told Drags (Move None) = false
is_mouse_told tracking action = true

-- "4=Shift, 8=Meta, and 16=Control"; X10 has none
abbrev pub held_code : Tracking → Modifiers → ℕ
held_code Presses m = 0
held_code tracking m = bit m.shift 4 + bit m.alt 8 + bit m.control 16

abbrev pub mouse_code : Mouse → Tracking → (is_named : Bool) → ℕ
mouse_code mouse tracking is_named = action_code mouse.action is_named + held_code tracking mouse.modifiers

-- "a single character as value+32", and places count from 1; what no byte can tell is not told
unfoldable pub packed : (code column row : ℕ) → MouseText
packed code column row =
    if nat_lt column 223 && nat_lt row 223 then Bytes (code + 32) (column + 33) (row + 33) else Nothing

abbrev pub mouse_written : Mouse → Tracking → Option Encoding → MouseText
mouse_written mouse tracking None = packed (mouse_code mouse tracking false) mouse.column mouse.row
mouse_written mouse tracking (Some InSgr) =
    Sgr (mouse_code mouse tracking true) (mouse.column + 1) (mouse.row + 1) (is_released mouse.action)
mouse_written mouse tracking (Some InUrxvt) =
    Urxvt (mouse_code mouse tracking false + 32) (mouse.column + 1) (mouse.row + 1)
mouse_written mouse tracking (Some Pixels) =
    Sgr (mouse_code mouse tracking true) (mouse.x + 1) (mouse.y + 1) (is_released mouse.action)

abbrev pub tracked : Option Tracking → Mouse → KeyModes → MouseText
tracked None mouse modes = Nothing
tracked (Some tracking) mouse modes =
    if is_mouse_told tracking mouse.action then mouse_written mouse tracking modes.encoding else Nothing

-- What a program reads of the mouse.
abbrev pub mouse_text : Mouse → KeyModes → MouseText
mouse_text mouse modes = tracked modes.tracking mouse modes

abbrev pub numbers_text : (code column row last : ℕ) → List ℕ
numbers_text code column row last =
    decimal code ++ ((0x3B ∷ []) ++ (decimal column ++ ((0x3B ∷ []) ++ (decimal row ++ last ∷ []))))

abbrev pub urxvt_text : (code column row : ℕ) → List ℕ
urxvt_text code column row = (0x1B ∷ 0x5B ∷ []) ++ numbers_text code column row 0x4D

-- "M for button press and m for button release"
abbrev pub last_byte : Bool → ℕ
last_byte released = if released then 0x6D else 0x4D

abbrev pub sgr_text : (code column row : ℕ) → Bool → List ℕ
sgr_text code column row released = (0x1B ∷ 0x5B ∷ 0x3C ∷ []) ++ numbers_text code column row (last_byte released)

-- CSI M and three bytes; CSI < CODE ; X ; Y M, or m; CSI CODE ; X ; Y M
abbrev pub mouse_bytes : MouseText → List ℕ
mouse_bytes Nothing = []
mouse_bytes (Bytes code column row) = 0x1B ∷ 0x5B ∷ 0x4D ∷ code ∷ column ∷ row ∷ []
mouse_bytes (Sgr code column row released) = sgr_text code column row released
mouse_bytes (Urxvt code column row) = urxvt_text code column row
