-- Private modes: one table from a number to what it says, by which a mode is set, reset and reported.
--
-- Sources: xterm's ctlseqs, "DEC Private Mode Set (DECSET)" and "Mouse Tracking"; the VT510 manual, DECCKM, DECNKM,
-- DECBKM, DECSCNM; for 2026 Christian Parpart, "Synchronized Output" (the gist christianparpart/d8a62cc1ab659194337d73e399004036).
use Rattle.std.specs.Prelude.{ℕ, Bool, true, false, Option, None, Some, ◌==◌, List, [], ◌∷◌, if◌then◌else◌}
use Rattle.std.specs.Map.{lookup}
use Rattle.ansi_modes.specs.declared.modes.Switch.{Switch}
use Rattle.ansi_modes.specs.declared.modes.Switch.TheVariants.{CursorKeys, Reverse, Blink, Keypad, Backspace, Focus, AlternateScroll, Alternate, Paste, Synchronized}
use Rattle.ansi_modes.specs.declared.modes.Tracking.{Tracking}
use Rattle.ansi_modes.specs.declared.modes.Tracking.TheVariants.{Presses, Buttons, Drags, Motion}
use Rattle.ansi_modes.specs.declared.modes.Encoding.{Encoding}
use Rattle.ansi_modes.specs.declared.modes.Encoding.TheVariants.{Sgr, Urxvt, Pixels}
use Rattle.ansi_modes.specs.declared.modes.Field.{Field}
use Rattle.ansi_modes.specs.declared.modes.Field.TheVariants.{Switches, Tracks, Encodes, Declined}
use Rattle.ansi_modes.specs.declared.modes.Modes.{Modes}

abbrev pub fields : List (ℕ × Field)
fields =
    -- DECCKM, DECSCNM, blinking of the cursor, DECNKM, DECBKM
    (1, Switches CursorKeys) ∷ (5, Switches Reverse) ∷ (12, Switches Blink) ∷ (66, Switches Keypad) ∷
    (67, Switches Backspace) ∷
    -- focus, the wheel on the alternate screen, that screen, bracketed paste, synchronized output
    (1004, Switches Focus) ∷ (1007, Switches AlternateScroll) ∷ (1049, Switches Alternate) ∷
    (2004, Switches Paste) ∷ (2026, Switches Synchronized) ∷
    -- which events of the mouse are told: X10, VT200, button events, any event
    (9, Tracks Presses) ∷ (1000, Tracks Buttons) ∷ (1002, Tracks Drags) ∷ (1003, Tracks Motion) ∷
    -- how they are written; in UTF-8 (1005) they never are
    (1005, Declined) ∷ (1006, Encodes Sgr) ∷ (1015, Encodes Urxvt) ∷ (1016, Encodes Pixels) ∷ []

-- any other number is that of none
unfoldable pub field_of : ℕ → Option Field
field_of number = lookup (λ known. number == known) fields

-- a new terminal has none of them set
abbrev pub no_modes : Modes
no_modes = record {
  cursor_keys = false;
  keypad = false;
  backspace = false;
  reverse = false;
  blink = false;
  focus = false;
  alternate_scroll = false;
  alternate = false;
  paste = false;
  synchronized = false;
  tracking = None;
  encoding = None;
}

unfoldable pub with_switch : Switch → Bool → Modes → Modes
with_switch CursorKeys on m = record m { cursor_keys = on }
with_switch Keypad on m = record m { keypad = on }
with_switch Backspace on m = record m { backspace = on }
with_switch Reverse on m = record m { reverse = on }
with_switch Blink on m = record m { blink = on }
with_switch Focus on m = record m { focus = on }
with_switch AlternateScroll on m = record m { alternate_scroll = on }
with_switch Alternate on m = record m { alternate = on }
with_switch Paste on m = record m { paste = on }
with_switch Synchronized on m = record m { synchronized = on }

unfoldable pub is_encoding : Encoding → Option Encoding → Bool
is_encoding Sgr (Some Sgr) = true
is_encoding Urxvt (Some Urxvt) = true
is_encoding Pixels (Some Pixels) = true
is_encoding encoding other = false

-- A reset of any tracking ends that in force; one of an encoding ends that encoding alone (xterm's charproc.c,
-- dpmodes: "a reset is only effective against the matching mode").
unfoldable pub with_field : Field → Bool → Modes → Modes
with_field (Switches switch) on m = with_switch switch on m
with_field (Tracks tracking) on m = record m { tracking = if on then Some tracking else None }
with_field (Encodes encoding) on m =
    if on then record m { encoding = Some encoding }
    else if is_encoding encoding m.encoding then record m { encoding = None }
    else m
with_field Declined on m = m

unfoldable pub is_tracking : Tracking → Option Tracking → Bool
is_tracking Presses (Some Presses) = true
is_tracking Buttons (Some Buttons) = true
is_tracking Drags (Some Drags) = true
is_tracking Motion (Some Motion) = true
is_tracking tracking other = false

-- whether it is set, as it is reported
unfoldable pub has_switch : Switch → Modes → Bool
has_switch CursorKeys m = m.cursor_keys
has_switch Keypad m = m.keypad
has_switch Backspace m = m.backspace
has_switch Reverse m = m.reverse
has_switch Blink m = m.blink
has_switch Focus m = m.focus
has_switch AlternateScroll m = m.alternate_scroll
has_switch Alternate m = m.alternate
has_switch Paste m = m.paste
has_switch Synchronized m = m.synchronized

unfoldable pub has_field : Field → Modes → Bool
has_field (Switches switch) m = has_switch switch m
has_field (Tracks tracking) m = is_tracking tracking m.tracking
has_field (Encodes encoding) m = is_encoding encoding m.encoding
has_field Declined m = false
