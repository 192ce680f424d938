-- Modes in plain bytes.
use Rattle.std.specs.Prelude.{◌≡◌, ℕ, ◌==◌, Option, None, Some, if◌then◌else◌}
use Rattle.ansi_style.specs.Bytes.{is_set}
use Rattle.ansi_screen.specs.Display.{Display}
use Rattle.ansi_modes.specs.declared.asked.Asked.{Asked}
use Rattle.ansi_modes.specs.declared.cursor.Shape.{Shape}
use Rattle.ansi_modes.specs.declared.cursor.Shape.TheVariants.{Own, Block, Underline, Bar}
use Rattle.ansi_modes.specs.declared.modes.Tracking.{Tracking}
use Rattle.ansi_modes.specs.declared.modes.Tracking.TheVariants.{Presses, Buttons, Drags, Motion}
use Rattle.ansi_modes.specs.declared.modes.Encoding.{Encoding}
use Rattle.ansi_modes.specs.declared.modes.Encoding.TheVariants.{Sgr, Urxvt, Pixels}
use Rattle.ansi_modes.specs.Asked.{flags_in_force}
use Rattle.ansi_modes.specs.Keys.{known_flags}
use Rattle.screen_pieces.specs.declared.modes.ModeBytes.{ModeBytes}

-- any other number is nothing
abbrev pub tracking_of : ℕ → Option Tracking
tracking_of number =
    if number == 1 then Some Presses
    else if number == 2 then Some Buttons
    else if number == 3 then Some Drags
    else if number == 4 then Some Motion
    else None

-- any other number is three bytes
abbrev pub encoding_of : ℕ → Option Encoding
encoding_of number =
    if number == 1 then Some Sgr else if number == 2 then Some Urxvt else if number == 3 then Some Pixels else None

-- any other number is the terminal's own
abbrev pub shape_of : ℕ → Shape
shape_of number = if number == 1 then Block else if number == 2 then Underline else if number == 3 then Bar else Own

-- These are the modes: whether the cursor is shown (DECTCEM), the alternate screen shows, autowrap is on (DECAWM), a
-- character makes room for itself (IRM), and lines are counted from the upper margin (DECOM); and what was asked for.
pub record HasModes (modes : ModeBytes) (d : Display) (asked : Asked) : Type 0 where
  pub shown : is_set modes.is_cursor_shown ≡ d.is_visible
  pub alternate : is_set modes.is_alternate ≡ d.is_alternate
  pub wraps : is_set modes.wraps ≡ d.wraps
  pub inserts : is_set modes.inserts ≡ d.inserts
  pub origin : is_set modes.has_origin ≡ d.cursor.is_relative
  pub cursor_keys : is_set modes.cursor_keys ≡ asked.modes.cursor_keys
  pub key_flags : modes.key_flags ≡ known_flags (flags_in_force asked)
  pub mouse : tracking_of modes.mouse ≡ asked.modes.tracking
  pub mouse_encoding : encoding_of modes.mouse_encoding ≡ asked.modes.encoding
  pub focus : is_set modes.focus ≡ asked.modes.focus
  pub paste : is_set modes.paste ≡ asked.modes.paste
  pub synchronized : is_set modes.synchronized ≡ asked.modes.synchronized
  pub reverse : is_set modes.reverse ≡ asked.modes.reverse
  pub cursor_shape : shape_of modes.cursor_shape ≡ asked.shape
  pub cursor_blinks : is_set modes.cursor_blinks ≡ asked.modes.blink
