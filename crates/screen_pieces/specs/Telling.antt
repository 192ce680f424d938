-- What a program reads, by what it asked for.
use Rattle.std.specs.Prelude.{ℕ, List, Bool}
use Rattle.terminal_keys.specs.declared.modes.KeyModes.{KeyModes}
use Rattle.terminal_keys.specs.Modes.{key_modes}
use Rattle.terminal_keys.specs.Text.{key_bytes}
use Rattle.terminal_keys.specs.Enhanced.{key_text}
use Rattle.terminal_keys.specs.Mouse.{mouse_bytes}
use Rattle.terminal_keys.specs.Paste.{paste_text, focus_text}
use Rattle.screen_pieces.specs.declared.keys.KeyBytes.{KeyBytes}
use Rattle.screen_pieces.specs.declared.keys.MouseBytes.{MouseBytes}
use Rattle.screen_pieces.specs.declared.terminal.Terminal.{Terminal}
use Rattle.screen_pieces.specs.Keys.{stroke_of, action_of, mouse_by}
use Rattle.screen_pieces.specs.Terminal.{asked_of}

abbrev pub key_modes_of : Terminal → KeyModes
key_modes_of terminal = key_modes (asked_of terminal)

-- the window's title
abbrev pub title_of : Terminal → List ℕ
title_of terminal = (asked_of terminal).titles.window

-- of a key, of the mouse, of what is pasted, and of the focus
abbrev pub key_told : KeyBytes → Terminal → List ℕ
key_told key terminal = key_bytes (key_text (stroke_of key) (key_modes_of terminal))

abbrev pub mouse_told : MouseBytes → Terminal → List ℕ
mouse_told mouse terminal = mouse_bytes (mouse_by (action_of mouse.action mouse.button) mouse (key_modes_of terminal))

abbrev pub paste_told : List ℕ → Terminal → List ℕ
paste_told text terminal = paste_text text (key_modes_of terminal).paste

abbrev pub focus_told : Bool → Terminal → List ℕ
focus_told gained terminal = key_bytes (focus_text gained (key_modes_of terminal))
