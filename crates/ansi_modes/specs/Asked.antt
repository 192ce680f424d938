-- What a stream has asked for, by the parser's calls: the whole meaning.
--
-- Sources: xterm's ctlseqs, "Controls beginning with ESC", "Functions using CSI" and "Operating System Commands"; kitty's
-- page (specs/Keys); VTE's vte.sh and Apple's Terminal for the folder (OSC 7). What RIS and DECSTR reset: xterm 379, asked
-- by DECRQM, DECRQSS and XTQMODKEYS after them, and of DECBKM its charproc.c, ReallyReset; kitty's page and the gist on
-- 2026 say of neither.
use Rattle.std.specs.Prelude.{ℕ, suc, min, Bool, true, false, ◌&&◌, not, ◌==◌, nat_le, List, [], ◌∷◌, length, Option, None, Some, if◌then◌else◌}
use Rattle.std.specs.Map.{lookup}
use Rattle.anstyle_parse.specs.Stream.Call.{Call, execute, osc_dispatch, csi_dispatch, esc_dispatch}
use Rattle.ansi_modes.specs.declared.modes.Field.{Field}
use Rattle.ansi_modes.specs.declared.modes.Switch.TheVariants.{Keypad}
use Rattle.ansi_modes.specs.declared.cursor.Shape.{Shape}
use Rattle.ansi_modes.specs.declared.cursor.Shape.TheVariants.{Own}
use Rattle.ansi_modes.specs.declared.function.Function.{Function}
use Rattle.ansi_modes.specs.declared.function.Function.TheVariants.{SetModes, ResetModes, SoftReset, SetShape, ModifyOtherKeys, DropOtherKeys, SetFlags, PushFlags, PopFlags}
use Rattle.ansi_modes.specs.declared.progress.ProgressState.{ProgressState}
use Rattle.ansi_modes.specs.declared.asked.Asked.{Asked}
use Rattle.ansi_modes.specs.Fields.{first_field, first_of, second_of, number_of}
use Rattle.ansi_modes.specs.Modes.{no_modes, field_of, with_switch, with_field}
use Rattle.ansi_modes.specs.Cursor.{shape_of}
use Rattle.ansi_modes.specs.Keys.{other_keys, flags_of, with_flags, pushed_flags, popped_flags}
use Rattle.ansi_modes.specs.Text.{text_of}
use Rattle.ansi_modes.specs.Titles.{no_titles, both_titles, chosen, saving, unsaved, restored}
use Rattle.ansi_modes.specs.Progress.{no_progress, state_by, in_state}
use Rattle.ansi_modes.specs.declared.colors.Rgb.{Rgb}
use Rattle.ansi_modes.specs.declared.colors.Colors.{Colors}
use Rattle.ansi_modes.specs.Colors.{no_palette, no_colors, with_pairs, cleared, with_dynamic, without_dynamic}
use Rattle.ansi_modes.specs.Changes.{no_changes, noted_field, noted_switch, noted_titles, noted_soft_reset, noted_reset}

-- a new terminal
abbrev pub nothing_asked : Asked
nothing_asked = record {
  modes = no_modes;
  shape = Own;
  other_keys = 0;
  main_flags = [];
  alternate_flags = [];
  titles = no_titles;
  saved_titles = [];
  folder = [];
  progress = no_progress;
  colors = no_colors;
  bells = 0;
  changes = no_changes;
}

-- BEL: bells are counted, up to the greatest number
unfoldable pub rung : Asked → Asked
rung a = record a { bells = min 4294967295 (suc a.bells); changes = record a.changes { bells = true } }

-- RIS: all is as new, but for titles, the folder, the colours of text, background and cursor, the count of bells, and
-- what the wheel does on the alternate screen
abbrev pub renewed : Asked → Asked
renewed a = record nothing_asked {
  modes = record no_modes { alternate_scroll = a.modes.alternate_scroll };
  titles = a.titles;
  saved_titles = a.saved_titles;
  folder = a.folder;
  colors = record a.colors { palette = no_palette };
  bells = a.bells;
  changes = noted_reset a.changes;
}

-- DECSTR: of these DECCKM, DECNKM, modifyOtherKeys, the cursor's shape and blinking, and the palette
abbrev pub softly_reset : Asked → Asked
softly_reset a = record a {
  modes = record a.modes { cursor_keys = false; keypad = false; blink = false };
  shape = Own;
  other_keys = 0;
  colors = record a.colors { palette = no_palette };
  changes = noted_soft_reset a.changes;
}

-- DECSET, DECRST: each group is a mode
abbrev pub with_known : Option Field → Bool → Asked → Asked
with_known None on a = a
with_known (Some field) on a =
    record a { modes = with_field field on a.modes; changes = noted_field field a.changes }

unfoldable pub with_number : Bool → ℕ → Asked → Asked
with_number on number a = with_known (field_of number) on a

abbrev pub with_numbers : Bool → List (List ℕ) → Asked → Asked
with_numbers on [] a = a
with_numbers on (group ∷ groups) a = with_numbers on groups (with_number on (first_field group) a)

-- DECKPAM, DECKPNM
abbrev pub with_keypad : Bool → Asked → Asked
with_keypad on a = record a { modes = with_switch Keypad on a.modes; changes = noted_switch Keypad a.changes }

-- DECSCUSR
abbrev pub in_shape : Option (Shape × Bool) → Asked → Asked
in_shape None a = a
in_shape (Some shape) a = record a {
  modes = record a.modes { blink = shape.1 };
  shape = shape.0;
  changes = record a.changes { cursor = true };
}

-- XTMODKEYS, where it speaks of modifyOtherKeys, which is number 4
unfoldable pub with_other_keys : (resource value : ℕ) → Asked → Asked
with_other_keys resource value a =
    if resource == 4 then record a { other_keys = other_keys value; changes = record a.changes { keys = true } } else a

-- the flags of keys of the screen that shows are changed
unfoldable pub with_stack : (List ℕ → List ℕ) → Asked → Asked
with_stack how a = record a {
  main_flags = if a.modes.alternate then a.main_flags else how a.main_flags;
  alternate_flags = if a.modes.alternate then how a.alternate_flags else a.alternate_flags;
  changes = record a.changes { keys = true };
}

-- the flags of keys that are in force on the screen that shows
abbrev pub flags_in_force : Asked → ℕ
flags_in_force a = if a.modes.alternate then flags_of a.alternate_flags else flags_of a.main_flags

-- XTWINOPS 22: titles are saved
abbrev pub titles_saved : (kind : ℕ) → Asked → Asked
titles_saved kind a = record a { saved_titles = saving kind a.titles a.saved_titles }

-- XTWINOPS 23: they come back
abbrev pub titles_back : (kind : ℕ) → Asked → Asked
titles_back kind a = record a {
  titles = restored kind a.titles a.saved_titles;
  saved_titles = unsaved a.saved_titles;
  changes = noted_titles kind a.changes;
}

unfoldable pub stacked : (operation kind : ℕ) → Asked → Asked
stacked operation kind a =
    if operation == 22 then titles_saved kind a
    else if operation == 23 then titles_back kind a
    else a

-- The control sequences with one mark or intermediate, by it and the final byte.
abbrev pub functions : List ((ℕ × ℕ) × Function)
functions =
    -- ? h DECSET, ? l DECRST; ! p DECSTR; SP q DECSCUSR
    ((0x3F, 0x68), SetModes) ∷ ((0x3F, 0x6C), ResetModes) ∷ ((0x21, 0x70), SoftReset) ∷ ((0x20, 0x71), SetShape) ∷
    -- > m, > n XTMODKEYS; = u, > u, < u kitty's
    ((0x3E, 0x6D), ModifyOtherKeys) ∷ ((0x3E, 0x6E), DropOtherKeys) ∷
    ((0x3D, 0x75), SetFlags) ∷ ((0x3E, 0x75), PushFlags) ∷ ((0x3C, 0x75), PopFlags) ∷ []

-- any others are that of none
unfoldable pub function_of : (mark final : ℕ) → Option Function
function_of mark final = lookup (λ known. mark == known.0 && final == known.1) functions

unfoldable pub controlled : Function → List (List ℕ) → Asked → Asked
controlled SetModes groups a = with_numbers true groups a
controlled ResetModes groups a = with_numbers false groups a
controlled SoftReset groups a = softly_reset a
controlled SetShape groups a = in_shape (shape_of (first_of groups)) a
controlled ModifyOtherKeys groups a = with_other_keys (first_of groups) (second_of groups) a
controlled DropOtherKeys groups a = with_other_keys (first_of groups) 0 a
controlled SetFlags groups a = with_stack (with_flags (second_of groups) (first_of groups)) a
controlled PushFlags groups a = with_stack (pushed_flags (first_of groups)) a
controlled PopFlags groups a = with_stack (popped_flags (first_of groups)) a

abbrev pub controlled_by : Option Function → List (List ℕ) → Asked → Asked
controlled_by None groups a = a
controlled_by (Some function) groups a = controlled function groups a

-- a control sequence; t, XTWINOPS, has no mark
unfoldable pub sequenced : List (List ℕ) → List ℕ → ℕ → Asked → Asked
sequenced groups [] final a = if final == 0x74 then stacked (first_of groups) (second_of groups) a else a
sequenced groups (mark ∷ []) final a = controlled_by (function_of mark final) groups a
sequenced groups (mark ∷ other ∷ others) final a = a

-- ESC =, >, c: DECKPAM, DECKPNM, RIS
unfoldable pub escaped : ℕ → Asked → Asked
escaped final a =
    if final == 0x3D then with_keypad true a
    else if final == 0x3E then with_keypad false a
    else if final == 0x63 then renewed a
    else a

-- OSC 0, 1, 2: both titles, that of the icon, that of the window
abbrev pub titled : (kind : ℕ) → List ℕ → Asked → Asked
titled kind text a = record a {
  titles = chosen kind (both_titles text) a.titles;
  changes = noted_titles kind a.changes;
}

-- OSC 7: the folder, as a URL
abbrev pub in_folder : List ℕ → Asked → Asked
in_folder text a = record a { folder = text; changes = record a.changes { folder = true } }

-- OSC 9 ; 4 ; STATE ; PERCENT
abbrev pub progressed : Option ProgressState → (given : Option ℕ) → Asked → Asked
progressed None given a = a
progressed (Some state) given a =
    record a { progress = in_state state given a.progress; changes = record a.changes { progress = true } }

abbrev pub number_in : List (List ℕ) → Option ℕ
number_in [] = None
number_in (part ∷ parts) = number_of part

abbrev pub is_number : ℕ → Option ℕ → Bool
is_number wanted None = false
is_number wanted (Some number) = number == wanted

abbrev pub notified : List (List ℕ) → Asked → Asked
notified (kind ∷ state ∷ more) a =
    if is_number 4 (number_of kind) then progressed (state_by (number_of state)) (number_in more) a else a
notified parts a = a

-- OSC 4, 104: colours of the palette
abbrev pub with_palette : List (Option Rgb) → Asked → Asked
with_palette palette a =
    record a { colors = record a.colors { palette = palette }; changes = record a.changes { colors = true } }

-- OSC 10 to 12, 110 to 112: those of text, background and cursor
abbrev pub with_colors : Colors → Asked → Asked
with_colors colors a = record a { colors = colors; changes = record a.changes { colors = true } }

-- a command of colours by its number
unfoldable pub colored : (number : ℕ) → List (List ℕ) → Asked → Asked
colored number parts a =
    if number == 4 then with_palette (with_pairs parts a.colors.palette) a
    else if number == 104 then with_palette (cleared parts a.colors.palette) a
    else if nat_le 10 number && nat_le number 12 then with_colors (with_dynamic number parts a.colors) a
    else if nat_le 110 number && nat_le number 112 then with_colors (without_dynamic number a.colors) a
    else a

unfoldable pub commanded_by : Option ℕ → List (List ℕ) → Asked → Asked
commanded_by None parts a = a
commanded_by (Some number) parts a =
    if nat_le number 2 then titled number (text_of parts) a
    else if number == 7 then in_folder (text_of parts) a
    else if number == 9 then notified parts a
    else colored number parts a

-- an operating system command, by its first part
abbrev pub commanded : List (List ℕ) → Asked → Asked
commanded [] a = a
commanded (number ∷ parts) a = commanded_by (number_of number) parts a

-- What is asked for after a call. What more came than a call shows, makes it one that is not known.
abbrev pub asked_after : Call → Asked → Asked
asked_after (execute byte) a = if byte == 0x07 then rung a else a
asked_after (osc_dispatch parts bell_terminated) a = commanded parts a
asked_after (csi_dispatch groups intermediates ignore final) a =
    if ignore then a else sequenced groups intermediates final a
asked_after (esc_dispatch intermediates ignore final) a =
    if not ignore && length intermediates == 0 then escaped final a else a
asked_after call a = a

-- after a list of calls
abbrev pub asked_after_all : List Call → Asked → Asked
asked_after_all [] a = a
asked_after_all (call ∷ calls) a = asked_after_all calls (asked_after call a)
