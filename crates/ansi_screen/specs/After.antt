-- What each call of a parser makes of a display, and which rows leave by it: the whole meaning.
--
-- Sources: xterm's ctlseqs, "Controls beginning with ESC" and "Functions using CSI"; ECMA-48,
-- 8.3, for the names.
use Rattle.std.specs.Prelude.{◌≡◌, ℕ, ◌+◌, ◌-◌, min, max, Option, None, Some, Bool, true, false, ◌&&◌, ◌||◌, not, ◌==◌, nat_le, List, [], ◌∷◌, length, slice_index_or, if◌then◌else◌}
use Rattle.std.specs.Fn.{iterate}
use Rattle.std.specs.Map.{lookup}
use Rattle.std.specs.Option.{unwrap_or}
use Rattle.anstyle_parse.specs.Stream.Call.{Call, print, execute, osc_dispatch, csi_dispatch, esc_dispatch}
use Rattle.anstyle_parse.specs.Stream.Calls.{AreCalls}
use Rattle.ansi_screen.specs.declared.function.Edit.{Edit}
use Rattle.ansi_screen.specs.declared.function.Edit.TheVariants.{InsertCharacters, EraseInDisplay, EraseInLine, InsertLines, DeleteLines, DeleteCharacters, EraseCharacters}
use Rattle.ansi_screen.specs.declared.function.Move.{Move}
use Rattle.ansi_screen.specs.declared.function.Move.TheVariants.{Up, Down, Forward, Back, NextLine, PrecedingLine, Column, Line, LineForward, Position, BackTab}
use Rattle.ansi_screen.specs.declared.function.Setting.{Setting}
use Rattle.ansi_screen.specs.declared.function.Setting.TheVariants.{Rendition, SetModes, ResetModes, Margins, ScrollUp, ScrollDown, ForwardTab, ClearStops, SaveCursor, RestoreCursor}
use Rattle.ansi_screen.specs.declared.function.Function.{Function}
use Rattle.ansi_screen.specs.declared.function.Function.TheVariants.{Edits, Moves, Sets, Nothing}
use Rattle.ansi_screen.specs.Display.{Display}
use Rattle.ansi_screen.specs.State.{Step, stays, unchanged, stepped}
pub use Rattle.ansi_screen.specs.State.{State, new_state, as_shown}
use Rattle.ansi_screen.specs.Links.{commanded}
use Rattle.ansi_screen.specs.Moves.{to_column, settled, up, down, to_line, line_of, to_position, tabbed, tabbed_back, with_stop, cleared_stops}
use Rattle.ansi_screen.specs.Edits.{erased_display, erased_line, erased_characters, deleted_characters, inserted_characters, inserted_lines, deleted_lines, scrolled_up, scrolled_down, index, reverse_index, renewed}
use Rattle.ansi_screen.specs.Print.{printed, printed_again}
use Rattle.ansi_screen.specs.Widths.{is_shown, columns}
use Rattle.ansi_screen.specs.Modes.{with_style, shifted, with_charset, saving, restored, with_margins, with_modes, with_mode, with_private_mode, softly_reset, first_field}

-- The control functions by their final bytes.
abbrev pub functions : List (ℕ × Function)
functions =
    -- @ ICH, J ED, K EL; L IL, M DL; P DCH, X ECH
    (0x40, Edits InsertCharacters) ∷ (0x4A, Edits EraseInDisplay) ∷ (0x4B, Edits EraseInLine) ∷
    (0x4C, Edits InsertLines) ∷ (0x4D, Edits DeleteLines) ∷
    (0x50, Edits DeleteCharacters) ∷ (0x58, Edits EraseCharacters) ∷
    -- A CUU, B CUD, C CUF, D CUB; E CNL, F CPL, G CHA, H CUP; Z CBT, ` HPA, a HPR, d VPA, e VPR, f HVP
    (0x41, Moves Up) ∷ (0x42, Moves Down) ∷ (0x43, Moves Forward) ∷ (0x44, Moves Back) ∷
    (0x45, Moves NextLine) ∷ (0x46, Moves PrecedingLine) ∷ (0x47, Moves Column) ∷ (0x48, Moves Position) ∷
    (0x5A, Moves BackTab) ∷ (0x60, Moves Column) ∷ (0x61, Moves Forward) ∷
    (0x64, Moves Line) ∷ (0x65, Moves LineForward) ∷ (0x66, Moves Position) ∷
    -- I CHT, S SU, T SD, g TBC; h SM, l RM, m SGR, r DECSTBM; s SCOSC, u SCORC
    (0x49, Sets ForwardTab) ∷ (0x53, Sets ScrollUp) ∷ (0x54, Sets ScrollDown) ∷ (0x67, Sets ClearStops) ∷
    (0x68, Sets SetModes) ∷ (0x6C, Sets ResetModes) ∷ (0x6D, Sets Rendition) ∷ (0x72, Sets Margins) ∷
    (0x73, Sets SaveCursor) ∷ (0x75, Sets RestoreCursor) ∷ []

-- any other final byte is that of none
unfoldable pub function_of : ℕ → Function
function_of final = unwrap_or (lookup (λ byte. final == byte) functions) Nothing

-- Parameters are taken by the first field of each group; a missing one is 0. A count is 1,
-- where 0 is given.
abbrev pub first_of : List (List ℕ) → ℕ
first_of groups = first_field (slice_index_or groups 0 [])

abbrev pub second_of : List (List ℕ) → ℕ
second_of groups = first_field (slice_index_or groups 1 [])

-- No number is given: SCOSC and SCORC have none. (With numbers `s` is DECSLRM, which is known where margins left and
-- right are, and `u` is no function of xterm's.)
abbrev pub is_bare : List (List ℕ) → Bool
is_bare groups = first_of groups == 0 && nat_le (length groups) 1

abbrev pub count : ℕ → ℕ
count n = max 1 n

-- The numbers of ED and EL that change a screen are 0, 1 and 2; those of other edits are counts.
unfoldable pub is_known : Edit → ℕ → Bool
is_known EraseInDisplay n = nat_le n 2
is_known EraseInLine n = nat_le n 2
is_known edit n = true

-- Edits of cells by a known number, in a display in which no wrap is pending.
unfoldable pub edited : Edit → ℕ → Display → Step
edited InsertCharacters n d = stays (inserted_characters (count n)) d
edited EraseInDisplay n d = erased_display n d
edited EraseInLine n d = stays (erased_line n) d
edited InsertLines n d = stays (inserted_lines (count n)) d
edited DeleteLines n d = stays (deleted_lines (count n)) d
edited DeleteCharacters n d = stays (deleted_characters (count n)) d
edited EraseCharacters n d = stays (erased_characters (count n)) d

-- Moves of the cursor, in such a display too.
unfoldable pub moved : Move → ℕ → ℕ → Display → Display
moved Up n column d = up (count n) d
moved Down n column d = down (count n) d
moved Forward n column d = to_column (d.cursor.column + count n) d
moved Back n column d = to_column (d.cursor.column - count n) d
moved NextLine n column d = to_column 0 (down (count n) d)
moved PrecedingLine n column d = to_column 0 (up (count n) d)
moved Column n column d = to_column (count n - 1) d
moved Line n column d = to_line (count n - 1) d
moved LineForward n column d = to_line (line_of d + count n) d
moved Position n column d = to_position (count n - 1) (count column - 1) d
moved BackTab n column d = iterate tabbed_back (min (count n) d.width) d

-- What leaves a pending wrap as it is.
unfoldable pub set : Setting → List (List ℕ) → Display → Step
set Rendition groups d = stays (with_style groups) d
set SetModes groups d = stays (with_modes (with_mode true) groups) d
set ResetModes groups d = stays (with_modes (with_mode false) groups) d
set Margins groups d = stays (with_margins (first_of groups) (second_of groups)) d
set ScrollUp groups d = scrolled_up (count (first_of groups)) d
set ScrollDown groups d = stays (scrolled_down (count (first_of groups))) d
set ForwardTab groups d = stays (iterate tabbed (min (count (first_of groups)) d.width)) d
set ClearStops groups d = stays (cleared_stops (first_of groups)) d
set SaveCursor groups d = if is_bare groups then stays saving d else unchanged d
set RestoreCursor groups d = if is_bare groups then stays restored d else unchanged d

unfoldable pub controlled : Function → List (List ℕ) → Display → Step
controlled (Edits edit) groups d =
    if is_known edit (first_of groups) then edited edit (first_of groups) (settled d) else unchanged d
controlled (Moves move) groups d = stays (moved move (first_of groups) (second_of groups)) (settled d)
controlled (Sets setting) groups d = set setting groups d
controlled Nothing groups d = unchanged d

-- a control sequence whose intermediates are none; ? for private modes; ! for DECSTR
unfoldable pub sequenced : List (List ℕ) → List ℕ → ℕ → Display → Step
sequenced groups [] final d = controlled (function_of final) groups d
sequenced groups (mark ∷ []) final d =
    if mark == 0x3F && final == 0x68 then stays (with_modes (with_private_mode true) groups) d
    else if mark == 0x3F && final == 0x6C then stays (with_modes (with_private_mode false) groups) d
    else if mark == 0x21 && final == 0x70 then stays softly_reset d
    else unchanged d
sequenced groups (mark ∷ other ∷ others) final d = unchanged d

-- BS, HT, LF VT FF, CR, SO, SI
unfoldable pub executed : ℕ → Display → Step
executed byte d =
    if byte == 0x08 then stays (λ place. to_column (place.cursor.column - 1) place) (settled d)
    else if byte == 0x09 then stays tabbed d
    else if byte == 0x0A || byte == 0x0B || byte == 0x0C then index (settled d)
    else if byte == 0x0D then stays (to_column 0) d
    else if byte == 0x0E then stays (shifted true) d
    else if byte == 0x0F then stays (shifted false) d
    else unchanged d

-- ESC 7, 8, D, E, H, M, c: DECSC, DECRC, IND, NEL, HTS, RI, RIS
unfoldable pub escaped : ℕ → Display → Step
escaped final d =
    if final == 0x37 then stays saving d
    else if final == 0x38 then stays restored d
    else if final == 0x44 then index (settled d)
    else if final == 0x45 then index (to_column 0 d)
    else if final == 0x48 then stays (with_stop true) d
    else if final == 0x4D then stays reverse_index (settled d)
    else if final == 0x63 then renewed d
    else unchanged d

-- An escape sequence with an intermediate designates a character set.
unfoldable pub designated : List ℕ → ℕ → Display → Step
designated [] final d = escaped final d
designated (mark ∷ []) final d = stays (with_charset mark final) d
designated (mark ∷ other ∷ others) final d = unchanged d

-- marks, and what has no glyph, are not repeated
unfoldable pub repeatable : ℕ → Option ℕ
repeatable c = if is_shown c && not (columns c == 0) then Some c else None

unfoldable pub is_repeat : List ℕ → ℕ → Bool
is_repeat intermediates final = length intermediates == 0 && final == 0x62

unfoldable pub repeated : ℕ → Option ℕ → Display → Display
repeated n None d = d
repeated n (Some c) d = iterate (printed_again c) (min n d.width) d

-- What a call makes of a display, where REP repeats `last`. What more came than a call shows, makes it one that is not
-- known.
abbrev pub step_of : Call → (last : Option ℕ) → Display → Step
step_of (print c) last d = printed c d
step_of (execute byte) last d = executed byte d
step_of (osc_dispatch parts bell_terminated) last d = stays (commanded parts) d
step_of (csi_dispatch groups intermediates ignore final) last d =
    if ignore then unchanged d
    else if is_repeat intermediates final then stays (repeated (count (first_of groups)) last) d
    else sequenced groups intermediates final d
step_of (esc_dispatch intermediates ignore final) last d =
    if ignore then unchanged d else designated intermediates final d
step_of call last d = unchanged d

-- what a call leaves to REP
abbrev pub left_to_repeat : Call → Option ℕ
left_to_repeat (print c) = repeatable c
left_to_repeat call = None

-- The screen after a call: what was shown of it, and what it keeps, decides nothing.
abbrev pub after : Call → State → State
after call s = record (stepped (step_of call s.last) s) { last = left_to_repeat call }

-- the screen after a list of calls
abbrev pub after_all : List Call → State → State
after_all [] s = s
after_all (call ∷ calls) s = after_all calls (after call s)

-- The bytes lead from one screen to another: by the calls that a new parser makes of them.
abbrev pub Shows : State → List ℕ → State → Type 0
Shows old bytes new = (calls : List Call) × AreCalls bytes calls × (new ≡ after_all calls old)
