-- The last rows that left a screen, of as many as were asked for.
use Rattle.std.specs.Prelude.{◌≡◌, ◌≤◌, ℕ, Bool, Option, None, Some, List, [], length, slice_index_or}
use Rattle.std.specs.Option.{option_map}
use Rattle.anstyle_parse.specs.Stream.Call.{Call}
use Rattle.anstyle_parse.specs.Stream.Calls.{AreCalls}
use Rattle.ansi_screen.specs.declared.cell.Cell.{Cell}
use Rattle.ansi_screen.specs.After.{State}
use Rattle.ansi_screen.specs.History.{Kept, nothing_kept, with_left}
use Rattle.ansi_screen.specs.Text.{row_text}
use Rattle.screen_answers.specs.Kept.{all_kept}

-- a row has so many cells
abbrev pub HasCells : ℕ → List Cell → Type 0
HasCells columns row = length row ≡ columns

-- the same room, of which no row has left yet
abbrev pub nothing_yet : Option Kept → Option Kept
nothing_yet history = option_map (λ (kept : Kept). nothing_kept kept.most kept.columns) history

-- Kept are the last of the rows that left by the bytes, from a first screen on: of all, or of those that ED and RIS did
-- not take away.
abbrev pub KeepsLeft : (keeps_erased : Bool) → State → List ℕ → Option Kept → Type 0
KeepsLeft keeps_erased first bytes history = (calls : List Call) × AreCalls bytes calls
    × (history ≡ with_left (all_kept keeps_erased calls first) (nothing_yet history))

-- what is kept; nothing, where nothing is to be
abbrev pub kept_of : Option Kept → Kept
kept_of None = nothing_kept 0 0
kept_of (Some kept) = kept

-- the row of a number, the oldest being the first; its text, without the blanks at its end
abbrev pub kept_row : ℕ → Kept → List Cell
kept_row number kept = slice_index_or kept.rows number []

abbrev pub text_of_kept : ℕ → Kept → List ℕ
text_of_kept number kept = row_text (kept_row number kept)

-- There is no such row.
abbrev pub LacksKept : ℕ → Kept → Type 0
LacksKept number kept = length kept.rows ≤ number
