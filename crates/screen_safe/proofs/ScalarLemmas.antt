-- The characters that a screen showed are scalar values, so that those of its safe text are what was encoded.
use Rattle.std.proofs.Common.{ℕ, Bool, true, false, List, [], ◌∷◌, ◌++◌, take, lit<}
use Rattle.std.specs.Prelude.{if◌then◌else◌}
use Rattle.std.specs.List.{AllByRecursion, flat_map}
use Rattle.std.specs.Char.{IsScalar}
use Rattle.anstyle_parse.specs.Stream.Call.{Call}
use Rattle.anstyle_parse.specs.Stream.Calls.{AreCalls}
use Rattle.anstyle_parse.proofs.Lists.Parts.{AllByRecursion-take}
use Rattle.anstyle_parse.proofs.Lawful.Calls.{lawful}
use Rattle.ansi_strip.proofs.Showable.{AreShowable-lawful, IsScalar-character, scalar_below}
use Rattle.ansi_screen.specs.declared.cell.Cell.{Cell}
use Rattle.ansi_screen.specs.declared.cell.Marks.{Marks}
use Rattle.ansi_screen.specs.declared.cell.Marks.TheVariants.{Unmarked, One, Two}
use Rattle.ansi_screen.specs.Cells.{is_right}
use Rattle.ansi_screen.specs.After.{State, new_state, after_all}
use Rattle.ansi_screen.specs.Leaving.{all_left}
use Rattle.ansi_screen.specs.Text.{used, is_unprinted, goes_on}
use Rattle.ansi_screen.proofs.CharacterLemmas.{PrintsCharacter, AreGoodMarks, IsGoodCell, AreGood, IsGoodState, good-new, good-after_all, good-left}
use Rattle.screen_text.specs.Lines.{open_after, closing, showing}
use Rattle.screen_text.specs.Shown.{given_all}
use Rattle.screen_text.proofs.CleanLemmas.{all-print, good-showing}
use Rattle.screen_safe.specs.Characters.{marks_of, cell_characters, row_characters, rows_characters}
use Rattle.screen_safe.specs.Shown.{shown_characters}

abbrev AreScalars : List ℕ → Type 0
AreScalars cs = AllByRecursion IsScalar cs

scalars-append : (xs ys : List ℕ) → AreScalars xs → AreScalars ys → AreScalars (xs ++ ys)
scalars-append [] ys are others = others
scalars-append (x ∷ xs) ys are others = (are.0, scalars-append xs ys are.1 others)

scalars-if : (t : Bool) (xs ys : List ℕ) → AreScalars xs → AreScalars ys → AreScalars (if t then xs else ys)
scalars-if true xs ys first second = first
scalars-if false xs ys first second = second

scalar-feed : AreScalars (0x0A ∷ [])
scalar-feed = (scalar_below 0x0A (lit< tt), tt)

scalars-marks : (marks : Marks) → AreGoodMarks marks → AreScalars (marks_of marks)
scalars-marks Unmarked are = tt
scalars-marks (One first) are = (IsScalar-character first are.0, tt)
scalars-marks (Two first second) are = (IsScalar-character first are.0.0, (IsScalar-character second are.1.0, tt))

scalars-cell : (cell : Cell) → IsGoodCell cell → AreScalars (cell_characters cell)
unfolding cell_characters
scalars-cell cell good =
    scalars-if (is_right cell.part) [] (cell.character ∷ marks_of cell.marks) tt (IsScalar-character cell.character good.0.0, scalars-marks cell.marks good.1)

scalars-cells : (cells : List Cell) → AreGood cells → AreScalars (flat_map cell_characters cells)
scalars-cells [] are = tt
scalars-cells (cell ∷ cells) are =
    scalars-append (cell_characters cell) (flat_map cell_characters cells) (scalars-cell cell are.0) (scalars-cells cells are.1)

scalars-row : (row : List Cell) → AreGood row → AreScalars (row_characters row)
scalars-row row are =
    let cells : List Cell = take (used is_unprinted row) row in
    scalars-append (flat_map cell_characters cells) (if goes_on row then [] else 0x0A ∷ [])
    (scalars-cells cells (AllByRecursion-take IsGoodCell (used is_unprinted row) row are))
    (scalars-if (goes_on row) [] (0x0A ∷ []) tt scalar-feed)

scalars-rows : (rows : List (List Cell)) → AllByRecursion AreGood rows → AreScalars (rows_characters rows)
scalars-rows [] are = tt
scalars-rows (row ∷ rows) are = scalars-append (row_characters row) (rows_characters rows) (scalars-row row are.0) (scalars-rows rows are.1)

pub scalars-shown : (columns rows : ℕ) (bytes : List ℕ) (calls : List Call) → AreCalls bytes calls
    → AllByRecursion IsScalar (shown_characters (new_state columns rows) calls)
scalars-shown columns rows bytes calls are =
    let s : State = new_state columns rows in
    let prints : AllByRecursion PrintsCharacter (given_all calls) = all-print calls (AreShowable-lawful false calls (lawful bytes calls are)) in
    let new : IsGoodState s = record { display = good-new columns rows; last = tt } in
    let left : List (List Cell) = all_left (given_all calls) s in
    let end : State = after_all (given_all calls) s in
    let rows_then : List (List Cell) = showing end.display in
    let good : IsGoodState end = good-after_all (given_all calls) s prints new in
    scalars-append (rows_characters left) (rows_characters rows_then ++ closing (open_after (open_after false left) rows_then))
    (scalars-rows left (good-left (given_all calls) s prints new))
    (scalars-append (rows_characters rows_then) (closing (open_after (open_after false left) rows_then))
    (scalars-rows rows_then (good-showing end.display good.display))
    (scalars-if (open_after (open_after false left) rows_then) (0x0A ∷ []) [] scalar-feed tt))
