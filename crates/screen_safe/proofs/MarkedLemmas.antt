-- The characters that a screen showed with marks where hidden text begins and ends.
use Rattle.std.proofs.Common.{◌≡◌, ℕ, Bool, false, List, [], ◌∷◌, ◌++◌, take, refl, sym, ap, ap₂, ◌∙◌}
use Rattle.std.specs.Prelude.{if◌then◌else◌}
use Rattle.std.specs.List.{AllByRecursion, flat_map}
use Rattle.anstyle_parse.specs.Stream.Call.{Call}
use Rattle.anstyle_parse.specs.Stream.Calls.{AreCalls}
use Rattle.ansi_screen.specs.declared.cell.Cell.{Cell}
use Rattle.ansi_screen.specs.After.{State, new_state, after_all}
use Rattle.ansi_screen.specs.Leaving.{all_left}
use Rattle.ansi_screen.specs.Text.{used, is_unprinted, goes_on}
use Rattle.safe_text.specs.Unseen.{is_unseen}
use Rattle.safe_text.specs.Marks.{mark_between, without_marks}
use Rattle.safe_text.proofs.MarkedLemmas.{between-items, without-append, without-between, without-scalars}
use Rattle.safe_text.proofs.WholeLemmas.{IsItem, all-append, all-items}
use Rattle.screen_text.specs.Lines.{open_after, closing, showing}
use Rattle.screen_text.specs.Shown.{given_all}
use Rattle.screen_safe.specs.Characters.{cell_characters, row_characters, rows_characters, cells_marked, row_marked, rows_marked}
use Rattle.screen_safe.specs.Shown.{shown_characters, left_characters, ending_characters, shown_marked, left_marked, ending_marked}
use Rattle.screen_safe.proofs.ScalarLemmas.{scalars-shown}

-- What stands between two marks, and a mark, hold what each of them holds.
module _ (P : ℕ → Type 0) (between : (on next : Bool) → AllByRecursion P (mark_between on next)) where
  front : (xs ys : List ℕ) → AllByRecursion P (xs ++ ys) → AllByRecursion P xs
  front [] ys are = tt
  front (x ∷ xs) ys are = (are.0, front xs ys are.1)

  back : (xs ys : List ℕ) → AllByRecursion P (xs ++ ys) → AllByRecursion P ys
  back [] ys are = are
  back (x ∷ xs) ys are = back xs ys are.1

  cells-all : (on : Bool) (cells : List Cell) → AllByRecursion P (flat_map cell_characters cells) → AllByRecursion P (cells_marked on cells)
  cells-all on [] are = between on false
  cells-all on (cell ∷ cells) are =
      let own : List ℕ = cell_characters cell in
      let others : List ℕ = flat_map cell_characters cells in
      all-append P (mark_between on (is_unseen cell.style)) (own ++ cells_marked (is_unseen cell.style) cells) (between on (is_unseen cell.style))
      (all-append P own (cells_marked (is_unseen cell.style) cells) (front own others are) (cells-all (is_unseen cell.style) cells (back own others are)))

  row-all : (row : List Cell) → AllByRecursion P (row_characters row) → AllByRecursion P (row_marked row)
  row-all row are =
      let cells : List Cell = take (used is_unprinted row) row in
      let end : List ℕ = if goes_on row then [] else 0x0A ∷ [] in
      all-append P (cells_marked false cells) end
      (cells-all false cells (front (flat_map cell_characters cells) end are)) (back (flat_map cell_characters cells) end are)

  rows-all : (rows : List (List Cell)) → AllByRecursion P (rows_characters rows) → AllByRecursion P (rows_marked rows)
  rows-all [] are = tt
  rows-all (row ∷ rows) are =
      all-append P (row_marked row) (rows_marked rows)
      (row-all row (front (row_characters row) (rows_characters rows) are)) (rows-all rows (back (row_characters row) (rows_characters rows) are))

  shown-all : (s : State) (calls : List Call) → AllByRecursion P (shown_characters s calls) → AllByRecursion P (shown_marked s calls)
  shown-all s calls are =
      let left = all_left (given_all calls) s in
      let shows = showing (after_all (given_all calls) s).display in
      let end = closing (open_after (open_after false left) shows) in
      let ending = back (left_characters s calls) (ending_characters s calls) are in
      all-append P (left_marked s calls) (ending_marked s calls) (rows-all left (front (left_characters s calls) (ending_characters s calls) are))
      (all-append P (rows_marked shows) end (rows-all shows (front (rows_characters shows) end ending)) (back (rows_characters shows) end ending))

pub items-shown : (columns rows : ℕ) (bytes : List ℕ) (calls : List Call) → AreCalls bytes calls
    → AllByRecursion IsItem (shown_marked (new_state columns rows) calls)
items-shown columns rows bytes calls are =
    let s : State = new_state columns rows in
    shown-all IsItem between-items s calls (all-items (shown_characters s calls) (scalars-shown columns rows bytes calls are))

-- Without the marks they are the characters.
cells-without : (on : Bool) (cells : List Cell) → without_marks (cells_marked on cells) ≡ without_marks (flat_map cell_characters cells)
cells-without on [] = without-between on false
cells-without on (cell ∷ cells) =
    let own : List ℕ = cell_characters cell in
    let hidden : Bool = is_unseen cell.style in
    without-append (mark_between on hidden) (own ++ cells_marked hidden cells)
    ∙ ap (λ l. l ++ without_marks (own ++ cells_marked hidden cells)) (without-between on hidden)
    ∙ without-append own (cells_marked hidden cells)
    ∙ ap (λ l. without_marks own ++ l) (cells-without hidden cells)
    ∙ sym (without-append own (flat_map cell_characters cells))

row-without : (row : List Cell) → without_marks (row_marked row) ≡ without_marks (row_characters row)
row-without row =
    let cells : List Cell = take (used is_unprinted row) row in
    let end : List ℕ = if goes_on row then [] else 0x0A ∷ [] in
    without-append (cells_marked false cells) end
    ∙ ap (λ l. l ++ without_marks end) (cells-without false cells)
    ∙ sym (without-append (flat_map cell_characters cells) end)

rows-without : (rows : List (List Cell)) → without_marks (rows_marked rows) ≡ without_marks (rows_characters rows)
rows-without [] = refl
rows-without (row ∷ rows) =
    without-append (row_marked row) (rows_marked rows)
    ∙ ap₂ (λ x y. x ++ y) (row-without row) (rows-without rows)
    ∙ sym (without-append (row_characters row) (rows_characters rows))

both-without : (xs ys zs us : List ℕ) → without_marks xs ≡ without_marks zs → without_marks ys ≡ without_marks us → without_marks (xs ++ ys) ≡ without_marks (zs ++ us)
both-without xs ys zs us first second = without-append xs ys ∙ ap₂ (λ x y. x ++ y) first second ∙ sym (without-append zs us)

pub without-shown : (columns rows : ℕ) (bytes : List ℕ) (calls : List Call) → AreCalls bytes calls
    → without_marks (shown_marked (new_state columns rows) calls) ≡ shown_characters (new_state columns rows) calls
without-shown columns rows bytes calls are =
    let s : State = new_state columns rows in
    let left = all_left (given_all calls) s in
    let shows = showing (after_all (given_all calls) s).display in
    let end = closing (open_after (open_after false left) shows) in
    both-without (left_marked s calls) (ending_marked s calls) (left_characters s calls) (ending_characters s calls) (rows-without left)
    (both-without (rows_marked shows) end (rows_characters shows) end (rows-without shows) refl)
    ∙ without-scalars (shown_characters s calls) (scalars-shown columns rows bytes calls are)
