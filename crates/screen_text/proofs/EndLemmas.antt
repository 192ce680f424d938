-- What a screen showed ends with a line feed.
use Rattle.std.proofs.Common.{◌≡◌, ℕ, Bool, true, false, List, [], ◌∷◌, ◌++◌, refl, take, refl, ap, sym, ◌∙◌, subst, inl, inr}
use Rattle.std.specs.Prelude.{◌⊎◌}
use Rattle.std.specs.List.{flat_map}
use Rattle.std.proofs.lemmas.List.{append_assoc, append-nil}
use Rattle.std.proofs.lemmas.Grind.{flat_map-append}
use Rattle.anstyle_parse.specs.Stream.Call.{Call}
use Rattle.ansi_screen.specs.declared.cell.Cell.{Cell}
use Rattle.ansi_screen.specs.After.{State, after_all}
use Rattle.ansi_screen.specs.Text.{cell_text, used, is_unprinted, goes_on}
use Rattle.ansi_screen.specs.Leaving.{all_left}
use Rattle.screen_text.specs.Lines.{row_text, rows_text, open_after, closing, showing}
use Rattle.screen_text.specs.Shown.{given_all, shown_text}
use Rattle.screen_text.specs.Laws.{IsEnded}

pub open_after-append : (on : Bool) (rows more : List (List Cell)) → open_after on (rows ++ more) ≡ open_after (open_after on rows) more
open_after-append on [] more = refl
open_after-append on (row ∷ rows) more = open_after-append (goes_on row) rows more

-- The text of rows, and the end of the line that is open behind them.
abbrev pub closed_text : Bool → List (List Cell) → List ℕ
closed_text on rows = rows_text rows ++ closing (open_after on rows)

pub shown-closed : (calls : List Call) (s : State)
    → shown_text s calls ≡ closed_text false (all_left (given_all calls) s ++ showing (after_all (given_all calls) s).display)
shown-closed calls s =
    let left : List (List Cell) = all_left (given_all calls) s in
    let rows : List (List Cell) = showing (after_all (given_all calls) s).display in
    sym (append_assoc (rows_text left) (rows_text rows) (closing (open_after (open_after false left) rows)))
    ∙ (ap (λ l. l ++ closing (open_after (open_after false left) rows)) (sym (flat_map-append row_text left rows))
    ∙ ap (λ t. rows_text (left ++ rows) ++ closing t) (sym (open_after-append false left rows)))

-- the same, of one row more
pub closed-row : (on : Bool) (row : List Cell) (rows : List (List Cell))
    → closed_text on (row ∷ rows) ≡ row_text row ++ closed_text (goes_on row) rows
closed-row on row rows = append_assoc (row_text row) (rows_text rows) (closing (open_after (goes_on row) rows))

row-feed : (row : List Cell) → goes_on row ≡ false → row_text row ≡ flat_map cell_text (take (used is_unprinted row) row) ++ 0x0A ∷ []
row-feed row off = rw off refl

-- A row that does not go on ends with a line feed, and a line that is open is ended with one.
closed-ended : (on : Bool) (rows : List (List Cell))
    → ((front : List ℕ) × (closed_text on rows ≡ front ++ 0x0A ∷ [])) ⊎ ((on ≡ false) × (closed_text on rows ≡ []))
closed-ended true [] = inl ([], refl)
closed-ended false [] = inr (refl, refl)
closed-ended on (row ∷ rows) = elim (closed-ended (goes_on row) rows) [
  | inl (front, is) ↦
      inl (row_text row ++ front, closed-row on row rows ∙ (ap (λ l. row_text row ++ l) is ∙ sym (append_assoc (row_text row) front (0x0A ∷ []))))
  | inr (off, none) ↦
      inl (
        flat_map cell_text (take (used is_unprinted row) row),
        closed-row on row rows ∙ (ap (λ l. row_text row ++ l) none ∙ (append-nil (row_text row) ∙ row-feed row off)),
      )
]

closed-is : (rows : List (List Cell)) → IsEnded (closed_text false rows)
closed-is rows = elim (closed-ended false rows) [
  | inl some ↦ inr some
  | inr (off, none) ↦ inl none
]

pub shown-ended : (calls : List Call) (s : State) → IsEnded (shown_text s calls)
shown-ended calls s =
    subst (λ l. IsEnded l) (sym (shown-closed calls s)) (closed-is (all_left (given_all calls) s ++ showing (after_all (given_all calls) s).display))
