-- Rows that are the same draw nothing, and leave the cursor where it stands: so they can be skipped.
use Rattle.std.proofs.Common.{◌≡◌, ℕ, zero, suc, ◌+◌, ◌-◌, ◌<◌, ◌≤◌, true, List, [], ◌++◌, refl, ap, sym, ◌∙◌, arith, append-nil}
use Rattle.ansi_screen.specs.declared.cell.Cell.{Cell}
use Rattle.ansi_screen.specs.declared.place.Place.{Place}
use Rattle.ansi_screen.specs.Display.{Display, row_cells}
use Rattle.screen_draw.specs.declared.changes.Brush.{Brush}
use Rattle.screen_draw.specs.Alike.{has_same_frame}
use Rattle.screen_draw.specs.Changed.{KeepsFrame}
use Rattle.screen_draw.specs.Update.{row_calls, brush_after, begun_at, place_behind, rows_calls}
use Rattle.screen_draw.proofs.UnchangedLemmas.{row-nothing, frame-refl}

-- a row that is the same
row-skipped : (row : ℕ) (place : Place) (olds news : List Cell) → news ≡ olds
    → (row_calls row 0 (begun_at place) olds news ≡ []) × ((brush_after row 0 (begun_at place) olds news).place ≡ place)
row-skipped row place olds news same =
    let none = row-nothing row 0 place olds in (
      ap (λ l. row_calls row 0 (begun_at place) olds l) same ∙ none.0,
      ap (λ l. (brush_after row 0 (begun_at place) olds l).place) same ∙ ap (λ (b : Brush). b.place) none.1,
    )

module _ (start : Place) (shown wanted : Display) where
  -- rows above
  pub rows-above : (n : ℕ) → ((row : ℕ) → row < n → row_cells row wanted ≡ row_cells row shown)
      → (rows_calls n start shown wanted ≡ []) × (place_behind n start shown wanted ≡ start)
  rows-above zero same = (refl, refl)
  rows-above (suc n) same =
      let before = rows-above n (λ row less. same row (omega arith)) in
      let last = row-skipped n (place_behind n start shown wanted) (row_cells n shown) (row_cells n wanted) (same n (omega arith)) in (
        ap (λ l. l ++ row_calls n 0 (begun_at (place_behind n start shown wanted)) (row_cells n shown) (row_cells n wanted)) before.0 ∙ last.0,
        last.1 ∙ before.1,
      )

  -- rows below
  pub rows-below : (past more : ℕ) → ((row : ℕ) → row < past + more → past ≤ row → row_cells row wanted ≡ row_cells row shown)
      → (rows_calls (past + more) start shown wanted ≡ rows_calls past start shown wanted)
      × (place_behind (past + more) start shown wanted ≡ place_behind past start shown wanted)
  rows-below past zero same = let none : past + zero ≡ past = omega arith in rw none (refl, refl)
  rows-below past (suc more) same =
      let next : past + suc more ≡ suc (past + more) = omega arith in
      let n : ℕ = past + more in
      let before = rows-below past more (λ row less from. same row (omega arith) from) in
      let last = row-skipped n (place_behind n start shown wanted) (row_cells n shown) (row_cells n wanted) (same n (omega arith) (omega arith)) in
      rw next (
        ap (λ l. rows_calls n start shown wanted ++ l) last.0 ∙ (append-nil (rows_calls n start shown wanted) ∙ before.0),
        last.1 ∙ before.1,
      )

  -- behind the last that is compared
  pub rows-past : (past : ℕ) → past ≤ wanted.height
      → ((row : ℕ) → row < wanted.height → past ≤ row → row_cells row wanted ≡ row_cells row shown)
      → (rows_calls wanted.height start shown wanted ≡ rows_calls past start shown wanted)
      × (place_behind wanted.height start shown wanted ≡ place_behind past start shown wanted)
  rows-past past inside keeps =
      let whole : past + (wanted.height - past) ≡ wanted.height = omega arith in
      let same = rows-below past (wanted.height - past) (λ row less from. keeps row (omega arith) from) in (
        ap (λ n. rows_calls n start shown wanted) (sym whole) ∙ same.0,
        ap (λ n. place_behind n start shown wanted) (sym whole) ∙ same.1,
      )

-- the same frame
pub frame-kept : (shown wanted : Display) → KeepsFrame shown wanted → has_same_frame shown wanted ≡ true
unfolding has_same_frame
frame-kept shown wanted frame = rw (frame.alternate, frame.hidden, frame.saved, frame.hidden_saved, frame.tabs) (frame-refl shown)
