-- What an update draws, one after another.
use Rattle.std.proofs.Common.{◌≡◌, ℕ, suc, ◌+◌, ◌<◌, ◌≤◌, Bool, true, false, List, [], ◌∷◌, ◌++◌, length, take, drop, get_or, refl, ap, sym, ◌∙◌, subst, arith, append_assoc, append-nil}
use Rattle.std.specs.Prelude.{◌&&◌, if◌then◌else◌}
use Rattle.std.proofs.lemmas.List.{take_more, length-take-le, drop_more}
use Rattle.anstyle_parse.specs.Stream.Call.{Call}
use Rattle.anstyle_parse.specs.declared.io.devices.Sink.{Ghosts as SinkOf}
use Rattle.anstyle_parse.specs.declared.io.output.Output.{Output}
use Rattle.ansi_style.specs.declared.style.Style.{Style}
use Rattle.ansi_style.specs.Style.{plain, are_equal}
use Rattle.ansi_screen.specs.Cells.{blank, cell_at}
use Rattle.ansi_screen.specs.declared.cell.Cell.{Cell}
use Rattle.screen_draw.specs.declared.changes.Brush.{Brush}
use Rattle.screen_draw.specs.Draw.{is_erased, last_column, is_last_wide}
use Rattle.screen_draw.specs.Drawing.{Draws}
use Rattle.screen_draw.specs.Update.{erased_run, change_calls, brush_behind, row_calls, brush_after, begun_at, place_behind, rows_calls, mode_changes, reset_stop_calls, reset_stops_calls}
use Rattle.ansi_screen.specs.declared.place.Place.{Place}
use Rattle.ansi_screen.specs.Display.{Display, row_cells}
use Rattle.anstyle_parse.proofs.Written.Output.{Adds-nil}
use Rattle.screen_draw.proofs.DrawLemmas.{draws-append}
use Rattle.screen_draw.proofs.UnchangedLemmas.{row-behind}

-- stops
reset-push : (column : ℕ) (stops : List Bool) (last : Bool) → reset_stops_calls column (stops ++ last ∷ []) ≡ reset_stops_calls column stops ++ reset_stop_calls (column + length stops) last
reset-push column [] last =
    let here : column ≡ column + length {A = Bool} [] = omega arith in
    append-nil (reset_stop_calls column last) ∙ ap (λ c. reset_stop_calls c last) here
reset-push column (first ∷ stops) last =
    let next : suc column + length stops ≡ column + length (first ∷ stops) = omega arith in
    ap (λ l. reset_stop_calls column first ++ l) (reset-push (suc column) stops last)
    ∙ (sym (append_assoc (reset_stop_calls column first) (reset_stops_calls (suc column) stops) _)
    ∙ ap (λ c. (reset_stop_calls column first ++ reset_stops_calls (suc column) stops) ++ reset_stop_calls c last) next)

module _ {W : Type 0} (sink : SinkOf W) where
  pub draws-none : (b : Output W) → Draws sink [] b b
  draws-none b = record { added = Adds-nil sink b; drawing = tt }

  pub draws-reset_stop : (stops : List Bool) (i : ℕ) (d : Bool) (a b c : Output W) → i < length stops
      → Draws sink (reset_stops_calls 0 (take i stops)) a b → Draws sink (reset_stop_calls i (get_or stops i d)) b c
      → Draws sink (reset_stops_calls 0 (take (i + 1) stops)) a c
  draws-reset_stop stops i d a b c inside first second =
      let front : length (take i stops) ≡ i = length-take-le i stops (omega arith) in
      let here : i ≡ 0 + length (take i stops) = omega arith in
      subst (λ l. Draws sink l a c)
      (ap (λ p. reset_stops_calls 0 (take i stops) ++ reset_stop_calls p (get_or stops i d)) here
      ∙ (sym (reset-push 0 (take i stops) (get_or stops i d)) ∙ ap (reset_stops_calls 0) (sym (take_more stops i d inside))))
      (draws-append sink (reset_stops_calls 0 (take i stops)) (reset_stop_calls i (get_or stops i d)) a b c first second)

-- the run of erased cells
of-run : (style : Style) (cell : Cell) (cells : List Cell) (t u : Bool) → is_erased cell ≡ t → are_equal cell.style style ≡ u
    → erased_run style (cell ∷ cells) ≡ (if t && u then suc (erased_run style cells) else 0)
of-run style cell cells t u erased same = rw (erased, same) refl

pub run-more : (style : Style) (cells : List Cell) (i : ℕ) (d : Cell) → i < length cells → is_erased (get_or cells i d) ≡ true → are_equal (get_or cells i d).style style ≡ true
    → erased_run style cells ≡ i + erased_run style (drop i cells) → erased_run style cells ≡ (i + 1) + erased_run style (drop (i + 1) cells)
run-more style cells i d inside erased same before =
    let one : erased_run style (drop i cells) ≡ suc (erased_run style (drop (i + 1) cells)) =
    ap (erased_run style) (drop_more cells i d inside) ∙ of-run style (get_or cells i d) (drop (i + 1) cells) true true erased same in
    omega arith

pub run-ends : (style : Style) (cells : List Cell) (i : ℕ) (d : Cell) (t u : Bool) → i < length cells → is_erased (get_or cells i d) ≡ t → are_equal (get_or cells i d).style style ≡ u
    → (t && u) ≡ false → erased_run style cells ≡ i + erased_run style (drop i cells) → i ≡ erased_run style cells
run-ends style cells i d t u inside erased same none before =
    let one : erased_run style (drop i cells) ≡ 0 =
    ap (erased_run style) (drop_more cells i d inside) ∙ (of-run style (get_or cells i d) (drop (i + 1) cells) t u erased same ∙ rw none refl) in
    omega arith

-- the last character stands in the row
last-within : (d : Display) (t : Bool) → is_last_wide d ≡ t → last_column d ≤ d.width
last-within d true is = rw is (omega arith)
last-within d false is = rw is (omega arith)

pub last_column-within : (d : Display) → last_column d ≤ d.width
last_column-within d = last-within d _ refl

-- A row, as far as it is drawn: whatever draws the rest draws all of it.
module _ {W : Type 0} (sink : SinkOf W) (row : ℕ) (first : Brush) (olds news : List Cell) where
  pub record RowDraws (column : ℕ) (brush : Brush) (a b : Output W) : Type 0 where
    pub calls : (c : Output W) → Draws sink (row_calls row column brush (drop column olds) (drop column news)) b c → Draws sink (row_calls row 0 first olds news) a c
    pub brush_is : brush_after row column brush (drop column olds) (drop column news) ≡ brush_after row 0 first olds news

  pub row-begun : (a : Output W) → RowDraws 0 first a a
  row-begun a = record { calls = λ c drawn. drawn; brush_is = refl }

  -- where the cells in front draw nothing
  pub row-from : (column : ℕ) (a : Output W)
      → row_calls row 0 first olds news ≡ row_calls row column first (drop column olds) (drop column news)
      → brush_after row 0 first olds news ≡ brush_after row column first (drop column olds) (drop column news) → RowDraws column first a a
  row-from column a calls brush = record { calls = λ c drawn. subst (λ l. Draws sink l a c) (sym calls) drawn; brush_is = sym brush }

  pub row-more : (column : ℕ) (brush : Brush) (old new : Cell) (cells : List Cell) (next : Brush) (a b b2 : Output W)
      → column < length olds → column < length news → old ≡ cell_at column olds → new ≡ cell_at column news → cells ≡ drop (column + 1) news
      → next ≡ brush_behind row column brush old new cells
      → RowDraws column brush a b → Draws sink (change_calls row column brush old new (drop (column + 1) olds) cells) b b2
      → RowDraws (column + 1) next a b2
  row-more column brush old new cells next a b b2 inside within old_is new_is rest follows so_far drawn =
      let step : suc column ≡ column + 1 = omega arith in
      let fewer : List Cell = drop (column + 1) olds in
      let change : List Call = change_calls row column brush old new fewer cells in
      let front : drop column olds ≡ old ∷ fewer = drop_more olds column (blank plain) inside ∙ ap (λ x. x ∷ fewer) (sym old_is) in
      let back : drop column news ≡ new ∷ cells =
      drop_more news column (blank plain) within ∙ (ap (λ x. x ∷ drop (column + 1) news) (sym new_is) ∙ ap (λ l. new ∷ l) (sym rest)) in
      let all : row_calls row column brush (drop column olds) (drop column news) ≡ change ++ row_calls row (column + 1) next fewer (drop (column + 1) news) =
      ap (λ l. row_calls row column brush l (drop column news)) front
      ∙ (ap (λ l. row_calls row column brush (old ∷ fewer) l) back
      ∙ (ap (λ k. change ++ row_calls row k (brush_behind row column brush old new cells) fewer cells) step
      ∙ (ap (λ b. change ++ row_calls row (column + 1) b fewer cells) (sym follows) ∙ ap (λ l. change ++ row_calls row (column + 1) next fewer l) rest))) in
      let same : brush_after row column brush (drop column olds) (drop column news) ≡ brush_after row (column + 1) next fewer (drop (column + 1) news) =
      ap (λ l. brush_after row column brush l (drop column news)) front
      ∙ (ap (λ l. brush_after row column brush (old ∷ fewer) l) back
      ∙ (ap (λ k. brush_after row k (brush_behind row column brush old new cells) fewer cells) step
      ∙ (ap (λ b. brush_after row (column + 1) b fewer cells) (sym follows) ∙ ap (λ l. brush_after row (column + 1) next fewer l) rest))) in
      record {
        calls = λ c behind. so_far.calls c (subst (λ l. Draws sink l b c) (sym all)
            (draws-append sink change (row_calls row (column + 1) next fewer (drop (column + 1) news)) b b2 c drawn behind));
        brush_is = sym same ∙ so_far.brush_is;
      }

  -- where the cells behind are the same
  pub row-closed : (column : ℕ) (brush : Brush) (a b : Output W) → drop column news ≡ drop column olds → RowDraws column brush a b
      → Draws sink (row_calls row 0 first olds news) a b × (brush.place ≡ (brush_after row 0 first olds news).place)
  row-closed column brush a b same so_far =
      let none = row-behind row column brush (drop column olds) in
      let calls : row_calls row column brush (drop column olds) (drop column news) ≡ [] =
      ap (λ l. row_calls row column brush (drop column olds) l) same ∙ none.0 in
      let place : (brush_after row column brush (drop column olds) (drop column news)).place ≡ brush.place =
      ap (λ l. (brush_after row column brush (drop column olds) l).place) same ∙ none.1 in (
        so_far.calls b (subst (λ l. Draws sink l b b) (sym calls) (draws-none sink b)),
        sym place ∙ ap (λ (k : Brush). k.place) so_far.brush_is,
      )

-- rows
module _ {W : Type 0} (sink : SinkOf W) (start : Place) (shown wanted : Display) where
  pub rows-more : (row : ℕ) (place next : Place) (olds news : List Cell) (a b c : Output W) → olds ≡ row_cells row shown → news ≡ row_cells row wanted
      → place ≡ place_behind row start shown wanted → Draws sink (rows_calls row start shown wanted) a b
      → Draws sink (row_calls row 0 (begun_at place) olds news) b c → next ≡ (brush_after row 0 (begun_at place) olds news).place
      → Draws sink (rows_calls (row + 1) start shown wanted) a c × (next ≡ place_behind (row + 1) start shown wanted)
  rows-more row place next olds news a b c first second is before drawn follows =
      let step : suc row ≡ row + 1 = omega arith in
      let calls : row_calls row 0 (begun_at place) olds news ≡ row_calls row 0 (begun_at (place_behind row start shown wanted)) (row_cells row shown) (row_cells row wanted) =
      ap (λ p. row_calls row 0 (begun_at p) olds news) is
      ∙ (ap (λ l. row_calls row 0 (begun_at (place_behind row start shown wanted)) l news) first ∙ ap (λ l. row_calls row 0 (begun_at (place_behind row start shown wanted)) (row_cells row shown) l) second) in
      let places : (brush_after row 0 (begun_at place) olds news).place ≡ place_behind (suc row) start shown wanted =
      ap (λ p. (brush_after row 0 (begun_at p) olds news).place) is
      ∙ (ap (λ l. (brush_after row 0 (begun_at (place_behind row start shown wanted)) l news).place) first
      ∙ ap (λ l. (brush_after row 0 (begun_at (place_behind row start shown wanted)) (row_cells row shown) l).place) second) in (
        subst (λ k. Draws sink (rows_calls k start shown wanted) a c) step
            (draws-append sink (rows_calls row start shown wanted) (row_calls row 0 (begun_at (place_behind row start shown wanted)) (row_cells row shown) (row_cells row wanted)) a b c before
            (subst (λ l. Draws sink l b c) calls drawn)),
        follows ∙ (places ∙ ap (λ k. place_behind k start shown wanted) step),
      )

-- the same of equal flags
pub draws-mode : {W : Type 0} (sink : SinkOf W) (mode : ℕ) (old new first second : Bool) (a b : Output W) → old ≡ first → new ≡ second
    → Draws sink (mode_changes mode old new) a b → Draws sink (mode_changes mode first second) a b
draws-mode sink mode old new first second a b before after drawn =
    subst (λ t. Draws sink (mode_changes mode t second) a b) before (subst (λ t. Draws sink (mode_changes mode old t) a b) after drawn)
