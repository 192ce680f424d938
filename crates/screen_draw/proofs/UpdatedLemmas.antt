-- An update leads from one screen to the other.
use Rattle.std.proofs.Common.{◌≡◌, ℕ, ◌+◌, ◌-◌, ◌*◌, Bool, true, false, List, [], ◌++◌, set, refl, ap, sym, ◌∙◌, subst}
use Rattle.std.specs.Prelude.{◌&&◌, ◌==◌, map, if◌then◌else◌}
use Rattle.std.specs.Bool.{beq}
use Rattle.std.proofs.lemmas.Bool.{and_parts}
use Rattle.ansi_screen.specs.declared.cell.Cell.{Cell}
use Rattle.ansi_screen.specs.declared.cell.Part.{Part}
use Rattle.ansi_screen.specs.declared.cell.Part.TheVariants.{Empty, Whole, Left, Right}
use Rattle.ansi_screen.specs.declared.place.Place.{Place}
use Rattle.ansi_screen.specs.Cells.{cell_at}
use Rattle.ansi_screen.specs.Display.{Display, row_end}
use Rattle.anstyle_parse.specs.Stream.Call.{Call}
use Rattle.anstyle_parse.specs.Stream.Canon.{canon}
use Rattle.anstyle_parse.proofs.Canonical.Replay.{replay}
use Rattle.std.specs.List.{AllByRecursion}
use Rattle.ansi_screen.specs.After.{State, after_all, Shows}
use Rattle.ansi_screen.specs.Reachable.{IsScreen, HasContents}
use Rattle.ansi_screen.proofs.LawLemmas.{after_all-append, Shows-only}
use Rattle.screen_draw.specs.Draw.{is_erased, shown_screen_calls}
use Rattle.screen_draw.specs.Redrawn.{printed_part, as_printed, as_drawn, drawn_cells, redrawn, ShowsFrom}
use Rattle.screen_draw.specs.Alike.{are_alike, all_two, are_same_places, has_same_frame, has_same_margins, has_same_modes, looks_same, is_steady}
use Rattle.screen_draw.specs.Update.{changes_calls, cleared_calls, update_calls}
use Rattle.screen_draw.specs.Drawing.{IsDrawing}
use Rattle.screen_draw.proofs.DrawLemmas.{drawing-lawful}
use Rattle.screen_draw.proofs.AlikeLemmas.{flag-same, all-drawn, places-same}
use Rattle.screen_draw.proofs.FrameLemmas.{Frame, same-frame, same-margins, same-hidden, drawn-at}
use Rattle.screen_draw.proofs.ChangesLemmas.{sized}
use Rattle.screen_draw.proofs.MarginLemmas.{changes-drawn}
use Rattle.screen_draw.proofs.ClearedLemmas.{cleared-is}
use Rattle.screen_draw.proofs.RedrawnLemmas.{shown-is}
use Rattle.screen_draw.proofs.NotedLemmas.{since-stays}

-- what is drawn is printed as what was
twice-part : (part : Part) → printed_part (printed_part part) ≡ printed_part part
twice-part Empty = refl
twice-part Whole = refl
twice-part Left = refl
twice-part Right = refl

printed_at : (x : Cell) (t : Bool) → is_erased x ≡ t → as_printed (as_drawn x) ≡ as_printed x
unfolding as_drawn
printed_at x true is = rw is refl
printed_at x false is = rw is (ap (λ p. record (as_printed x) { part = p }) (twice-part x.part))

-- the cells that are drawn, by what is drawn of each
abbrev drawn_by : ℕ → Place → List Cell → List Cell
drawn_by width cursor cells =
    let n = cursor.row * width + width - 1 in
    if cursor.column == width then set cells n (as_printed (cell_at n cells)) else cells

by-drawn : (d : Display) → drawn_cells d ≡ drawn_by d.width d.cursor (map as_drawn d.cells)
by-drawn d =
    let n : ℕ = row_end d - 1 in
    let all : List Cell = map as_drawn d.cells in
    ap (λ x. if d.cursor.column == d.width then set all n x else all)
    (sym (printed_at (cell_at n d.cells) _ refl) ∙ ap as_printed (sym (drawn-at n d.cells)))

module _ (other b : Display) (old : State) where
  abbrev a : Display
  a = sized other b

  -- all of it the same
  same-shown : IsScreen a → HasContents a → IsScreen b → HasContents b → looks_same a b ≡ true → redrawn a ≡ redrawn b
  unfolding looks_same
  same-shown from has to gets is =
      let h0 = and_parts (has_same_frame a b) (has_same_margins a b && (has_same_modes a b && (are_same_places a.cursor b.cursor && all_two are_alike a.cells b.cells))) is in
      let hm = and_parts (has_same_margins a b) (has_same_modes a b && (are_same_places a.cursor b.cursor && all_two are_alike a.cells b.cells)) h0.1 in
      let margins = same-margins a b hm.0 in
      let h1 = and_parts (has_same_modes a b) (are_same_places a.cursor b.cursor && all_two are_alike a.cells b.cells) hm.1 in
      let h2 = and_parts (are_same_places a.cursor b.cursor) (all_two are_alike a.cells b.cells) h1.1 in
      let m0 = and_parts (beq a.wraps b.wraps) (beq a.inserts b.inserts && beq a.is_visible b.is_visible) h1.0 in
      let m1 = and_parts (beq a.inserts b.inserts) (beq a.is_visible b.is_visible) m0.1 in
      let frame : Frame a b = same-frame a b h0.0 in
      let cursor : a.cursor ≡ b.cursor = places-same a.cursor b.cursor h2.0 in
      let cells : drawn_cells a ≡ drawn_cells b =
      by-drawn a
      ∙ (ap (λ c. drawn_by b.width c (map as_drawn a.cells)) cursor
      ∙ (ap (drawn_by b.width b.cursor) (all-drawn a.cells b.cells h2.1) ∙ sym (by-drawn b))) in
      let hidden : map as_drawn a.hidden ≡ map as_drawn b.hidden =
      same-hidden a b frame (from.sized.hidden_fill ∙ sym to.sized.hidden_fill) has gets in
      ap (λ l. record (redrawn a) { cells = l }) cells
      ∙ (ap (λ c. record (redrawn a) { cells = drawn_cells b; cursor = c }) cursor
      ∙ (ap (λ l. record (redrawn a) { cells = drawn_cells b; cursor = b.cursor; hidden = l }) hidden
      ∙ (ap (λ t. record (redrawn a) { cells = drawn_cells b; cursor = b.cursor; hidden = map as_drawn b.hidden; is_alternate = t }) frame.alternate
      ∙ (ap (λ p. record (redrawn a) { cells = drawn_cells b; cursor = b.cursor; hidden = map as_drawn b.hidden; is_alternate = b.is_alternate; saved = p }) frame.saved
      ∙ (ap (λ p. record (redrawn a) { cells = drawn_cells b; cursor = b.cursor; hidden = map as_drawn b.hidden; is_alternate = b.is_alternate; saved = b.saved; hidden_saved = p }) frame.hidden_saved
      ∙ (ap (λ n. record (redrawn b) { top = n; bottom = a.bottom; tabs = a.tabs; wraps = a.wraps; inserts = a.inserts; is_visible = a.is_visible }) margins.0
      ∙ (ap (λ n. record (redrawn b) { bottom = n; tabs = a.tabs; wraps = a.wraps; inserts = a.inserts; is_visible = a.is_visible }) margins.1
      ∙ (ap (λ l. record (redrawn b) { tabs = l; wraps = a.wraps; inserts = a.inserts; is_visible = a.is_visible }) frame.tabs
      ∙ (ap (λ t. record (redrawn b) { wraps = t; inserts = a.inserts; is_visible = a.is_visible }) (flag-same a.wraps b.wraps m0.0)
      ∙ (ap (λ t. record (redrawn b) { inserts = t; is_visible = a.is_visible }) (flag-same a.inserts b.inserts m1.0)
      ∙ ap (λ t. record (redrawn b) { is_visible = t }) (flag-same a.is_visible b.is_visible m1.1)))))))))))

  updated_at : (t u : Bool) → is_steady a b ≡ t → looks_same a b ≡ u → IsScreen a → HasContents a → IsScreen b → HasContents b → old.display ≡ redrawn a
      → (after_all (if t then changes_calls a b else if u then [] else cleared_calls a ++ shown_screen_calls b) old).display ≡ redrawn b
  updated_at true u steady same from has to gets at = changes-drawn other b from has to gets steady old at
  updated_at false true steady same from has to gets at = at ∙ same-shown from has to gets same
  updated_at false false steady same from has to gets at =
      let clear : State = after_all (cleared_calls a) old in
      ap (λ (e : State). e.display) (after_all-append (cleared_calls a) (shown_screen_calls b) old) ∙ shown-is b clear to gets (cleared-is a old from has at)

pub updated-is : (a b : Display) (old : State) → IsScreen a → HasContents a → IsScreen b → HasContents b
    → a.width ≡ b.width → a.height ≡ b.height → old.display ≡ redrawn a
    → (after_all (update_calls a b) old).display ≡ redrawn b
updated-is a b old from has to gets width height at =
    let same : a ≡ sized a b = ap (λ w. record a { width = w }) width ∙ ap (λ h. record a { width = b.width; height = h }) height in
    subst (λ (x : Display). IsScreen x → HasContents x → old.display ≡ redrawn x
    → (after_all (update_calls x b) old).display ≡ redrawn b) (sym same)
    (λ screen holds begun. updated_at a b old _ _ refl refl screen holds to gets begun)
    from has at

-- the same of its text
pub updated-shows : (a b : Display) (old new : State) → AllByRecursion IsDrawing (update_calls a b)
    → a.width ≡ b.width → a.height ≡ b.height → IsScreen a → HasContents a → IsScreen b → HasContents b
    → old.display ≡ redrawn a → Shows old (canon (update_calls a b)) new → ShowsFrom old new b
updated-shows a b old new drawing width height from has to gets at shows =
    let calls : List Call = update_calls a b in
    let same : new ≡ after_all calls old =
    Shows-only (canon calls) old new (after_all calls old) shows (calls, replay calls (drawing-lawful calls drawing), refl) in
    record {
      display = ap (λ (s : State). s.display) same ∙ updated-is a b old from has to gets width height at;
      since = ap (λ (s : State). s.shown) same ∙ since-stays calls old;
    }
