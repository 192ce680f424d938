-- The whole drawing leads to the screen that is drawn.
use Rattle.std.proofs.Common.{◌≡◌, ℕ, ◌+◌, Bool, true, List, [], length, refl, ap, ap₂, sym, ◌∙◌, arith}
use Rattle.std.specs.Prelude.{map, Option, None}
use Rattle.ansi_screen.specs.declared.cell.Cell.{Cell}
use Rattle.ansi_screen.specs.declared.place.Place.{Place}
use Rattle.ansi_screen.specs.Display.{Display, home, fresh, stops, letters}
use Rattle.ansi_screen.specs.After.{State, after, after_all}
use Rattle.ansi_screen.specs.Leaving.{unkept}
use Rattle.ansi_screen.specs.Reachable.{IsScreen, HasContents}
use Rattle.ansi_screen.proofs.LawLemmas.{after-reset}
use Rattle.screen_draw.specs.Draw.{escape, plain_calls, covered_calls, screen_calls, stops_calls, cursor_calls, shown_screen_calls, drawn_calls}
use Rattle.screen_draw.specs.Redrawn.{as_drawn, drawn_cells, redrawn, drawn_state}
use Rattle.screen_draw.proofs.SelectedLemmas.{after-modes, last-calls, before_cursor}
use Rattle.screen_draw.proofs.CanvasLemmas.{on, as_new, after-plain}
use Rattle.screen_draw.proofs.BehindLemmas.{IsOpen, after-screen}
use Rattle.screen_draw.proofs.RestLemmas.{over, after-covered, stops_from, stops-are, after-stops, after-margins}
use Rattle.screen_draw.proofs.CursorLemmas.{full, after-cursor}
use Rattle.screen_draw.proofs.NotedLemmas.{since-stays}

first-column : (n width : ℕ) → n ≡ width → length {A = Bool} [] + n ≡ width
first-column n width is = omega arith

module _ (d : Display) (new : State) (screen : IsScreen d) (contents : HasContents d) (new-is : new.display ≡ as_new d) where
  opened : IsOpen (over d)
  opened = record { top = refl; bottom = refl; replaces = refl; unlinked = refl; wide = screen.sized.two_columns }

  -- before the cursor
  abbrev Before : State → Type 0
  Before s = (p : Place) × (s.display ≡ on (full d) (map as_drawn d.cells) p) × (p.charsets ≡ letters)

  before-is : Before (before_cursor d new)
  unfolding before_cursor
  before-is =
      let first : State = after_all (covered_calls d) new in
      let (cells, fill, there) = after-covered d new screen contents new-is in
      let second : State = after_all (screen_calls d.width d.saved d.cells) first in
      let (q, drawn) = after-screen (over d) opened cells fill d.saved screen.sized.saved_row screen.sized.saved_column contents.saved_colored
      d.cells there.0 first screen.whole contents.cells screen.sized.cells_fill there.1 in
      let base : Display = record (over d) { saved = d.saved } in
      let all : List Cell = map as_drawn d.cells in
      let third : State = after_all plain_calls second in
      let plainly : third.display ≡ on base all home = after-plain second ∙ ap (λ (e : Display). record e { cursor = home }) drawn in
      let same : stops d.width ≡ stops_from 0 (length d.tabs) = stops-are d.width ∙ ap (stops_from 0) (sym screen.sized.tabs_fill) in
      let tabs : third.display ≡ on (record base { tabs = stops_from 0 (length d.tabs) }) all (record home { column = 0 }) =
      plainly ∙ ap (λ l. on (record base { tabs = l }) all home) same in
      let none : ℕ = 0 in
      let (k, stopped) = after-stops base all d.tabs [] third (first-column (length d.tabs) d.width screen.sized.tabs_fill) (none, tabs) in
      after-margins (record base { tabs = d.tabs }) all k d (after_all (stops_calls 0 d.tabs) third) stopped contents.margins screen.sized.margins screen.sized.margins_within refl refl refl

  pub shown-is : (after_all (shown_screen_calls d) new).display ≡ redrawn d
  shown-is =
      let before : State = before_cursor d new in
      let (p, at, letter) = before-is in
      let placed : State = after_all (cursor_calls d) before in
      let there : placed.display ≡ on (full d) (drawn_cells d) d.cursor = after-cursor true true d screen contents p before at letter in
      ap (λ (s : State). s.display) (last-calls d new)
      ∙ (after-modes d placed ∙ ap (λ (e : Display). record e { wraps = d.wraps; inserts = d.inserts; is_visible = d.is_visible }) there)

  pub last-none : (after_all (shown_screen_calls d) new).last ≡ None
  last-none = ap (λ (s : State). s.last) (last-calls d new)

pub redrawn-is : (d : Display) (old : State) → IsScreen d → HasContents d → old.display.width ≡ d.width → old.display.height ≡ d.height
    → unkept (after_all (drawn_calls d) old) ≡ drawn_state old.shown d
redrawn-is d old screen contents width height =
    let first : State = after (escape 0x63) old in
    let new : first.display ≡ as_new d =
    ap (λ (s : State). s.display) (after-reset old) ∙ (ap (λ n. fresh n old.display.height) width ∙ ap (λ n. fresh d.width n) height) in
    ap₂ (λ (e : Display) (l : Option ℕ). record (unkept (after_all (drawn_calls d) old)) { display = e; last = l })
    (shown-is d first screen contents new) (last-none d first screen contents new)
    ∙ ap (λ p. drawn_state p d) (since-stays (drawn_calls d) old)
