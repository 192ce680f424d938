-- The rows and columns that are compared; those beside them are the same.
use Rattle.std.proofs.Common.{◌≡◌, ℕ, ◌+◌, ◌-◌, ◌*◌, ◌≤◌, List, length, take, drop, refl, ap, sym, ◌∙◌, arith}
use Rattle.std.proofs.lemmas.List.{take-take, drop-drop, drop_all, length-take}
use Rattle.ansi_screen.specs.declared.cell.Cell.{Cell}
use Rattle.ansi_screen.specs.Damage.{KeepsColumns}
use Rattle.ansi_screen.specs.Display.{Display, Frame, Picture, picture, row_cells}
use Rattle.ansi_screen.specs.State.{State, shown_cells}
use Rattle.ansi_screen.specs.Following.{IsShownOf}
use Rattle.screen_draw.specs.Changed.{KeepsFrame}

-- fewer cells are kept too
pub columns-wider : (l r left right : ℕ) (olds news : List Cell) → left ≤ l → r ≤ right → KeepsColumns l r olds news
    → KeepsColumns left right olds news
columns-wider l r left right olds news from to keeps =
    let split : r + (right - r) ≡ right = omega arith in
    record {
      front = sym (take-take left l news from) ∙ (ap (take left) keeps.front ∙ take-take left l olds from);
      back = ap (λ k. drop k news) (sym split) ∙ (sym (drop-drop (right - r) r news)
          ∙ (ap (drop (right - r)) keeps.back ∙ (drop-drop (right - r) r olds ∙ ap (λ k. drop k olds) split)));
    }

-- of all columns none is kept
row-short : (row : ℕ) (d : Display) → length (row_cells row d) ≤ d.width
row-short row d = omega (arith, length-take d.width (drop (row * d.width) d.cells))

pub columns-whole : (row : ℕ) (a b : Display) → a.width ≡ b.width → KeepsColumns 0 b.width (row_cells row a) (row_cells row b)
columns-whole row a b same = record {
  front = refl;
  back = drop_all b.width (row_cells row b) (row-short row b)
      ∙ sym (drop_all b.width (row_cells row a) (omega (arith, row-short row a, same)));
}

-- what was shown of a row is that row of the screen that is shown; and so is the frame
pub row-shown : (row : ℕ) (wanted s : State) → IsShownOf wanted s → shown_cells row wanted ≡ row_cells row s.display
row-shown row wanted s is =
    ap (λ (p : Picture). take wanted.display.width (drop (row * wanted.display.width) p.cells)) is.picture
    ∙ ap (λ w. take w (drop (row * w) s.display.cells)) (sym is.width)

pub frame-shown : (wanted s : State) → IsShownOf wanted s → (picture wanted.display).frame ≡ wanted.shown.frame → KeepsFrame s.display wanted.display
frame-shown wanted s is same =
    let frame : (picture wanted.display).frame ≡ (picture s.display).frame = same ∙ ap (λ (p : Picture). p.frame) is.picture in
    record {
      alternate = ap (λ (f : Frame). f.is_alternate) frame;
      hidden = ap (λ (f : Frame). f.hidden) frame;
      saved = ap (λ (f : Frame). f.saved) frame;
      hidden_saved = ap (λ (f : Frame). f.hidden_saved) frame;
      tabs = ap (λ (f : Frame). f.tabs) frame;
    }
