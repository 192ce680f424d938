-- A grid that was not written yet: a grid of one blank row stands for it.
use Rattle.std.proofs.Common.{◌≡◌, ◌<◌, ◌*◌, ◌-◌, ℕ, true, false, length, take, drop, refl, sym, ap, ◌∙◌, subst, arith}
use Rattle.std.proofs.lemmas.Bool.{false≢true}
use Rattle.std.proofs.lemmas.List.{length-replicate, take-replicate, drop-replicate}
use Rattle.std.specs.Prelude.{replicate, is_some, unwrap_or}
use Rattle.std.specs.Option.{ForSome}
use Rattle.std.specs.declared.option.Option.{Option}
use Rattle.std.specs.Prelude.{None, Some}
use Rattle.ansi_style.specs.Style.{plain}
use Rattle.ansi_screen.specs.Cells.{blank}
use Rattle.ansi_screen.specs.Grid.{Grid, blank_grid, with_list}
use Rattle.ansi_screen.proofs.KeptLemmas.{row-inside}
use Rattle.ansi_screen.proofs.MovedLemmas.{both-blank}

-- what a covered grid knows of its two parts
abbrev IsCovered : Option Grid → Grid → Type 0
IsCovered memory grid = ForSome memory (λ g. (g ≡ blank_grid g.width g.height) × (grid ≡ blank_grid g.width 1))

-- Where there is memory alone, all cells are plain blanks, and there is a row of them.
pub unwritten : (memory : Option Grid) (grid now : Grid) → unwrap_or memory grid ≡ now → IsCovered memory grid → is_some memory ≡ true
    → (now ≡ blank_grid now.width now.height) × (grid ≡ blank_grid now.width 1)
unwritten None grid now is covered some = absurd (false≢true some)
unwritten (Some g) grid now is covered some =
    let known = covered g refl in
    (sym is ∙ (known.0 ∙ ap (λ (x : Grid). blank_grid x.width x.height) is), known.1 ∙ ap (λ (x : Grid). blank_grid x.width 1) is)

-- Where there is none, it is the grid.
pub written : (memory : Option Grid) (grid now : Grid) → unwrap_or memory grid ≡ now → is_some memory ≡ false → grid ≡ now
written None grid now is none = is
written (Some g) grid now is none = absurd (false≢true (sym none))

-- a row of a blank grid
row-blank : (width height row : ℕ) → row < height → take width (drop (row * width) (replicate (height * width) (blank plain))) ≡ replicate width (blank plain)
row-blank width height row inside =
    ap (take width) (drop-replicate (row * width) (height * width) (blank plain))
    ∙ take-replicate width (height * width - row * width) (blank plain) (omega (arith, row-inside row width height inside))

-- The one row is like each of its rows.
pub row-for-each : (row : ℕ) (grid now : Grid) → now ≡ blank_grid now.width now.height → grid ≡ blank_grid now.width 1 → row < now.height
    → take grid.width (drop (0 * grid.width) grid.cells) ≡ take now.width (drop (row * now.width) now.cells)
row-for-each row grid now blank_now one inside =
    ap (λ (g : Grid). take g.width (drop (0 * g.width) g.cells)) one
    ∙ (row-blank now.width 1 0 (omega arith)
    ∙ (sym (row-blank now.width now.height row inside)
    ∙ ap (λ (g : Grid). take now.width (drop (row * now.width) g.cells)) (sym blank_now)))

-- It is blank as it is.
pub clear-as-it-is : (now : Grid) → now ≡ blank_grid now.width now.height → now ≡ with_list (replicate (length now.cells) (blank plain)) now
clear-as-it-is now is =
    is ∙ ap (λ n. with_list (replicate n (blank plain)) now) (sym (ap (λ (g : Grid). length g.cells) is ∙ length-replicate (now.height * now.width) (blank plain)))

-- how many cells it has
filled : (memory : Option Grid) (grid now : Grid) → unwrap_or memory grid ≡ now → IsCovered memory grid → length grid.cells ≡ grid.height * grid.width
    → length now.cells ≡ now.height * now.width
filled None grid now is covered fill = subst (λ (g : Grid). length g.cells ≡ g.height * g.width) is fill
filled (Some g) grid now is covered fill =
    subst (λ (g : Grid). length g.cells ≡ g.height * g.width) is
    (ap (λ (x : Grid). length x.cells) (covered g refl).0 ∙ length-replicate (g.height * g.width) (blank plain))

-- Blank grids of one size are the same.
pub both-unwritten : (memory : Option Grid) (grid now other : Grid) → unwrap_or memory grid ≡ now → IsCovered memory grid → length grid.cells ≡ grid.height * grid.width
    → now.width ≡ other.width → now.height ≡ other.height → other ≡ blank_grid other.width other.height
    → with_list (replicate (length now.cells) (blank plain)) now ≡ other
both-unwritten memory grid now other is covered fill wide high blank_other =
    let filled_too : length other.cells ≡ other.height * other.width =
    ap (λ (g : Grid). length g.cells) blank_other ∙ length-replicate (other.height * other.width) (blank plain) in
    both-blank now other (filled memory grid now is covered fill) filled_too wide high
    (ap (λ (g : Grid). g.cells) blank_other ∙ ap (λ n. replicate n (blank plain)) (sym filled_too))
