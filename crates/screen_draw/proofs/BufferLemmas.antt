-- Rows of cells, and the two buffers of a screen, which have one size.
use Rattle.std.proofs.Common.{◌≡◌, ℕ, suc, ◌+◌, ◌*◌, ◌<◌, ◌≤◌, List, ◌++◌, length, take, drop, ap, ap₂, sym, ◌∙◌, subst, arith}
use Rattle.std.proofs.Math.Nat.{suc-mul, mul-le-mul_right}
use Rattle.std.proofs.Math.Seq.{take-add}
use Rattle.std.proofs.lemmas.List.{take_all}
use Rattle.ansi_screen.specs.declared.cell.Cell.{Cell}
use Rattle.ansi_screen.specs.Display.{Display, IsSized, most_rows}
use Rattle.screen_draw.specs.declared.buffer.Buffer.{Buffer}
use Rattle.screen_draw.specs.declared.buffer.Buffer.TheVariants.{Shown, Hidden}
use Rattle.screen_draw.specs.Buffers.{cells_of, saved_of}

-- one row more
pub row-behind : (width row : ℕ) → (row + 1) * width ≡ row * width + width
row-behind width row =
    let next : row + 1 ≡ suc row = omega arith in
    ap (λ n. n * width) next ∙ suc-mul row width

pub take-row : (width row : ℕ) (cells : List Cell) → take ((row + 1) * width) cells ≡ take (row * width) cells ++ take width (drop (row * width) cells)
take-row width row cells = ap (λ n. take n cells) (row-behind width row) ∙ take-add (row * width) width cells

-- a row of so many
row-within : (width height row : ℕ) → row < height → row * width + width ≤ height * width
row-within width height row below =
    let next : suc row * width ≡ row * width + width = suc-mul row width in
    omega (arith, next, mul-le-mul_right {m = suc row} {n = height} width (omega (arith, below)))

-- the buffers
pub cells-fill : (buffer : Buffer) (d : Display) → IsSized d → length (cells_of buffer d) ≡ d.height * d.width
cells-fill Shown d sized = sized.cells_fill
cells-fill Hidden d sized = sized.hidden_fill

pub saved-row : (buffer : Buffer) (d : Display) → IsSized d → (saved_of buffer d).row < d.height
saved-row Shown d sized = sized.saved_row
saved-row Hidden d sized = sized.hidden_row

pub same-fill : (buffer : Buffer) (d e : Display) → IsSized d → IsSized e → d.width ≡ e.width → d.height ≡ e.height
    → length (cells_of buffer d) ≡ length (cells_of buffer e)
same-fill buffer d e sized sized_too columns rows =
    cells-fill buffer d sized ∙ (ap₂ (λ m n. m * n) rows columns ∙ sym (cells-fill buffer e sized_too))

pub row-fits : (buffer : Buffer) (d : Display) (row : ℕ) → IsSized d → row < d.height → row * d.width + d.width ≤ length (cells_of buffer d)
row-fits buffer d row sized below =
    subst (λ n. row * d.width + d.width ≤ n) (sym (cells-fill buffer d sized)) (row-within d.width d.height row below)

pub row-below : (d : Display) (row : ℕ) → IsSized d → row < d.height → row * d.width + d.width ≤ most_rows * d.width
row-below d row sized below =
    omega (arith, row-within d.width d.height row below, mul-le-mul_right {m = d.height} {n = most_rows} d.width sized.rows_limit)

-- so many rows are all
pub all-rows : (buffer : Buffer) (d : Display) (row : ℕ) → IsSized d → row ≡ d.height → take (row * d.width) (cells_of buffer d) ≡ cells_of buffer d
all-rows buffer d row sized is =
    take_all (row * d.width) (cells_of buffer d)
    (subst (λ n. length (cells_of buffer d) ≤ n * d.width) (sym is) (omega (arith, cells-fill buffer d sized)))
