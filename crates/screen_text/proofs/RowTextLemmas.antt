-- The text of a row of printed cells, with blanks after them.
use Rattle.std.proofs.Common.{◌≡◌, ℕ, zero, suc, ◌-◌, ◌<◌, Bool, true, false, List, [], ◌∷◌, ◌++◌, length, take, set, refl, ap, sym, ◌∙◌, arith}
use Rattle.std.specs.Prelude.{replicate, nat_eq, ◌==◌, encode_utf8}
use Rattle.std.specs.List.{AllByRecursion, flat_map}
use Rattle.std.proofs.lemmas.Bool.{and_right}
use Rattle.std.proofs.lemmas.List.{append-nil, take_at, length-set, get_or-set_same}
use Rattle.ansi_screen.proofs.PlainLemmas.{plain}
use Rattle.ansi_screen.specs.declared.cell.Cell.{Cell}
use Rattle.ansi_screen.specs.Cells.{blank, cell_at}
use Rattle.ansi_screen.specs.Print.{glyph}
use Rattle.ansi_screen.specs.Text.{cell_text, used, is_unprinted, goes_on}
use Rattle.screen_text.specs.Lines.{row_text}

-- so many blank cells, and cells with blanks after them
abbrev pub spaces : ℕ → List Cell
spaces n = replicate n (blank plain)

-- a cell that is plain, and in no link; rows of them
abbrev pub IsPlainCell : Cell → Type 0
IsPlainCell cell = (cell.style ≡ plain) × (cell.link ≡ 0)

abbrev pub ArePlainCells : List Cell → Type 0
ArePlainCells cells = AllByRecursion IsPlainCell cells

abbrev pub ArePlainRows : List (List Cell) → Type 0
ArePlainRows rows = AllByRecursion ArePlainCells rows

-- a cell that was printed plainly, and not as the last before a wrap
abbrev pub IsPrinted : Cell → Type 0
IsPrinted cell = (is_unprinted cell ≡ false) × (cell.goes_on ≡ false) × IsPlainCell cell

abbrev pub ArePrinted : List Cell → Type 0
ArePrinted cells = AllByRecursion IsPrinted cells

pub unprinted-blank : is_unprinted (blank plain) ≡ true
unfolding is_unprinted
unprinted-blank = refl

used-spaces : (n : ℕ) → used is_unprinted (spaces n) ≡ 0
used-spaces zero = refl
used-spaces (suc n) = rw (used-spaces n, unprinted-blank) refl

pub used-printed : (cells : List Cell) (n : ℕ) → ArePrinted cells → used is_unprinted (cells ++ spaces n) ≡ length cells
used-printed [] n are = used-spaces n
used-printed (x ∷ cells) n are =
    rw (and_right (used is_unprinted (cells ++ spaces n) == 0) (is_unprinted x) are.0.0) (ap suc (used-printed cells n are.1))

pub printed-append : (cells more : List Cell) → ArePrinted cells → ArePrinted more → ArePrinted (cells ++ more)
printed-append [] more are others = others
printed-append (x ∷ cells) more are others = (are.0, printed-append cells more are.1 others)

pub printed-parts : (cells more : List Cell) → ArePrinted (cells ++ more) → ArePrinted cells × ArePrinted more
printed-parts [] more are = (tt, are)
printed-parts (x ∷ cells) more are = let parts = printed-parts cells more are.1 in ((are.0, parts.0), parts.1)

-- such a row is plain
pub plain-spaces : (n : ℕ) → ArePlainCells (spaces n)
plain-spaces zero = tt
plain-spaces (suc n) = ((refl, refl), plain-spaces n)

pub plain-printed : (cells : List Cell) (n : ℕ) → ArePrinted cells → ArePlainCells (cells ++ spaces n)
plain-printed [] n are = plain-spaces n
plain-printed (x ∷ cells) n are = (are.0.2, plain-printed cells n are.1)

pub plain-rows_append : (rows more : List (List Cell)) → ArePlainRows rows → ArePlainRows more → ArePlainRows (rows ++ more)
plain-rows_append [] more are others = others
plain-rows_append (row ∷ rows) more are others = (are.0, plain-rows_append rows more are.1 others)

-- and does not go on
off-spaces : (n i : ℕ) → (cell_at i (spaces n)).goes_on ≡ false
off-spaces zero i = refl
off-spaces (suc n) zero = refl
off-spaces (suc n) (suc i) = off-spaces n i

off-printed : (cells : List Cell) (n i : ℕ) → ArePrinted cells → (cell_at i (cells ++ spaces n)).goes_on ≡ false
off-printed [] n i are = off-spaces n i
off-printed (x ∷ cells) n zero are = are.0.1
off-printed (x ∷ cells) n (suc i) are = off-printed cells n i are.1

pub goes_on-printed : (cells : List Cell) (n : ℕ) → ArePrinted cells → goes_on (cells ++ spaces n) ≡ false
goes_on-printed cells n are = off-printed cells n (length (cells ++ spaces n) - 1) are

characters : (cells : List Cell) (n : ℕ) → ArePrinted cells
    → flat_map cell_text (take (used is_unprinted (cells ++ spaces n)) (cells ++ spaces n)) ≡ flat_map cell_text cells
characters cells n are =
    ap (λ k. flat_map cell_text (take k (cells ++ spaces n))) (used-printed cells n are)
    ∙ ap (flat_map cell_text) (take_at cells (spaces n) (length cells) refl)

pub text-ended : (cells : List Cell) (n : ℕ) → ArePrinted cells → row_text (cells ++ spaces n) ≡ flat_map cell_text cells ++ 0x0A ∷ []
text-ended cells n are =
    rw (goes_on-printed cells n are) (ap (λ l. l ++ 0x0A ∷ []) (characters cells n are))

-- The mark that a row goes on changes nothing else.
abbrev pub mark : ℕ → List Cell → List Cell
mark i row = set row i (record (cell_at i row) { goes_on = true })

plain-set : (i : ℕ) (row : List Cell) (x : Cell) → IsPlainCell x → ArePlainCells row → ArePlainCells (set row i x)
plain-set i [] x is are = are
plain-set zero (y ∷ row) x is are = (is, are.1)
plain-set (suc i) (y ∷ row) x is are = (are.0, plain-set i row x is are.1)

plain-at : (i : ℕ) (row : List Cell) → ArePlainCells row → IsPlainCell (cell_at i row)
plain-at i [] are = (refl, refl)
plain-at zero (x ∷ row) are = are.0
plain-at (suc i) (x ∷ row) are = plain-at i row are.1

pub plain-mark : (i : ℕ) (row : List Cell) → ArePlainCells row → ArePlainCells (mark i row)
plain-mark i row are = plain-set i row (record (cell_at i row) { goes_on = true }) (plain-at i row are) are

used-mark : (i : ℕ) (row : List Cell) → used is_unprinted (mark i row) ≡ used is_unprinted row
unfolding is_unprinted
used-mark i [] = refl
used-mark zero (x ∷ row) = refl
used-mark (suc i) (x ∷ row) = rw (used-mark i row) refl

text-mark : (k i : ℕ) (row : List Cell) → flat_map cell_text (take k (mark i row)) ≡ flat_map cell_text (take k row)
unfolding cell_text
text-mark k i [] = refl
text-mark zero i (x ∷ row) = refl
text-mark (suc k) zero (x ∷ row) = refl
text-mark (suc k) (suc i) (x ∷ row) = ap (λ l. cell_text x ++ l) (text-mark k i row)

pub length-mark : (i : ℕ) (row : List Cell) → length (mark i row) ≡ length row
length-mark i row = length-set row i (record (cell_at i row) { goes_on = true })

on-mark : (i n : ℕ) (row : List Cell) → i < length row → n ≡ length row → i ≡ n - 1 → goes_on (mark i row) ≡ true
on-mark i n row inside long last =
    let place : length (mark i row) - 1 ≡ i = omega (arith, length-mark i row) in
    ap (λ k. (cell_at k (mark i row)).goes_on) place
    ∙ ap (λ (x : Cell). x.goes_on) (get_or-set_same row i (record (cell_at i row) { goes_on = true }) (blank plain) inside)

pub text-marked : (cells : List Cell) (n width : ℕ) → ArePrinted cells → length (cells ++ spaces n) ≡ width → 0 < width
    → row_text (mark (width - 1) (cells ++ spaces n)) ≡ flat_map cell_text cells
text-marked cells n width are long some =
    let row : List Cell = cells ++ spaces n in
    rw (on-mark (width - 1) width row (omega arith) (sym long) refl)
    (append-nil (flat_map cell_text (take (used is_unprinted (mark (width - 1) row)) (mark (width - 1) row)))
    ∙ (ap (λ k. flat_map cell_text (take k (mark (width - 1) row))) (used-mark (width - 1) row)
    ∙ (text-mark (used is_unprinted row) (width - 1) row ∙ characters cells n are)))

-- a character's cells
glyph-at : (n c : ℕ) (t : Bool) → nat_eq n 2 ≡ t → ArePrinted (glyph n c plain 0) × (flat_map cell_text (glyph n c plain 0) ≡ encode_utf8 c)
unfolding is_unprinted cell_text
glyph-at n c true is =
    rw is (((refl, refl, (refl, refl)), ((refl, refl, (refl, refl)), tt)), append-nil (encode_utf8 c ++ []) ∙ append-nil (encode_utf8 c))
glyph-at n c false is = rw is (((refl, refl, (refl, refl)), tt), append-nil (encode_utf8 c ++ []) ∙ append-nil (encode_utf8 c))

pub printed-glyph : (n c : ℕ) → ArePrinted (glyph n c plain 0)
printed-glyph n c = (glyph-at n c _ refl).0

pub text-glyph : (n c : ℕ) → flat_map cell_text (glyph n c plain 0) ≡ encode_utf8 c
text-glyph n c = (glyph-at n c _ refl).1
