-- Ranges of characters: which decide about a number, and the first of those that no character is in.
use Rattle.std.proofs.Common.{◌≡◌, ℕ, ◌<◌, ◌≤◌, true, false, List, [], ◌∷◌, refl, arith, inl, inr}
use Rattle.std.proofs.lemmas.Bool.{and_parts, leb-true, lt-leb, le-leb, le-ltb, lt-ltb, cases_lt}
use Rattle.std.specs.Prelude.{Bool, nat_le, nat_lt, ◌&&◌, if◌then◌else◌}
use Rattle.ansi_screen.specs.Ranges.{no_column, two_columns}
use Rattle.ansi_screen.specs.Widths.{is_among}

-- those that end at a number or past it
unfoldable pub skip : ℕ → List (ℕ × ℕ) → List (ℕ × ℕ)
skip n [] = []
skip n (range ∷ ranges) = if nat_lt range.1 n then skip n ranges else range ∷ ranges

-- No other decides about it, nor about what comes after it.
pub is_among-skip : (n c : ℕ) (ranges : List (ℕ × ℕ)) → c ≤ n → is_among n (skip c ranges) ≡ is_among n ranges
unfolding skip is_among
is_among-skip n c [] reached = refl
is_among-skip n c (range ∷ ranges) reached = elim (cases_lt range.1 c) [
  | inl below ↦ rw (lt-ltb range.1 c below, lt-leb n range.1 (omega arith)) (is_among-skip n c ranges reached)
  | inr past ↦ rw (le-ltb range.1 c past) refl
]

-- the first begins at a number or past it
unfoldable pub begins_past : ℕ → List (ℕ × ℕ) → Bool
begins_past top [] = true
begins_past top (range ∷ ranges) = nat_le top range.0 && nat_le range.0 range.1

pub is_among-before : (n top : ℕ) (ranges : List (ℕ × ℕ)) → begins_past top ranges ≡ true → n < top → is_among n ranges ≡ false
unfolding begins_past is_among
is_among-before n top [] past below = refl
is_among-before n top (range ∷ ranges) past below =
    let parts = and_parts (nat_le top range.0) (nat_le range.0 range.1) past in
    let from : top ≤ range.0 = leb-true top range.0 parts.0 in
    let to : range.0 ≤ range.1 = leb-true range.0 range.1 parts.1 in
    rw (le-leb n range.1 (omega arith), lt-leb range.0 n (omega arith)) refl

-- the first has all from one number up to another
unfoldable pub covers : ℕ → ℕ → List (ℕ × ℕ) → Bool
covers c top [] = false
covers c top (range ∷ ranges) = nat_le range.0 c && nat_le top range.1

pub is_among-covered : (n c top : ℕ) (ranges : List (ℕ × ℕ)) → covers c top ranges ≡ true → c ≤ n → n ≤ top → is_among n ranges ≡ true
unfolding covers is_among
is_among-covered n c top [] covered low high = cc
is_among-covered n c top (range ∷ ranges) covered low high =
    let parts = and_parts (nat_le range.0 c) (nat_le top range.1) covered in
    let from : range.0 ≤ c = leb-true range.0 c parts.0 in
    let to : top ≤ range.1 = leb-true top range.1 parts.1 in
    rw (le-leb n range.1 (omega arith), le-leb range.0 n (omega arith)) refl

-- the ranges begin at 300 and at 1100
pub no_column-below : (n : ℕ) → n < 0x300 → is_among n no_column ≡ false
unfolding is_among
no_column-below n small = rw (le-leb n 0x36F (omega arith), lt-leb 0x300 n small) refl

pub two_columns-below : (n : ℕ) → n < 0x1100 → is_among n two_columns ≡ false
unfolding is_among
two_columns-below n small = rw (le-leb n 0x115F (omega arith), lt-leb 0x1100 n small) refl
