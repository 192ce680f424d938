-- Fronts of two to four bytes: which go on, which are whole, and which character a whole one is.
use Rattle.std.proofs.Common.{◌≡◌, ◌<◌, ◌≤◌, ◌+◌, ◌*◌, ◌%◌, ◌⊎◌, ℕ, Bool, true, false, List, [], ◌∷◌, length, refl, inl, inr, ⊎_elim, arith}
use Rattle.std.specs.Prelude.{◌&&◌, ◌||◌, ◌==◌}
use Rattle.std.specs.List.{list_any, AllByRecursion}
use Rattle.std.specs.Char.{InScalarRange}
use Rattle.std.proofs.lemmas.Bool.{or_cases}
use Rattle.std.proofs.Math.Bool.{and-true, and-false, or-false, or_assoc}
use Rattle.anstyle_parse.specs.Stream.Bytes.{is_within, Span}
use Rattle.anstyle_parse.specs.Stream.Characters.{rows, begins, is_well_formed, is_proper_front, character_of}
use Rattle.anstyle_parse.specs.Views.Front.{is_front_of}

-- whole with its second byte, or begun
pub is_well_formed-two : (a b : ℕ) → is_well_formed (a ∷ b ∷ []) ≡ is_front_of 2 (a ∷ b ∷ [])
unfolding is_well_formed is_front_of
is_well_formed-two a b = refl

pub is_proper_front-two : (a b : ℕ) → is_proper_front (a ∷ b ∷ []) ≡ (is_front_of 3 (a ∷ b ∷ []) || is_front_of 4 (a ∷ b ∷ []))
unfolding is_proper_front is_front_of
is_proper_front-two a b = simp (and-true, and-false, or-false, or_assoc)

three_parts : (a b c : ℕ) (k : Bool) → is_within 0x80 0xBF c ≡ k → is_well_formed (a ∷ b ∷ c ∷ []) ≡ (is_front_of 3 (a ∷ b ∷ []) && k)
unfolding is_well_formed is_front_of
three_parts a b c true e = simp (e, and-true, and-false, or-false)
three_parts a b c false e = simp (e, and-true, and-false, or-false)

front_parts : (a b c : ℕ) (k : Bool) → is_within 0x80 0xBF c ≡ k → is_proper_front (a ∷ b ∷ c ∷ []) ≡ (is_front_of 4 (a ∷ b ∷ []) && k)
unfolding is_proper_front is_front_of
front_parts a b c true e = simp (e, and-true, and-false, or-false)
front_parts a b c false e = simp (e, and-true, and-false, or-false)

four_parts : (a b c d : ℕ) (k l : Bool) → is_within 0x80 0xBF c ≡ k → is_within 0x80 0xBF d ≡ l → is_well_formed (a ∷ b ∷ c ∷ d ∷ []) ≡ (is_front_of 4 (a ∷ b ∷ []) && (k && l))
unfolding is_well_formed is_front_of
four_parts a b c d true true e f = simp (e, f, and-true, and-false, or-false)
four_parts a b c d false l e f = simp (e, and-true, and-false, or-false)
four_parts a b c d true false e f = simp (e, f, and-true, and-false, or-false)

-- the third byte is 80..BF in each row that has one
pub is_well_formed-three : (a b c : ℕ) → is_well_formed (a ∷ b ∷ c ∷ []) ≡ (is_front_of 3 (a ∷ b ∷ []) && is_within 0x80 0xBF c)
is_well_formed-three a b c = three_parts a b c (is_within 0x80 0xBF c) refl

pub is_proper_front-three : (a b c : ℕ) → is_proper_front (a ∷ b ∷ c ∷ []) ≡ (is_front_of 4 (a ∷ b ∷ []) && is_within 0x80 0xBF c)
is_proper_front-three a b c = front_parts a b c (is_within 0x80 0xBF c) refl

-- the fourth byte too, and no row is longer
pub is_well_formed-four : (a b c d : ℕ) → is_well_formed (a ∷ b ∷ c ∷ d ∷ []) ≡ (is_front_of 4 (a ∷ b ∷ []) && (is_within 0x80 0xBF c && is_within 0x80 0xBF d))
is_well_formed-four a b c d = four_parts a b c d (is_within 0x80 0xBF c) (is_within 0x80 0xBF d) refl refl

pub is_proper_front-four : (a b c d : ℕ) → is_proper_front (a ∷ b ∷ c ∷ d ∷ []) ≡ false
unfolding is_proper_front
is_proper_front-four a b c d = simp (and-true, and-false, or-false)

-- what follows from each row that passes a test follows from some row passing it
from_rows : {P : Type 0} (test : List Span → Bool) (rs : List (List Span)) → list_any test rs ≡ true → AllByRecursion (λ row. test row ≡ true → P) rs → P
from_rows test [] h each = cc
from_rows test (row ∷ rs) h each = ⊎_elim each.0 (λ rest. from_rows test rs rest each.1) (or_cases (test row) (list_any test rs) h)

-- two bytes at the places of a row
both_within : (low high low' high' a b : ℕ) → ((is_within low high a && (is_within low' high' b && true)) && true) ≡ true → (low ≤ a) × (a ≤ high) × (low' ≤ b) × (b ≤ high')
unfolding is_within
both_within low high low' high' a b h = grind arith

other_length : {P : Type 0} (x : Bool) → (x && false) ≡ true → P
other_length x h = let e = and-false x in cc

-- the high bits: below the surrogates or above them
high_of_three : (a b : ℕ) → is_front_of 3 (a ∷ b ∷ []) ≡ true → (a % 16 * 64 + b % 64 < 864) ⊎ ((896 ≤ a % 16 * 64 + b % 64) × (a % 16 * 64 + b % 64 < 1024))
unfolding is_front_of
high_of_three a b h =
    from_rows (λ row. begins row (a ∷ b ∷ []) && 3 == length row) rows h (
      other_length _,
      (
        λ e. let w = both_within _ _ _ _ a b e in inl (omega arith),
        (
          λ e. let w = both_within _ _ _ _ a b e in inl (omega arith),
          (
            λ e. let w = both_within _ _ _ _ a b e in inl (omega arith),
            (
              λ e. let w = both_within _ _ _ _ a b e in inr (omega arith, omega arith),
              (other_length _, (other_length _, (other_length _, tt))),
            ),
          ),
        ),
      ),
    )

high_of_four : (a b : ℕ) → is_front_of 4 (a ∷ b ∷ []) ≡ true → (16 ≤ a % 8 * 64 + b % 64) × (a % 8 * 64 + b % 64 < 272)
unfolding is_front_of
high_of_four a b h =
    from_rows (λ row. begins row (a ∷ b ∷ []) && 4 == length row) rows h (
      other_length _,
      (
        other_length _,
        (
          other_length _,
          (
            other_length _,
            (
              other_length _,
              (
                λ e. let w = both_within _ _ _ _ a b e in (omega arith, omega arith),
                (
                  λ e. let w = both_within _ _ _ _ a b e in (omega arith, omega arith),
                  (λ e. let w = both_within _ _ _ _ a b e in (omega arith, omega arith), tt),
                ),
              ),
            ),
          ),
        ),
      ),
    )

-- the character of a whole sequence is a scalar value
pub InScalarRange-two : (a b : ℕ) → InScalarRange (character_of (a ∷ b ∷ []))
InScalarRange-two a b = grind arith

pub InScalarRange-three : (a b c : ℕ) → is_front_of 3 (a ∷ b ∷ []) ≡ true → InScalarRange (character_of (a ∷ b ∷ c ∷ []))
InScalarRange-three a b c h = let high = high_of_three a b h in grind arith

pub InScalarRange-four : (a b c d : ℕ) → is_front_of 4 (a ∷ b ∷ []) ≡ true → InScalarRange (character_of (a ∷ b ∷ c ∷ d ∷ []))
InScalarRange-four a b c d h = let high = high_of_four a b h in grind arith

-- what the decoder finds at the second, the third and the fourth byte of a character
pub ruleset second_byte = (is_well_formed-two, is_proper_front-two)

pub ruleset third_byte = (is_well_formed-three, is_proper_front-three)

pub ruleset fourth_byte = (is_well_formed-four, is_proper_front-four)

pub ruleset scalar_values = (InScalarRange-two, InScalarRange-three, InScalarRange-four)
