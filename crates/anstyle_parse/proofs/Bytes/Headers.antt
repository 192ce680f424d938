-- The bytes of a header: what a byte is, it is nothing else; and what a shape says of the
-- bytes that are no parameter bytes.
use Rattle.std.proofs.Common.{◌≡◌, ℕ, ◌+◌, ◌-◌, ◌*◌, ◌<◌, ◌≤◌, Bool, true, false, not, List, [], ◌∷◌, ◌++◌, filter, refl, sym, ap, ap₂, ◌∙◌, arith, if◌then◌else◌, ◌==◌, min, IsTrue}
use Rattle.std.specs.List.{list_all}
use Rattle.std.specs.Char.{digit_value}
use Rattle.std.specs.Str.Parse.{digits_value}
use Rattle.std.specs.Prelude.{nat_lt, nat_le}
use Rattle.std.proofs.lemmas.Int.Digits.{digits_value_push}
use Rattle.std.proofs.lemmas.Bool.{and_parts, and_left, and_right, leb-true, lt-leb, eqb-false, cond-true, cond-false, lt-ltb, le-ltb}
use Rattle.anstyle_parse.specs.Stream.Bytes.{is_within, is_intermediate, is_parameter, is_marker, colon, semicolon}
use Rattle.anstyle_parse.specs.Stream.Arguments.{max_field, field, after_parameters, has_shape, all_collected}

-- two ranges of which one ends before the other begins have no byte in common
is_within-above : (low high from last b : ℕ) → high < from → is_within low high b ≡ true → is_within from last b ≡ false
unfolding is_within
is_within-above low high from last b apart is =
    and_left (nat_le from b) (nat_le b last) (lt-leb from b (omega (arith, leb-true b high (and_parts (nat_le low b) (nat_le b high) is).1)))

is_within-below : (low high from last b : ℕ) → last < low → is_within low high b ≡ true → is_within from last b ≡ false
unfolding is_within
is_within-below low high from last b apart is =
    and_right (nat_le from b) (nat_le b last) (lt-leb b last (omega (arith, leb-true low b (and_parts (nat_le low b) (nat_le b high) is).0)))

-- a byte of one kind is of no other
pub is_parameter-intermediate : (b : ℕ) → is_intermediate b ≡ true → is_parameter b ≡ false
unfolding is_intermediate is_parameter
is_parameter-intermediate b = is_within-above 0x20 0x2F 0x30 0x3B b (omega arith)

is_marker-intermediate : (b : ℕ) → is_intermediate b ≡ true → is_marker b ≡ false
unfolding is_intermediate is_marker
is_marker-intermediate b = is_within-above 0x20 0x2F 0x3C 0x3F b (omega arith)

is_marker-parameter : (b : ℕ) → is_parameter b ≡ true → is_marker b ≡ false
unfolding is_parameter is_marker
is_marker-parameter b = is_within-above 0x30 0x3B 0x3C 0x3F b (omega arith)

is_intermediate-parameter : (b : ℕ) → is_parameter b ≡ true → is_intermediate b ≡ false
unfolding is_parameter is_intermediate
is_intermediate-parameter b = is_within-below 0x30 0x3B 0x20 0x2F b (omega arith)

is_parameter-marker : (b : ℕ) → is_marker b ≡ true → is_parameter b ≡ false
unfolding is_marker is_parameter
is_parameter-marker b = is_within-below 0x3C 0x3F 0x30 0x3B b (omega arith)

is_intermediate-marker : (b : ℕ) → is_marker b ≡ true → is_intermediate b ≡ false
unfolding is_marker is_intermediate
is_intermediate-marker b = is_within-below 0x3C 0x3F 0x20 0x2F b (omega arith)

-- a parameter byte that separates nothing is a digit
digit_value-parameter : (b : ℕ) → is_parameter b ≡ true → (b == colon) ≡ false → (b == semicolon) ≡ false → digit_value b ≡ b - 0x30
unfolding is_parameter is_within
digit_value-parameter b is no_colon no_semicolon =
    let parts : (nat_le 0x30 b ≡ true) × (nat_le b 0x3B ≡ true) = and_parts (nat_le 0x30 b) (nat_le b 0x3B) is in
    let from : 0x30 ≤ b = leb-true 0x30 b parts.0 in
    let upto : b ≤ 0x3B = leb-true b 0x3B parts.1 in
    let below : b < 58 = omega (arith, eqb-false b colon no_colon, eqb-false b semicolon no_semicolon) in
    cond-false (nat_lt b 48) _ _ (le-ltb b 48 from) ∙ cond-true (nat_lt b 58) _ _ (lt-ltb b 58 below)

-- the number after one more digit
abbrev pub next_number : ℕ → ℕ → ℕ
next_number number b = min max_field (number * 10 + (b - 0x30))

-- the cap may be taken before or after the digit
next_number-capped : (n d : ℕ) → min max_field (min max_field n * 10 + d) ≡ min max_field (n * 10 + d)
next_number-capped n d = omega arith

-- one more digit of a field
pub field_push : (digits : List ℕ) (b : ℕ) → is_parameter b ≡ true → (b == colon) ≡ false → (b == semicolon) ≡ false → next_number (field digits) b ≡ field (digits ++ b ∷ [])
field_push digits b is no_colon no_semicolon =
    next_number-capped (digits_value 10 digits) (b - 0x30)
    ∙ ap (λ n. min max_field n) (sym (digits_value_push 10 digits b ∙ ap (λ d. digits_value 10 digits * 10 + d) (digit_value-parameter b is no_colon no_semicolon)))

-- the bytes that are no parameter bytes
abbrev pub collectable : List ℕ → List ℕ
collectable header = filter (λ b. not (is_parameter b)) header

-- the first element is kept, or not
filter-yes : (p : ℕ → Bool) (x : ℕ) (xs : List ℕ) → p x ≡ true → filter p (x ∷ xs) ≡ x ∷ filter p xs
filter-yes p x xs = cond-true (p x) (x ∷ filter p xs) (filter p xs)

filter-no : (p : ℕ → Bool) (x : ℕ) (xs : List ℕ) → p x ≡ false → filter p (x ∷ xs) ≡ filter p xs
filter-no p x xs = cond-false (p x) (x ∷ filter p xs) (filter p xs)

-- where all pass one test, a test that this implies keeps all, and one that it excludes none
filter-implied : (p q : ℕ → Bool) → ((x : ℕ) → p x ≡ true → q x ≡ true) → (xs : List ℕ) → list_all p xs ≡ true → filter q xs ≡ xs
filter-implied p q implied [] each = refl
filter-implied p q implied (x ∷ xs) each =
    let parts : (p x ≡ true) × (list_all p xs ≡ true) = and_parts (p x) (list_all p xs) each in
    filter-yes q x xs (implied x parts.0) ∙ ap (λ list. x ∷ list) (filter-implied p q implied xs parts.1)

filter-excluded : (p q : ℕ → Bool) → ((x : ℕ) → p x ≡ true → q x ≡ false) → (xs : List ℕ) → list_all p xs ≡ true → filter q xs ≡ []
filter-excluded p q excluded [] each = refl
filter-excluded p q excluded (x ∷ xs) each =
    let parts : (p x ≡ true) × (list_all p xs ≡ true) = and_parts (p x) (list_all p xs) each in
    filter-no q x xs (excluded x parts.0) ∙ filter-excluded p q excluded xs parts.1

-- of intermediates alone all are collected, and none is a parameter byte
pub collectable-intermediates : (bytes : List ℕ) → list_all is_intermediate bytes ≡ true → collectable bytes ≡ bytes
collectable-intermediates = filter-implied is_intermediate (λ b. not (is_parameter b)) (λ b is. ap not (is_parameter-intermediate b is))

pub parameters-intermediates : (bytes : List ℕ) → list_all is_intermediate bytes ≡ true → filter is_parameter bytes ≡ []
parameters-intermediates = filter-excluded is_intermediate is_parameter is_parameter-intermediate

all_collected-intermediates : (bytes : List ℕ) → list_all is_intermediate bytes ≡ true → all_collected bytes ≡ bytes
all_collected-intermediates bytes each =
    ap₂ (λ markers rest. markers ++ rest) (filter-excluded is_intermediate is_marker is_marker-intermediate bytes each)
    (filter-implied is_intermediate is_intermediate (λ b is. is) bytes each)

-- parameter bytes, then intermediates
collectable-unmarked : (bytes : List ℕ) → list_all is_intermediate (after_parameters bytes) ≡ true → collectable bytes ≡ all_collected bytes
collectable-unmarked [] each = refl
collectable-unmarked (b ∷ bytes) each = by_first (is_parameter b) refl (collectable-unmarked bytes) each
  where
    by_first : (parameter : Bool) → is_parameter b ≡ parameter → (list_all is_intermediate (after_parameters bytes) ≡ true → collectable bytes ≡ all_collected bytes)
        → list_all is_intermediate (if parameter then after_parameters bytes else b ∷ bytes) ≡ true → collectable (b ∷ bytes) ≡ all_collected (b ∷ bytes)
    by_first true is rest each =
        filter-no (λ x. not (is_parameter x)) b bytes (ap not is)
        ∙ (rest each
        ∙ sym (ap₂ (λ markers others. markers ++ others) (filter-no is_marker b bytes (is_marker-parameter b is)) (filter-no is_intermediate b bytes (is_intermediate-parameter b is))))
    by_first false is rest each = collectable-intermediates (b ∷ bytes) each ∙ sym (all_collected-intermediates (b ∷ bytes) each)

-- what is collected of a header is its marker and then its intermediates, in their order
pub collectable-shaped : (header : List ℕ) → IsTrue (has_shape header) → collectable header ≡ all_collected header
collectable-shaped [] shape = refl
collectable-shaped (b ∷ bytes) shape = by_first (is_marker b) refl shape
  where
    by_first : (marker : Bool) → is_marker b ≡ marker → list_all is_intermediate (after_parameters (if marker then bytes else b ∷ bytes)) ≡ true → collectable (b ∷ bytes) ≡ all_collected (b ∷ bytes)
    by_first true is each =
        filter-yes (λ x. not (is_parameter x)) b bytes (ap not (is_parameter-marker b is))
        ∙ (ap (λ list. b ∷ list) (collectable-unmarked bytes each)
        ∙ sym (ap₂ (λ markers rest. markers ++ rest) (filter-yes is_marker b bytes is) (filter-no is_intermediate b bytes (is_intermediate-marker b is))))
    by_first false is each = collectable-unmarked (b ∷ bytes) each
