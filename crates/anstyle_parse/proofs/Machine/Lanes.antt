-- Sixteen bytes, tested at once.
use Rattle.std.proofs.Common.{◌≡◌, ◌≢◌, ⊎_elim, ◌&&◌, ◌||◌, bit_or, ℕ, ◌+◌, ◌*◌, ◌-◌, ◌%◌, ◌^◌, ◌<◌, ◌≤◌, Bool, true, false, cond, eqb, leb, ltb, List, [], ◌∷◌, length, take, map, replicate, suc, zero, subst, refl, sym, ap, ap₂, ◌∙◌, arith, w8, Fits}
use Rattle.std.specs.Prelude.{not, nat_le}
use Rattle.std.specs.List.{prefix_len}
use Rattle.std.specs.Simd.Lanes.{zip2, mask_l, top, Each1}
use Rattle.std.proofs.lemmas.Bool.{cases_lt, false≢true, le-leb, lt-leb, eq-eqb, ne_eqb, cond-true, cond-false}
use Rattle.std.proofs.lemmas.List.{length-map}
use Rattle.std.proofs.lemmas.Simd.{zip2_splat, zip2_splat_left, zip2_of_maps, map-map, mask_l-mod, first_set_mask_l}
use Rattle.anstyle_parse.specs.Stream.Bytes.{is_within, is_plain_text}
use Rattle.anstyle_parse.specs.Stream.Items.{EachIs}
use Rattle.anstyle_parse.specs.Stream.Texts.{is_layout}
use Rattle.anstyle_parse.specs.Views.Texts.{is_text_byte}
use Rattle.anstyle_parse.proofs.Characters.Layout.{layout-low}
use lib.Count.{count_trailing_zeros}

-- what a subtraction and a comparison are, lane by lane
abbrev minus : ℕ → ℕ → ℕ
minus a b = (a + (256 - b)) % 256

abbrev at_most : ℕ → ℕ → ℕ
at_most a b = cond (leb a b) 255 0

abbrev lane : (before count b : ℕ) → ℕ
lane before count b = at_most count (minus b (suc before))

-- whether a byte is none of the so many that come next after one
abbrev is_beyond : (before count b : ℕ) → Bool
is_beyond before count b = not (is_within (suc before) (before + count) b)

top-at_most : (a b : ℕ) → top 7 (at_most a b) ≡ leb a b
top-at_most a b = by (leb a b)
  where
    by : (t : Bool) → top 7 (cond t 255 0) ≡ t
    by true = refl
    by false = refl

low_is_beyond : (before count b : ℕ) → b < suc before → is_beyond before count b ≡ true
unfolding is_within
low_is_beyond before count b low = ap (λ t. not (t && nat_le b (before + count))) (lt-leb (suc before) b low)

high_is_beyond : (before count b : ℕ) → before + count < b → is_beyond before count b ≡ true
unfolding is_within
high_is_beyond before count b high = ap (λ t. not (nat_le (suc before) b && t)) (lt-leb b (before + count) high) ∙ by (nat_le (suc before) b)
  where
    by : (t : Bool) → not (t && false) ≡ true
    by true = refl
    by false = refl

within_is_not_beyond : (before count b : ℕ) → suc before ≤ b → b ≤ before + count → is_beyond before count b ≡ false
unfolding is_within
within_is_not_beyond before count b low high = ap₂ (λ s t. not (s && t)) (le-leb (suc before) b low) (le-leb b (before + count) high)

one_lane : (before count b : ℕ) → before + count ≤ 0xFF → b < 256 → top 7 (lane before count b) ≡ is_beyond before count b
one_lane before count b few small =
    top-at_most count (minus b (suc before))
    ∙ ⊎_elim
    (λ (low : b < suc before). le-leb count (minus b (suc before)) (omega (arith, low, few)) ∙ sym (low_is_beyond before count b low))
    (λ (k : suc before ≤ b). ⊎_elim
    (λ (high : before + count < b). le-leb count (minus b (suc before)) (omega (arith, high, k, small)) ∙ sym (high_is_beyond before count b high))
    (λ (j : b ≤ before + count). lt-leb count (minus b (suc before)) (omega (arith, j, k, small)) ∙ sym (within_is_not_beyond before count b k j))
    (cases_lt (before + count) b))
    (cases_lt b (suc before))

module _ (before count : ℕ) (few : before + count ≤ 0xFF) where
  all_lanes : (bytes : List ℕ) → Each1 (Fits w8) bytes → map (top 7) (map (lane before count) bytes) ≡ map (is_beyond before count) bytes
  all_lanes [] fits = refl
  all_lanes (b ∷ bytes) fits = ap₂ (λ x xs. x ∷ xs) (one_lane before count b few fits.0.fits) (all_lanes bytes fits.1)

  lanes_are : (bytes : List ℕ) → length bytes ≡ 16
      → zip2 at_most (replicate 16 count) (zip2 minus bytes (replicate 16 (suc before))) ≡ map (lane before count) bytes
  lanes_are bytes long =
      ap (zip2 at_most (replicate 16 count)) (zip2_splat minus bytes 16 (suc before) long)
      ∙ zip2_splat_left at_most count 16 (map (λ b. minus b (suc before)) bytes) (length-map bytes (λ b. minus b (suc before)) ∙ long)
      ∙ map-map (λ x. at_most count x) (λ b. minus b (suc before)) bytes

  mask-beyond : (bytes : List ℕ) → length bytes ≡ 16 → Each1 (Fits w8) bytes
      → mask_l (map (top 7) (zip2 at_most (replicate 16 count) (zip2 minus bytes (replicate 16 (suc before))))) % 2 ^ 64
      ≡ mask_l (map (is_beyond before count) bytes)
  mask-beyond bytes long fits =
      ap (λ l. mask_l l % 2 ^ 64) (ap (map (top 7)) (lanes_are bytes long) ∙ all_lanes bytes fits)
      ∙ mask_l-mod (map (is_beyond before count) bytes) 64 (omega (arith, length-map bytes (is_beyond before count)))

-- the same of so many from one on
abbrev pub is_outside : (first count b : ℕ) → Bool
is_outside first count b = not (is_within first (first - 1 + count) b)

pub mask-outside : (first count : ℕ) → 0 < first → first + count ≤ 0x100 → (bytes : List ℕ) → length bytes ≡ 16 → Each1 (Fits w8) bytes
    → mask_l (map (top 7) (zip2 at_most (replicate 16 count) (zip2 minus bytes (replicate 16 first)))) % 2 ^ 64
    ≡ mask_l (map (is_outside first count) bytes)
mask-outside zero count some few bytes long fits = absurd (omega (arith, some))
mask-outside (suc before) count some few bytes long fits =
    let last : before ≡ suc before - 1 = omega arith in
    mask-beyond before count (omega (arith, few)) bytes long fits ∙ ap (λ n. mask_l (map (λ b. not (is_within (suc before) (n + count) b)) bytes)) last

-- whether a byte is a layout control, lane by lane
abbrev hit : ℕ → ℕ → ℕ
hit a b = cond (eqb a b) 255 0

abbrev any_of_three : Bool → Bool → Bool → ℕ
any_of_three s t u = bit_or (bit_or (cond s 255 0) (cond t 255 0)) (cond u 255 0)

abbrev layout_lane : ℕ → ℕ
layout_lane b = any_of_three (eqb b 0x09) (eqb b 0x0A) (eqb b 0x0D)

top-any : (s t u : Bool) → top 7 (any_of_three s t u) ≡ (s || t || u)
top-any true true true = refl
top-any true true false = refl
top-any true false true = refl
top-any true false false = refl
top-any false true true = refl
top-any false true false = refl
top-any false false true = refl
top-any false false false = refl

layout_lanes : (bytes : List ℕ) → map (top 7) (map layout_lane bytes) ≡ map is_layout bytes
layout_lanes [] = refl
layout_lanes (b ∷ bytes) = ap₂ (λ x xs. x ∷ xs) (top-any (eqb b 0x09) (eqb b 0x0A) (eqb b 0x0D)) (layout_lanes bytes)

pub mask-layouts : (bytes : List ℕ) → length bytes ≡ 16
    → mask_l (map (top 7) (zip2 bit_or (zip2 bit_or (zip2 hit bytes (replicate 16 0x09)) (zip2 hit bytes (replicate 16 0x0A))) (zip2 hit bytes (replicate 16 0x0D)))) % 2 ^ 64
    ≡ mask_l (map is_layout bytes)
mask-layouts bytes long =
    let is : (b : ℕ) → zip2 hit bytes (replicate 16 b) ≡ map (λ x. hit x b) bytes = λ b. zip2_splat hit bytes 16 b long in
    let two = zip2_of_maps bit_or (λ x. hit x 0x09) (λ x. hit x 0x0A) bytes (is 0x09) (is 0x0A) in
    let three = zip2_of_maps bit_or (λ x. bit_or (hit x 0x09) (hit x 0x0A)) (λ x. hit x 0x0D) bytes two (is 0x0D) in
    ap (λ l. mask_l l % 2 ^ 64) (ap (map (top 7)) three ∙ layout_lanes bytes)
    ∙ mask_l-mod (map is_layout bytes) 64 (omega (arith, length-map bytes is_layout))

-- the bytes that are not printed are layout controls and those that stand in no text
one_part : (printed layout : Bool) → (layout ≡ true → printed ≡ false) → cond (not printed) 1 0 ≡ cond layout 1 0 + cond (not (printed || layout)) 1 0
one_part true true apart = absurd (false≢true (sym (apart refl)))
one_part true false apart = refl
one_part false true apart = refl
one_part false false apart = refl

unprinted-layout : (b : ℕ) → is_layout b ≡ true → is_within 0x20 0x7F b ≡ false
unfolding is_within
unprinted-layout b is = ap (λ t. t && nat_le b 0x7F) (lt-leb 0x20 b (omega (arith, layout-low b is)))

mask-parts : (bytes : List ℕ) → mask_l (map (is_outside 0x20 0x60) bytes) ≡ mask_l (map is_layout bytes) + mask_l (map (λ b. not (is_text_byte b)) bytes)
mask-parts [] = refl
mask-parts (b ∷ bytes) =
    omega (arith, mask-parts bytes, one_part (is_within 0x20 0x7F b) (is_layout b) (unprinted-layout b))

module _ (bytes : List ℕ) (unprinted layouts : ℕ) (are_unprinted : unprinted ≡ mask_l (map (is_outside 0x20 0x60) bytes)) (are_layouts : layouts ≡ mask_l (map is_layout bytes)) where
  pub layouts-le : layouts ≤ unprinted
  layouts-le = omega (arith, mask-parts bytes, are_unprinted, are_layouts)

  pub others-mask : unprinted - layouts ≡ mask_l (map (λ b. not (is_text_byte b)) bytes)
  others-mask = omega (arith, mask-parts bytes, are_unprinted, are_layouts)

-- how many bytes come before the first that does not pass a test
pub prefix_len-le : (test : ℕ → Bool) (bytes : List ℕ) → prefix_len test bytes ≤ length bytes
prefix_len-le test [] = omega arith
prefix_len-le test (b ∷ bytes) = by (prefix_len-le test bytes) (test b)
  where
    by : prefix_len test bytes ≤ length bytes → (t : Bool) → cond t (1 + prefix_len test bytes) 0 ≤ length (b ∷ bytes)
    by rest true = omega (arith, rest)
    by rest false = omega arith

-- where all come before it, each passes
each_of_prefix : (test : ℕ → Bool) (bytes : List ℕ) → prefix_len test bytes ≡ length bytes → EachIs test bytes
each_of_prefix test [] all = tt
each_of_prefix test (b ∷ bytes) all = by (each_of_prefix test bytes) (test b) refl all
  where
    by : (prefix_len test bytes ≡ length bytes → EachIs test bytes) → (t : Bool) → test b ≡ t
        → cond t (1 + prefix_len test bytes) 0 ≡ length (b ∷ bytes) → EachIs test (b ∷ bytes)
    by rest true is more = (is, rest (omega (arith, more)))
    by rest false is more = absurd (omega (arith, more))

-- these pass
pub EachIs-prefix : (test : ℕ → Bool) (bytes : List ℕ) → EachIs test (take (prefix_len test bytes) bytes)
EachIs-prefix test [] = tt
EachIs-prefix test (b ∷ bytes) = by (EachIs-prefix test bytes) (test b) refl
  where
    by : EachIs test (take (prefix_len test bytes) bytes) → (t : Bool) → test b ≡ t → EachIs test (take (cond t (1 + prefix_len test bytes) 0) (b ∷ bytes))
    by rest true is =
        let counted : suc (prefix_len test bytes) ≡ 1 + prefix_len test bytes = omega arith in
        subst (λ k. EachIs test (take k (b ∷ bytes))) counted (is, rest)
    by rest false is = tt

-- those before the first that passes another test
module _ (other : ℕ → Bool) where
  pub prefix_len-lt : (bytes : List ℕ) → mask_l (map other bytes) ≢ 0 → prefix_len (λ b. not (other b)) bytes < length bytes
  prefix_len-lt [] some = absurd (some refl)
  prefix_len-lt (b ∷ bytes) some = by (other b) (prefix_len-lt bytes) some
    where
      by : (t : Bool) → (mask_l (map other bytes) ≢ 0 → prefix_len (λ x. not (other x)) bytes < length bytes)
          → cond t 1 0 + 2 * mask_l (map other bytes) ≢ 0 → cond (not t) (1 + prefix_len (λ x. not (other x)) bytes) 0 < length (b ∷ bytes)
      by true rest more = omega arith
      by false rest more = let shorter = rest (λ none. more (omega (arith, none))) in omega (arith, shorter)

  module _ (bytes : List ℕ) (mask : ℕ) (long : length bytes ≡ 16) (is : mask ≡ mask_l (map other bytes)) where
    counted : cond (eqb mask 0) 16 (count_trailing_zeros 64 mask) ≡ prefix_len (λ b. not (other b)) bytes
    counted = ap (λ m. cond (eqb m 0) 16 (count_trailing_zeros 64 m)) is ∙ first_set_mask_l other bytes 16 long (omega arith)

    pub before_lowest : mask ≢ 0 → count_trailing_zeros 64 mask ≡ prefix_len (λ b. not (other b)) bytes
    before_lowest some = sym (cond-false (eqb mask 0) 16 (count_trailing_zeros 64 mask) (ne_eqb mask 0 some)) ∙ counted

    pub lowest-lt : mask ≢ 0 → count_trailing_zeros 64 mask < length bytes
    lowest-lt some = omega (arith, before_lowest some, prefix_len-lt bytes (λ none. some (is ∙ none)))

    pub each_before_lowest : mask ≢ 0 → EachIs (λ b. not (other b)) (take (count_trailing_zeros 64 mask) bytes)
    each_before_lowest some =
        subst (λ n. EachIs (λ b. not (other b)) (take n bytes)) (sym (before_lowest some)) (EachIs-prefix (λ b. not (other b)) bytes)

    pub each_before : mask ≡ 0 → EachIs (λ b. not (other b)) bytes
    each_before none =
        each_of_prefix (λ b. not (other b)) bytes (sym counted ∙ cond-true (eqb mask 0) 16 (count_trailing_zeros 64 mask) (eq-eqb mask 0 none) ∙ sym long)

each_as : (test same : ℕ → Bool) → ((b : ℕ) → same b ≡ test b) → (bytes : List ℕ) → EachIs test bytes → EachIs same bytes
each_as test same are_same [] are = tt
each_as test same are_same (b ∷ bytes) are = (are_same b ∙ are.0, each_as test same are_same bytes are.1)

-- those that do not pass, by a test that answers the same
pub others-as : (test same : ℕ → Bool) → ((b : ℕ) → same b ≡ test b) → (bytes : List ℕ) → map (λ b. not (test b)) bytes ≡ map (λ b. not (same b)) bytes
others-as test same are_same [] = refl
others-as test same are_same (b ∷ bytes) = ap₂ (λ x xs. not x ∷ xs) (sym (are_same b)) (others-as test same are_same bytes)

-- the same by a mask of those that do not pass a test
not-not : (t : Bool) → not (not t) ≡ t
not-not true = refl
not-not false = refl

module _ (test : ℕ → Bool) (bytes : List ℕ) (mask : ℕ) (long : length bytes ≡ 16) (is : mask ≡ mask_l (map (λ b. not (test b)) bytes)) where
  passes : (passed : List ℕ) → EachIs (λ b. not (not (test b))) passed → EachIs test passed
  passes = each_as (λ b. not (not (test b))) test (λ b. sym (not-not (test b)))

  pub lowest_within : mask ≢ 0 → count_trailing_zeros 64 mask < length bytes
  lowest_within = lowest-lt (λ b. not (test b)) bytes mask long is

  pub each_to_lowest : mask ≢ 0 → EachIs test (take (count_trailing_zeros 64 mask) bytes)
  each_to_lowest some = passes _ (each_before_lowest (λ b. not (test b)) bytes mask long is some)

  pub each_passes : mask ≡ 0 → EachIs test bytes
  each_passes none = passes bytes (each_before (λ b. not (test b)) bytes mask long is none)

-- whether a byte is not of a command's plain text, lane by lane
abbrev below : ℕ → ℕ → ℕ
below a b = cond (ltb a b) 255 0

abbrev unplain_lane : ℕ → ℕ
unplain_lane b = bit_or (below b 0x20) (hit b 0x3B)

top-either : (s t : Bool) → top 7 (bit_or (cond s 255 0) (cond t 255 0)) ≡ (s || t)
top-either true true = refl
top-either true false = refl
top-either false true = refl
top-either false false = refl

is_unplain : (b : ℕ) → b < 256 → (ltb b 0x20 || eqb b 0x3B) ≡ not (is_plain_text b)
unfolding is_within
is_unplain b small = grind (arith, small)

unplain_lanes : (bytes : List ℕ) → Each1 (Fits w8) bytes → map (top 7) (map unplain_lane bytes) ≡ map (λ b. not (is_plain_text b)) bytes
unplain_lanes [] fits = refl
unplain_lanes (b ∷ bytes) fits =
    ap₂ (λ x xs. x ∷ xs) (top-either (ltb b 0x20) (eqb b 0x3B) ∙ is_unplain b fits.0.fits) (unplain_lanes bytes fits.1)

pub mask-unplain : (bytes : List ℕ) → length bytes ≡ 16 → Each1 (Fits w8) bytes
    → mask_l (map (top 7) (zip2 bit_or (zip2 below bytes (replicate 16 0x20)) (zip2 hit bytes (replicate 16 0x3B)))) % 2 ^ 64
    ≡ mask_l (map (λ b. not (is_plain_text b)) bytes)
mask-unplain bytes long fits =
    let two = zip2_of_maps bit_or (λ x. below x 0x20) (λ x. hit x 0x3B) bytes (zip2_splat below bytes 16 0x20 long) (zip2_splat hit bytes 16 0x3B long) in
    ap (λ l. mask_l l % 2 ^ 64) (ap (map (top 7)) two ∙ unplain_lanes bytes fits)
    ∙ mask_l-mod (map (λ b. not (is_plain_text b)) bytes) 64 (omega (arith, length-map bytes (λ b. not (is_plain_text b))))
