-- Many bytes, tested at once.
use Rattle.std.proofs.Common.{◌≡◌, ◌≤◌, ◌+◌, ◌-◌, ◌*◌, ◌||◌, bit_or, ℕ, zero, suc, ◌%◌, ◌^◌, Bool, true, false, cond, eqb, eqb-true, leb, ltb, ◌<◌, List, [], ◌∷◌, length, take, drop, map, replicate, refl, sym, ap, ap₂, ◌∙◌, subst, take-append-drop, IsTrue, arith}
use Rattle.std.specs.Prelude.{not}
use Rattle.std.specs.List.{prefix_len}
use Rattle.std.specs.Simd.Lanes.{zip2, sel_l, mask_l, top}
use Rattle.std.proofs.lemmas.Bool.{false≢true, leb-true, leb-false, ltb-true, not-true}
use Rattle.std.proofs.lemmas.List.{length-map, drop-drop}
use Rattle.std.proofs.lemmas.Simd.{zip2_splat, zip2_of_maps, splat_is_map, mask_l-mod, first_set_mask_l}
use Rattle.anstyle_parse.specs.Stream.Items.{EachIs}
use Rattle.anstyle_parse.proofs.Bytes.Passing.{EachIs-append, EachIs-weaker}
use Rattle.ansi_strip.specs.Driving.{may_begin_driving, is_clear}
use lib.Count.{count_trailing_zeros}

-- a lane of a comparison
abbrev hit : ℕ → ℕ → ℕ
hit a b = cond (eqb a b) 255 0

top-lane : (t : Bool) → top 7 (cond t 255 0) ≡ t
top-lane true = refl
top-lane false = refl

top-either : (s t : Bool) → top 7 (bit_or (cond s 255 0) (cond t 255 0)) ≡ (s || t)
top-either true true = refl
top-either true false = refl
top-either false true = refl
top-either false false = refl

beginning-lanes : (bytes : List ℕ) → map (top 7) (map (λ b. bit_or (hit b 0x7F) (hit b 0xC2)) bytes) ≡ map may_begin_driving bytes
unfolding may_begin_driving
beginning-lanes [] = refl
beginning-lanes (b ∷ bytes) = ap₂ (λ x xs. x ∷ xs) (top-either (eqb b 0x7F) (eqb b 0xC2)) (beginning-lanes bytes)

pub mask-beginnings : (n : ℕ) → n ≤ 64 → (bytes : List ℕ) → length bytes ≡ n
    → mask_l (map (top 7) (zip2 bit_or (zip2 hit bytes (replicate n 0x7F)) (zip2 hit bytes (replicate n 0xC2)))) % 2 ^ 64
    ≡ mask_l (map may_begin_driving bytes)
mask-beginnings n few bytes long =
    let both = zip2_of_maps bit_or (λ b. hit b 0x7F) (λ b. hit b 0xC2) bytes (zip2_splat hit bytes n 0x7F long) (zip2_splat hit bytes n 0xC2 long) in
    ap (λ l. mask_l l % 2 ^ 64) (ap (map (top 7)) both ∙ beginning-lanes bytes)
    ∙ mask_l-mod (map may_begin_driving bytes) 64 (omega (arith, few, long, length-map bytes may_begin_driving))

-- where no bit is set, none passes the test: all are clear
pub each-unset : (test : ℕ → Bool) (bytes : List ℕ) → mask_l (map test bytes) ≡ 0 → EachIs (λ b. not (test b)) bytes
each-unset test [] none = tt
each-unset test (b ∷ bytes) none = by (each-unset test bytes) (test b) refl none
  where
    by : (mask_l (map test bytes) ≡ 0 → EachIs (λ c. not (test c)) bytes) → (t : Bool) → test b ≡ t
        → cond t 1 0 + 2 * mask_l (map test bytes) ≡ 0 → EachIs (λ c. not (test c)) (b ∷ bytes)
    by rest true is some = absurd (omega (arith, some))
    by rest false is none = (ap not is, rest (omega (arith, none)))

pub clear-unset : (bytes : List ℕ) → mask_l (map may_begin_driving bytes) ≡ 0 → EachIs is_clear bytes
clear-unset bytes none = each-unset may_begin_driving bytes none

-- whether two bytes are clear: where, with FF taken off, neither is 80 or more
abbrev minus : ℕ → ℕ → ℕ
minus a b = (a + (256 - b)) % 256

abbrev at_most : ℕ → ℕ → ℕ
at_most a b = cond (leb a b) 255 0

abbrev lane : ℕ → ℕ
lane b = at_most 0x80 (minus b 0xFF)

clear-lane : (b : ℕ) → leb 0x80 (minus b 0xFF) ≡ false → is_clear b ≡ true
unfolding may_begin_driving
clear-lane b low = by (eqb b 0x7F) refl (eqb b 0xC2) refl
  where
    by : (s : Bool) → eqb b 0x7F ≡ s → (t : Bool) → eqb b 0xC2 ≡ t → not (s || t) ≡ true
    by true is t e = absurd (false≢true (sym low ∙ ap (λ x. leb 0x80 (minus x 0xFF)) (eqb-true b 0x7F is)))
    by false is true e = absurd (false≢true (sym low ∙ ap (λ x. leb 0x80 (minus x 0xFF)) (eqb-true b 0xC2 e)))
    by false is false e = refl

-- whether the larger of two bytes is 7F or more: where it is not, both are clear
low-clear : (b : ℕ) → b < 0x7F → is_clear b ≡ true
unfolding may_begin_driving
low-clear b low = by (eqb b 0x7F) refl (eqb b 0xC2) refl
  where
    by : (s : Bool) → eqb b 0x7F ≡ s → (t : Bool) → eqb b 0xC2 ≡ t → not (s || t) ≡ true
    by true is t e = absurd (omega (arith, low, eqb-true b 0x7F is))
    by false is true e = absurd (omega (arith, low, eqb-true b 0xC2 e))
    by false is false e = refl

abbrev larger : List ℕ → List ℕ → List ℕ
larger firsts lasts = sel_l (map (top 7) (zip2 (λ a b. cond (ltb a b) 255 0) firsts lasts)) lasts firsts

abbrev reaching : ℕ → List ℕ → List ℕ → List Bool
reaching n firsts lasts = map (top 7) (zip2 at_most (replicate n 0x7F) (larger firsts lasts))

one_clear : (s : Bool) (rest : ℕ) → cond s 1 0 + 2 * rest ≡ 0 → (s ≡ false) × (rest ≡ 0)
one_clear true rest none = absurd (omega (arith, none))
one_clear false rest none = (refl, omega (arith, none))

both-low : (a b : ℕ) → leb 0x7F (cond (top 7 (cond (ltb a b) 255 0)) b a) ≡ false → (a < 0x7F) × (b < 0x7F)
both-low a b low = by (ltb a b) refl (leb-false 0x7F (cond (top 7 (cond (ltb a b) 255 0)) b a) low)
  where
    by : (t : Bool) → ltb a b ≡ t → cond (top 7 (cond t 255 0)) b a < 0x7F → (a < 0x7F) × (b < 0x7F)
    by true is few = let under = ltb-true a b is in (omega (arith, under, few), few)
    by false is few = let over = leb-false (suc a) b is in (few, omega (arith, over, few))

both_clear : (firsts lasts : List ℕ) → length firsts ≡ length lasts → mask_l (reaching (length firsts) firsts lasts) ≡ 0 → EachIs is_clear firsts × EachIs is_clear lasts
both_clear [] [] same none = (tt, tt)
both_clear [] (b ∷ lasts) same none = absurd (omega (arith, same))
both_clear (a ∷ firsts) [] same none = absurd (omega (arith, same))
both_clear (a ∷ firsts) (b ∷ lasts) same none =
    let test = leb 0x7F (cond (top 7 (cond (ltb a b) 255 0)) b a) in
    let parts = one_clear test (mask_l (reaching (length firsts) firsts lasts))
    (sym (ap (λ t. cond t 1 0 + 2 * mask_l (reaching (length firsts) firsts lasts)) (top-lane test)) ∙ none) in
    let low = both-low a b parts.0 in
    let rest = both_clear firsts lasts (omega (arith, same)) parts.1 in
    ((low-clear a low.0, rest.0), (low-clear b low.1, rest.1))

length-reaching : (n : ℕ) (firsts lasts : List ℕ) → length (reaching n firsts lasts) ≤ n
length-reaching zero firsts lasts = omega arith
length-reaching (suc n) [] lasts = omega arith
length-reaching (suc n) (a ∷ firsts) [] = omega arith
length-reaching (suc n) (a ∷ firsts) (b ∷ lasts) = let rest = length-reaching n firsts lasts in omega (arith, rest)

pub ends-clear : (n : ℕ) → n ≤ 64 → (first last : List ℕ) → length first ≡ n → length last ≡ n
    → mask_l (reaching n first last) % 2 ^ 64 ≡ 0 → EachIs is_clear first × EachIs is_clear last
ends-clear n few first last one two none =
    let short = length-reaching n first last in
    both_clear first last (one ∙ sym two)
    (ap (λ k. mask_l (reaching k first last)) one ∙ sym (mask_l-mod (reaching n first last) 64 (omega (arith, few, short))) ∙ none)

-- what holds of both ends of bytes holds of all, where the ends meet
EachIs-drop : (test : ℕ → Bool) (n : ℕ) (bytes : List ℕ) → EachIs test bytes → EachIs test (drop n bytes)
EachIs-drop test zero bytes each = each
EachIs-drop test (suc n) [] each = tt
EachIs-drop test (suc n) (b ∷ bytes) each = EachIs-drop test n bytes each.1

pub each_of_ends : (test : ℕ → Bool) (n : ℕ) (bytes : List ℕ) → n ≤ length bytes → length bytes ≤ 2 * n → EachIs test (take n bytes) → EachIs test (drop (length bytes - n) bytes)
    → EachIs test bytes
each_of_ends test n bytes low high front back =
    let place : (length bytes - n) + (n - (length bytes - n)) ≡ n = omega (arith, low, high) in
    let behind = subst (EachIs test) (drop-drop (n - (length bytes - n)) (length bytes - n) bytes ∙ ap (λ k. drop k bytes) place)
    (EachIs-drop test (n - (length bytes - n)) (drop (length bytes - n) bytes) back) in
    subst (EachIs test) (take-append-drop n bytes) (EachIs-append test (take n bytes) (drop n bytes) front behind)

-- The first of sixteen bytes are clear, where no bit for one of them is set.
abbrev unclear : ℕ → Bool
unclear b = leb 0x80 (minus b 0xFF)

unclear_lanes : (bytes : List ℕ) → map (top 7) (map lane bytes) ≡ map unclear bytes
unclear_lanes [] = refl
unclear_lanes (b ∷ bytes) = ap₂ (λ x xs. x ∷ xs) (top-lane (unclear b)) (unclear_lanes bytes)

each_clear : (bytes : List ℕ) → EachIs (λ b. not (unclear b)) bytes → EachIs is_clear bytes
each_clear = EachIs-weaker (λ b. not (unclear b)) is_clear (λ b is. clear-lane b (not-true (unclear b) is))

each_before : (test : ℕ → Bool) (bytes : List ℕ) (count : ℕ) → count ≤ prefix_len test bytes → EachIs test (take count bytes)
each_before test bytes zero few = tt
each_before test [] (suc count) few = tt
each_before test (b ∷ bytes) (suc count) few = by (each_before test bytes count) (test b) refl few
  where
    by : (count ≤ prefix_len test bytes → EachIs test (take count bytes)) → (t : Bool) → test b ≡ t
        → suc count ≤ cond t (1 + prefix_len test bytes) 0 → EachIs test (b ∷ take count bytes)
    by rest true is more = (is, rest (omega (arith, more)))
    by rest false is more = absurd (omega (arith, more))

pub front-clear : (bytes : List ℕ) → length bytes ≡ 16 → (count : ℕ) → count ≤ 16
    → IsTrue (leb count (count_trailing_zeros 64 (mask_l (map (top 7) (zip2 at_most (replicate 16 0x80) (zip2 minus bytes (replicate 16 0xFF)))) % 2 ^ 64)))
    → EachIs is_clear (take count bytes)
front-clear bytes long count few before =
    let lanes = zip2_of_maps at_most (λ b. 0x80) (λ b. minus b 0xFF) bytes (splat_is_map bytes 16 0x80 long) (zip2_splat minus bytes 16 0xFF long) in
    let is = ap (λ l. mask_l l % 2 ^ 64) (ap (map (top 7)) lanes ∙ unclear_lanes bytes)
    ∙ mask_l-mod (map unclear bytes) 64 (omega (arith, long, length-map bytes unclear)) in
    let unset = subst (λ mask. IsTrue (leb count (count_trailing_zeros 64 mask))) is before in
    each_clear (take count bytes) (each_before (λ b. not (unclear b)) bytes count
    (subst (λ k. count ≤ k) (first_set_mask_l unclear bytes 16 long (omega arith)) (by (eqb (mask_l (map unclear bytes)) 0) (leb-true count _ unset))))
  where
    by : (t : Bool) → count ≤ count_trailing_zeros 64 (mask_l (map unclear bytes)) → count ≤ cond t 16 (count_trailing_zeros 64 (mask_l (map unclear bytes)))
    by true unset = few
    by false unset = unset
