-- Groups that are cut from fields by a mask of their starts.
use Rattle.std.proofs.Common.{◌≡◌, ℕ, zero, suc, Bool, true, false, ◌+◌, ◌-◌, ◌*◌, ◌/◌, ◌%◌, ◌^◌, ◌<◌, ◌≤◌, List, [], ◌∷◌, ◌++◌, length, take, drop, set, cond, min, refl, map, sym, ap, ap₂, ◌∙◌, arith, ◌≢◌, length-append, length-drop}
use Rattle.std.specs.Prelude.{not, ◌==◌}
use Rattle.std.specs.List.{concat, prefix_len}
use Rattle.std.specs.Int.Bits.{bit_or, or_shifted_r}
use Rattle.std.specs.Int.Count.{count_trailing_zeros, trailing_of_zero}
use Rattle.std.specs.Int.RustNames.{count_ones}
use lib.Lanes.{mask_l}
use Rattle.std.proofs.Math.Nat.{mod-eq_of_lt, div-one, div-div-eq-div-mul, pow-succ'}
use Rattle.std.proofs.Math.Seq.{take-nil, drop-nil, drop-append_seam}
use Rattle.std.proofs.lemmas.List.{map-id, length-take-le, take-take, drop-drop, take-set-le, take_more_set, drop-set-add}
use Rattle.std.proofs.lemmas.List.Sums.{prefix_len-le-length}
use Rattle.std.proofs.lemmas.Nat.{pow_pos, pow_below, pow-add, div_below}
use Rattle.std.proofs.lemmas.Simd.{ones-mask_l_cons, trailing_mask_l}
use Rattle.anstyle_parse.specs.Stream.Groups.{cut_at, shown_groups, HaveFields}
use Rattle.anstyle_parse.specs.Views.Params.{starts_of}
use Rattle.anstyle_parse.proofs.Arguments.Lengths.{shown_groups-open}

-- so many numbers before the next start
abbrev run : List Bool → ℕ
run starts = prefix_len not starts

half-pow : (m a : ℕ) → m / 2 / 2 ^ a ≡ m / 2 ^ suc a
half-pow m a = div-div-eq-div-mul m 2 (2 ^ a) ∙ ap (λ d. m / d) (sym (pow-succ' 2 a))

length-starts_of : (n m : ℕ) → length (starts_of n m) ≡ n
length-starts_of zero m = refl
length-starts_of (suc n) m = ap suc (length-starts_of n (m / 2))

starts_of-add : (a b n m : ℕ) → n ≡ a + b → starts_of n m ≡ starts_of a m ++ starts_of b (m / 2 ^ a)
starts_of-add zero b n m e =
    let same : n ≡ b = omega arith in
    ap₂ starts_of same (sym (div-one m))
starts_of-add (suc a) b zero m e = absurd (omega arith)
starts_of-add (suc a) b (suc n) m e =
    ap (λ starts. (m % 2 == 1) ∷ starts)
    (starts_of-add a b n (m / 2) (omega arith) ∙ ap (λ high. starts_of a (m / 2) ++ starts_of b high) (half-pow m a))

-- a start past the others leaves them as they are
starts_of-above : (n m : ℕ) → starts_of n (m + 2 ^ n) ≡ starts_of n m
starts_of-above zero m = refl
starts_of-above (suc n) m =
    let double : 2 ^ suc n ≡ 2 * 2 ^ n = pow-succ' 2 n in
    let low : (m + 2 ^ suc n) % 2 ≡ m % 2 = omega arith in
    let high : (m + 2 ^ suc n) / 2 ≡ m / 2 + 2 ^ n = omega arith in
    ap₂ (λ digit starts. (digit == 1) ∷ starts) low (ap (starts_of n) high ∙ starts_of-above n (m / 2))

run-zero : (n : ℕ) → run (starts_of n 0) ≡ n
run-zero zero = refl
run-zero (suc n) = omega (arith, run-zero n)

cut_at-zero : (n : ℕ) (ns : List ℕ) → cut_at (starts_of n 0) ns ≡ []
cut_at-zero zero ns = refl
cut_at-zero (suc n) ns = cut_at-zero n (drop 1 ns)

run-start : (before after : List Bool) → run (before ++ true ∷ after) ≡ run before
run-start [] after = refl
run-start (true ∷ before) after = refl
run-start (false ∷ before) after = ap (λ n. 1 + n) (run-start before after)

drop-first : (k : ℕ) (ns : List ℕ) → drop k (drop 1 ns) ≡ drop (suc k) ns
drop-first k [] = drop-nil k
drop-first k (n ∷ ns) = refl

-- a start cuts the groups before it from those after
cut_at-append : (before after : List Bool) (ns : List ℕ)
    → cut_at (before ++ true ∷ after) ns ≡ cut_at before ns ++ cut_at (true ∷ after) (drop (length before) ns)
cut_at-append [] after ns = refl
cut_at-append (true ∷ before) after ns =
    ap₂ (λ k gs. take (suc k) ns ∷ gs) (run-start before after)
    (cut_at-append before after (drop 1 ns) ∙ ap (λ xs. cut_at before (drop 1 ns) ++ cut_at (true ∷ after) xs) (drop-first (length before) ns))
cut_at-append (false ∷ before) after ns =
    cut_at-append before after (drop 1 ns) ∙ ap (λ xs. cut_at before (drop 1 ns) ++ cut_at (true ∷ after) xs) (drop-first (length before) ns)

-- the group of the last start
pub cut_at-last : (c k n m : ℕ) (ns : List ℕ) → m / 2 ^ c ≡ 1 → n ≡ c + suc k
    → cut_at (starts_of n m) ns ≡ cut_at (starts_of c m) ns ++ take (suc k) (drop c ns) ∷ []
cut_at-last c k n m ns high e =
    ap (λ starts. cut_at starts ns) (starts_of-add c (suc k) n m e ∙ ap (λ h. starts_of c m ++ starts_of (suc k) h) high)
    ∙ (cut_at-append (starts_of c m) (starts_of k 0) ns
    ∙ (ap (λ i. cut_at (starts_of c m) ns ++ cut_at (true ∷ starts_of k 0) (drop i ns)) (length-starts_of c m)
    ∙ ap₂ (λ i gs. cut_at (starts_of c m) ns ++ take (suc i) (drop c ns) ∷ gs) (run-zero k) (cut_at-zero k (drop 1 (drop c ns)))))

take-first : (k : ℕ) (ns : List ℕ) → drop 1 (take (suc k) ns) ≡ take k (drop 1 ns)
take-first k [] = sym (take-nil k)
take-first k (n ∷ ns) = refl

-- only the numbers that have a place in the mask matter
cut_at-same : (starts : List Bool) (ns ms : List ℕ) → take (length starts) ns ≡ take (length starts) ms → cut_at starts ns ≡ cut_at starts ms
cut_at-same [] ns ms h = refl
cut_at-same (true ∷ starts) ns ms h =
    let few = prefix_len-le-length not starts in
    let front : take (suc (run starts)) ns ≡ take (suc (run starts)) ms
    = sym (take-take (suc (run starts)) (suc (length starts)) ns (omega (arith, few)))
    ∙ (ap (take (suc (run starts))) h ∙ take-take (suc (run starts)) (suc (length starts)) ms (omega (arith, few))) in
    ap₂ (λ g gs. g ∷ gs) front
    (cut_at-same starts (drop 1 ns) (drop 1 ms) (sym (take-first (length starts) ns) ∙ (ap (drop 1) h ∙ take-first (length starts) ms)))
cut_at-same (false ∷ starts) ns ms h =
    cut_at-same starts (drop 1 ns) (drop 1 ms) (sym (take-first (length starts) ns) ∙ (ap (drop 1) h ∙ take-first (length starts) ms))

pub cut_at-front : (n m : ℕ) (ns ms : List ℕ) → take n ns ≡ take n ms → cut_at (starts_of n m) ns ≡ cut_at (starts_of n m) ms
cut_at-front n m ns ms h = cut_at-same (starts_of n m) ns ms (rw (length-starts_of n m) h)

-- the open group stands last
pub cut_at-shown : (more c n m : ℕ) (ns : List ℕ) → n ≡ c + more → (0 < more → m / 2 ^ c ≡ 1) → n ≤ length ns
    → cut_at (starts_of n m) ns ≡ shown_groups (cut_at (starts_of c m) ns) (take more (drop c ns))
cut_at-shown zero c n m ns e last bound = let same : n ≡ c = omega arith in ap (λ k. cut_at (starts_of k m) ns) same
cut_at-shown (suc k) c n m ns e last bound =
    let some : 0 < length (take (suc k) (drop c ns)) = omega (arith, length-take-le (suc k) (drop c ns) (omega (arith, length-drop c ns))) in
    cut_at-last c k n m ns (last (omega arith)) e ∙ sym (shown_groups-open (cut_at (starts_of c m) ns) (take (suc k) (drop c ns)) some)

-- the numbers from the first start on are in the groups
fields_from_start : (starts : List Bool) (ns : List ℕ) → length starts ≤ length ns → length (concat (cut_at starts ns)) + run starts ≡ length starts
fields_from_start [] ns h = refl
fields_from_start (true ∷ starts) ns h =
    omega (
      arith,
      length-append (take (suc (run starts)) ns) (concat (cut_at starts (drop 1 ns))),
      length-take-le (suc (run starts)) ns (omega (arith, prefix_len-le-length not starts)),
      fields_from_start starts (drop 1 ns) (omega (arith, length-drop 1 ns)),
    )
fields_from_start (false ∷ starts) ns h = omega (arith, fields_from_start starts (drop 1 ns) (omega (arith, length-drop 1 ns)))

run-first : (n m : ℕ) → (0 < n → m % 2 ≡ 1) → run (starts_of n m) ≡ 0
run-first zero m h = refl
run-first (suc n) m h = ap (λ digit. run ((digit == 1) ∷ starts_of n (m / 2))) (h (omega arith))

pub field_count : (n m : ℕ) (ns : List ℕ) → n ≤ length ns → (0 < n → m % 2 ≡ 1) → length (concat (cut_at (starts_of n m) ns)) ≡ n
field_count n m ns bound first =
    omega (arith, fields_from_start (starts_of n m) ns (omega (arith, length-starts_of n m)), run-first n m first, length-starts_of n m)

-- the fields of the closed groups and of the open one
pub field_total : (more n m : ℕ) (ns : List ℕ) → more ≤ n → n ≤ length ns → (0 < n → m % 2 ≡ 1)
    → length (concat (cut_at (starts_of (n - more) m) ns)) + length (take more (drop (n - more) ns)) ≡ n
field_total more n m ns within bound first =
    omega (
      arith,
      field_count (n - more) m ns (omega arith) (λ some. first (omega arith)),
      length-take-le more (drop (n - more) ns) (omega (arith, length-drop (n - more) ns)),
    )

HaveFields-cut_at : (starts : List Bool) (ns : List ℕ) → length starts ≤ length ns → HaveFields (cut_at starts ns)
HaveFields-cut_at [] ns h = tt
HaveFields-cut_at (true ∷ starts) ns h = (
  omega (arith, length-take-le (suc (run starts)) ns (omega (arith, prefix_len-le-length not starts))),
  HaveFields-cut_at starts (drop 1 ns) (omega (arith, length-drop 1 ns)),
)
HaveFields-cut_at (false ∷ starts) ns h = HaveFields-cut_at starts (drop 1 ns) (omega (arith, length-drop 1 ns))

pub HaveFields-starts_of : (n m : ℕ) (ns : List ℕ) → n ≤ length ns → HaveFields (cut_at (starts_of n m) ns)
HaveFields-starts_of n m ns h = HaveFields-cut_at (starts_of n m) ns (omega (arith, length-starts_of n m))

-- one field more: the mask has a start above the others, or stays as it is
above-high : (n m : ℕ) → m < 2 ^ n → (m + 2 ^ n) / 2 ^ n ≡ 1
above-high zero m h = let none : m ≡ 0 = omega arith in ap (λ k. (k + 1) / 1) none
above-high (suc n) m h =
    let double : 2 ^ suc n ≡ 2 * 2 ^ n = pow-succ' 2 n in
    let high : (m + 2 ^ suc n) / 2 ≡ m / 2 + 2 ^ n = omega arith in
    sym (half-pow (m + 2 ^ suc n) n) ∙ (ap (λ k. k / 2 ^ n) high ∙ above-high n (m / 2) (omega arith))

new_start : (n m bit : ℕ) → m < 2 ^ n → bit ≡ 2 ^ n → bit_or m bit ≡ m + 2 ^ n
new_start n m bit h is = ap (bit_or m) is ∙ (ap (bit_or m) power ∙ (or_shifted_r 1 n m h ∙ omega arith))
  where
    power : 2 ^ n ≡ 1 * 2 ^ n
    power = omega arith

pub bit_below : (n : ℕ) → n < 32 → 1 * 2 ^ n % 2 ^ 32 ≡ 2 ^ n
bit_below n lt = let below : 2 ^ n < 2 ^ 32 = pow_below n 32 lt in mod-eq_of_lt (omega arith) ∙ omega arith

pub wide_bit_below : (n : ℕ) → n < 64 → 1 * 2 ^ n % 2 ^ 64 ≡ 2 ^ n
wide_bit_below n lt = let below : 2 ^ n < 2 ^ 64 = pow_below n 64 lt in mod-eq_of_lt (omega arith) ∙ omega arith

cut_at-set : (c m i item : ℕ) (ns : List ℕ) → c ≤ i → cut_at (starts_of c m) (set ns i item) ≡ cut_at (starts_of c m) ns
cut_at-set c m i item ns h = cut_at-front c m (set ns i item) ns (take-set-le c ns i item h)

take_longer : (c k item : ℕ) (ns : List ℕ) → c + k < length ns → take (k + 1) (drop c (set ns (c + k) item)) ≡ take k (drop c ns) ++ item ∷ []
take_longer c k item ns h =
    ap (take (k + 1)) (drop-set-add c ns k item) ∙ take_more_set (drop c ns) k item (omega (arith, length-drop c ns))

pub open_extended : (n c more item : ℕ) (ns : List ℕ) → n ≡ c + more → n < length ns → take (more + 1) (drop c (set ns n item)) ≡ take more (drop c ns) ++ item ∷ []
open_extended n c more item ns e h = ap (λ i. take (more + 1) (drop c (set ns i item))) e ∙ take_longer c more item ns (omega arith)

pub closed_same : (n c m item : ℕ) (ns : List ℕ) → c ≤ n → cut_at (starts_of c m) (set ns n item) ≡ cut_at (starts_of c m) ns
closed_same n c m item ns h = cut_at-set c m n item ns h

-- the mask with a field more: the last group begins at c, and the starts before are as they were
pub record Grown (n c before after : ℕ) : Type 0 where
  pub high : after / 2 ^ c ≡ 1
  pub low : starts_of c after ≡ starts_of c before
  pub below : after < 2 ^ (n + 1)
  pub first : after % 2 ≡ 1

double : (n : ℕ) → 2 ^ (n + 1) ≡ 2 * 2 ^ n
double n = let e : n + 1 ≡ suc n = omega arith in ap (λ k. 2 ^ k) e ∙ pow-succ' 2 n

first_of_more : (n m : ℕ) → m < 2 ^ n → (0 < n → m % 2 ≡ 1) → (m + 2 ^ n) % 2 ≡ 1
first_of_more zero m h first = omega arith
first_of_more (suc n) m h first = omega (arith, pow-succ' 2 n, first (omega arith))

pub grown-new : (n more m bit : ℕ) → more ≡ 0 → m < 2 ^ n → (0 < n → m % 2 ≡ 1) → bit ≡ 2 ^ n → Grown n (n - more) m (bit_or m bit)
grown-new n more m bit none h first is =
    let mask = new_start n m bit h is in
    let place : n - more ≡ n = omega arith in
    record {
      high = ap₂ (λ k c. k / 2 ^ c) mask place ∙ above-high n m h;
      low = ap₂ (λ k c. starts_of c k) mask place ∙ (starts_of-above n m ∙ ap (λ c. starts_of c m) (sym place));
      below = omega (arith, mask, double n);
      first = ap (λ k. k % 2) mask ∙ first_of_more n m h first;
    }

pub grown-same : (n more m : ℕ) → 0 < more → more ≤ n → m < 2 ^ n → (0 < n → m % 2 ≡ 1) → m / 2 ^ (n - more) ≡ 1 → Grown n (n - more) m m
grown-same n more m some within h first high =
    record { high = high; low = refl; below = omega (arith, double n); first = first (omega arith) }

-- how many groups: as many as the mask has bits
starts_of-mask : (n m : ℕ) → m < 2 ^ n → mask_l (starts_of n m) ≡ m
starts_of-mask zero m h = omega arith
starts_of-mask (suc n) m h =
    let half = starts_of-mask n (m / 2) (omega (arith, pow-succ' 2 n)) in
    let digit = digit_of (m % 2) (omega arith) in
    omega (arith, half, digit)
  where
    digit_of : (d : ℕ) → d < 2 → cond (d == 1) 1 0 ≡ d
    digit_of zero h = refl
    digit_of (suc zero) h = refl
    digit_of (suc (suc d)) h = absurd (omega arith)

ones_of : (starts : List Bool) (ns : List ℕ) → count_ones (mask_l starts) ≡ length (cut_at starts ns)
unfolding count_ones
ones_of [] ns = refl
ones_of (true ∷ starts) ns = ones-mask_l_cons true starts ∙ omega (arith, ones_of starts (drop 1 ns))
ones_of (false ∷ starts) ns = ones-mask_l_cons false starts ∙ omega (arith, ones_of starts (drop 1 ns))

pub group_count : (n m : ℕ) (ns : List ℕ) → m < 2 ^ n → count_ones m ≡ length (cut_at (starts_of n m) ns)
group_count n m ns h = ap count_ones (sym (starts_of-mask n m h)) ∙ ones_of (starts_of n m) ns

-- the bits from a place on
pub high_below : (n place m : ℕ) → place ≤ n → m < 2 ^ n → m / 2 ^ place < 2 ^ (n - place)
high_below n place m h lt =
    let e : n ≡ (n - place) + place = omega arith in
    div_below m (2 ^ place) (2 ^ (n - place)) (pow_pos place) (omega (arith, ap (λ k. 2 ^ k) e, pow-add 2 (n - place) place))

-- the next group ends before the lowest start above its own
pub run_trailing : (n m : ℕ) → n ≤ 32 → m < 2 ^ n → min (count_trailing_zeros 32 m) n ≡ run (starts_of n m)
run_trailing n zero h lt = omega (arith, trailing_of_zero 32, run-zero n)
run_trailing n (suc m) h lt =
    let mask = ap mask_l (map-id (starts_of n (suc m))) ∙ starts_of-mask n (suc m) lt in
    let ends = trailing_mask_l (λ b. b) 32 (starts_of n (suc m)) (omega (arith, length-starts_of n (suc m))) (omega (arith, mask)) in
    omega (arith, ap (count_trailing_zeros 32) mask, ends, prefix_len-le-length not (starts_of n (suc m)), length-starts_of n (suc m))

cut_at-skip : (starts : List Bool) (ns : List ℕ) → cut_at starts ns ≡ cut_at (drop (run starts) starts) (drop (run starts) ns)
cut_at-skip [] ns = refl
cut_at-skip (true ∷ starts) ns = refl
cut_at-skip (false ∷ starts) ns =
    let count : suc (run starts) ≡ 1 + run starts = omega arith in
    cut_at-skip starts (drop 1 ns)
    ∙ (ap (cut_at (drop (run starts) starts)) (drop-first (run starts) ns) ∙ ap (λ k. cut_at (drop k (false ∷ starts)) (drop k ns)) count)

drop-starts_of : (j k m : ℕ) → j ≤ k → drop j (starts_of k m) ≡ starts_of (k - j) (m / 2 ^ j)
drop-starts_of j k m h =
    ap (drop j) (starts_of-add j (k - j) k m (omega arith))
    ∙ (ap (λ i. drop i (starts_of j m ++ starts_of (k - j) (m / 2 ^ j))) (sym (length-starts_of j m)) ∙ drop-append_seam (starts_of j m) (starts_of (k - j) (m / 2 ^ j)))

-- the next group, and what is left after it
pub next_group : (k m : ℕ) (ns : List ℕ) → m % 2 ≡ 1
    → cut_at (starts_of (suc k) m) ns
    ≡ take (suc (run (starts_of k (m / 2)))) ns
    ∷ cut_at (starts_of (k - run (starts_of k (m / 2))) (m / 2 ^ suc (run (starts_of k (m / 2))))) (drop (suc (run (starts_of k (m / 2)))) ns)
next_group k m ns odd =
    let others = starts_of k (m / 2) in
    ap (λ digit. cut_at ((digit == 1) ∷ others) ns) odd
    ∙ ap (λ gs. take (suc (run others)) ns ∷ gs)
    (cut_at-skip others (drop 1 ns)
    ∙ ap₂ cut_at
    (drop-starts_of (run others) k (m / 2) (omega (arith, prefix_len-le-length not others, length-starts_of k (m / 2)))
    ∙ ap (starts_of (k - run others)) (half-pow m (run others)))
    (drop-first (run others) ns))

-- which begins where a group begins, if anything is left
pub run-stops : (k m : ℕ) → run (starts_of k m) < k → m / 2 ^ run (starts_of k m) % 2 ≡ 1
run-stops zero m h = absurd (omega arith)
run-stops (suc k) m h = by_digit (m % 2) refl h (run-stops k (m / 2))
  where
    by_digit : (d : ℕ) → m % 2 ≡ d → run ((d == 1) ∷ starts_of k (m / 2)) < suc k
        → (run (starts_of k (m / 2)) < k → m / 2 / 2 ^ run (starts_of k (m / 2)) % 2 ≡ 1) → m / 2 ^ run ((d == 1) ∷ starts_of k (m / 2)) % 2 ≡ 1
    by_digit zero e h half =
        let count : suc (run (starts_of k (m / 2))) ≡ 1 + run (starts_of k (m / 2)) = omega arith in
        ap (λ i. m / 2 ^ i % 2) (sym count) ∙ (ap (λ x. x % 2) (sym (half-pow m (run (starts_of k (m / 2))))) ∙ half (omega arith))
    by_digit (suc zero) e h half = ap (λ x. x % 2) (div-one m) ∙ e
    by_digit (suc (suc d)) e h half = absurd (omega arith)

pow-join : (m a b : ℕ) → m / 2 ^ a / 2 ^ b ≡ m / 2 ^ (a + b)
pow-join m a b = div-div-eq-div-mul m (2 ^ a) (2 ^ b) ∙ ap (λ d. m / d) (sym (pow-add 2 a b))

-- An iterator over ns, of the mask m, at the place of a group. After the place stand k
-- numbers, of which the first more belong to the group too.
module _ (ns : List ℕ) (m place k : ℕ) (whole : length ns ≡ place + suc k) where
  abbrev others : List Bool
  others = starts_of k (m / 2 ^ place / 2)

  pub more_is_run : (more : ℕ) → length ns ≤ 32 → m < 2 ^ length ns → more ≡ min (count_trailing_zeros 32 (m / 2 ^ place / 2)) k → more ≡ run others
  more_is_run more few below is =
      let rest : length ns - place ≡ suc k = omega arith in
      let high : m / 2 ^ place < 2 ^ (length ns - place) = high_below (length ns) place m (omega arith) below in
      is ∙ run_trailing k (m / 2 ^ place / 2) (omega arith) (omega (arith, ap (λ n. 2 ^ n) rest, pow-succ' 2 k))

  module _ (size : ℕ) (is : size ≡ suc (run others)) where
    pub next_steps : m / 2 ^ place % 2 ≡ 1
        → cut_at (starts_of (length ns - place) (m / 2 ^ place)) (drop place ns)
        ≡ take size (drop place ns) ∷ cut_at (starts_of (length ns - (place + size)) (m / 2 ^ (place + size))) (drop (place + size) ns)
    next_steps odd =
        let rest : length ns - place ≡ suc k = omega arith in
        let left : k - run others ≡ length ns - (place + suc (run others)) = omega arith in
        ap (λ n. cut_at (starts_of n (m / 2 ^ place)) (drop place ns)) rest
        ∙ (next_group k (m / 2 ^ place) (drop place ns) odd
        ∙ (ap₂ (λ n high. take (suc (run others)) (drop place ns) ∷ cut_at (starts_of n high) (drop (suc (run others)) (drop place ns))) left (pow-join m place (suc (run others)))
        ∙ (ap (λ xs. take (suc (run others)) (drop place ns) ∷ cut_at (starts_of (length ns - (place + suc (run others))) (m / 2 ^ (place + suc (run others)))) xs) (drop-drop (suc (run others)) place ns)
        ∙ ap (λ n. take n (drop place ns) ∷ cut_at (starts_of (length ns - (place + n)) (m / 2 ^ (place + n))) (drop (place + n) ns)) (sym is))))

    pub next_starts : place + size < length ns → m / 2 ^ (place + size) % 2 ≡ 1
    next_starts some =
        ap (λ n. m / 2 ^ (place + n) % 2) is
        ∙ (ap (λ h. h % 2) (sym (pow-join m place (suc (run others))))
        ∙ (ap (λ h. h % 2) (sym (half-pow (m / 2 ^ place) (run others))) ∙ run-stops k (m / 2 ^ place / 2) (omega arith)))

-- fields of which each is a group of its own
cut_at-few : (starts : List Bool) (ns : List ℕ) → length (cut_at starts ns) ≤ length starts
cut_at-few [] ns = omega arith
cut_at-few (true ∷ starts) ns = omega (arith, cut_at-few starts (drop 1 ns))
cut_at-few (false ∷ starts) ns = omega (arith, cut_at-few starts (drop 1 ns))

no_run : (starts : List Bool) (ns : List ℕ) → length (cut_at starts ns) ≡ length starts → prefix_len not starts ≡ 0
no_run [] ns all = refl
no_run (true ∷ starts) ns all = refl
no_run (false ∷ starts) ns all = absurd (omega (arith, all, cut_at-few starts (drop 1 ns)))

cut_at-alone : (starts : List Bool) (ns : List ℕ) → length starts ≤ length ns → length (cut_at starts ns) ≡ length starts
    → cut_at starts ns ≡ map (λ n. n ∷ []) (take (length starts) ns)
cut_at-alone [] ns within all = refl
cut_at-alone (start ∷ starts) [] within all = absurd (omega (arith, within))
cut_at-alone (false ∷ starts) (n ∷ ns) within all = absurd (omega (arith, all, cut_at-few starts ns))
cut_at-alone (true ∷ starts) (n ∷ ns) within all =
    let left : length (cut_at starts ns) ≡ length starts = omega (arith, all) in
    ap₂ (λ k gs. (n ∷ take k ns) ∷ gs) (no_run starts ns left) (cut_at-alone starts ns (omega (arith, within)) left)

-- all of so many bits are set exactly in the number below the next power
all_start : (n m : ℕ) (ns : List ℕ) → m + 1 ≡ 2 ^ n → length (cut_at (starts_of n m) ns) ≡ n
all_start zero m ns all = refl
all_start (suc n) m ns all =
    let odd : m % 2 ≡ 1 = omega (arith, all, pow-succ' 2 n, pow_pos n) in
    let half : m / 2 + 1 ≡ 2 ^ n = omega (arith, all, pow-succ' 2 n, pow_pos n) in
    ap (λ digit. length (cut_at ((digit == 1) ∷ starts_of n (m / 2)) ns)) odd ∙ ap suc (all_start n (m / 2) (drop 1 ns) half)

start_of_all : (n m : ℕ) (ns : List ℕ) → m < 2 ^ n → length (cut_at (starts_of n m) ns) ≡ n → m + 1 ≡ 2 ^ n
start_of_all zero m ns above all = omega (arith, above)
start_of_all (suc n) m ns above all =
    by_digit (m % 2) refl all (start_of_all n (m / 2) (drop 1 ns) (omega (arith, above, pow-succ' 2 n)))
  where
    by_digit : (d : ℕ) → m % 2 ≡ d → length (cut_at ((d == 1) ∷ starts_of n (m / 2)) ns) ≡ suc n
        → (length (cut_at (starts_of n (m / 2)) (drop 1 ns)) ≡ n → m / 2 + 1 ≡ 2 ^ n) → m + 1 ≡ 2 ^ suc n
    by_digit zero e all half =
        absurd (omega (arith, all, cut_at-few (starts_of n (m / 2)) (drop 1 ns), length-starts_of n (m / 2)))
    by_digit (suc zero) e all half = omega (arith, e, pow-succ' 2 n, half (omega (arith, all)))
    by_digit (suc (suc d)) e all half = absurd (omega arith)

pub lone-groups : (n m : ℕ) (ns : List ℕ) → n ≤ length ns → m + 1 ≡ 2 ^ n → cut_at (starts_of n m) ns ≡ map (λ field. field ∷ []) (take n ns)
lone-groups n m ns within all =
    let long = length-starts_of n m in
    cut_at-alone (starts_of n m) ns (omega (arith, long, within)) (all_start n m ns all ∙ sym long)
    ∙ ap (λ k. map (λ field. field ∷ []) (take k ns)) long

pub shared-groups : (n m : ℕ) (ns : List ℕ) → n ≤ length ns → m < 2 ^ n → (0 < n → m % 2 ≡ 1) → m + 1 ≢ 2 ^ n
    → length (cut_at (starts_of n m) ns) < length (concat (cut_at (starts_of n m) ns))
shared-groups n m ns within above first some =
    let few : length (cut_at (starts_of n m) ns) ≤ n = omega (arith, cut_at-few (starts_of n m) ns, length-starts_of n m) in
    let not_all : length (cut_at (starts_of n m) ns) ≢ n = λ all. some (start_of_all n m ns above all) in
    omega (arith, few, not_all, field_count n m ns within first)
