-- The nearest of the 256 colours has the least distance, and those before it a greater one.
use Rattle.std.proofs.Common.{◌≡◌, ◌<◌, ◌≤◌, ℕ, zero, suc, ◌+◌, ◌-◌, ◌*◌, ◌/◌, ◌%◌, Bool, true, false, ◌&&◌, refl, sym, ap, ◌∙◌, subst, ⊎_elim, arith}
use Rattle.std.specs.Prelude.{nat_lt, nat_le, if◌then◌else◌}
use Rattle.std.specs.List.{list_all, range_with_len}
use Rattle.std.proofs.lemmas.Bool.{cases_lt, and_parts, le-ltb, lt-ltb, leb-true, ltb-true, ltb-false}
use Rattle.ansi_html.specs.declared.contrast.Rgb.{Rgb}
use Rattle.ansi_html.specs.declared.palette.Shades.{Shades}
use Rattle.ansi_html.specs.Palette.{level, cube, grey, alike, named_shades, bright_shades}
use Rattle.ansi_style.specs.Style.{hue_at}
use Rattle.ansi_html.specs.Nearest.{square_apart, distance, fixed_at, step_of, cube_number, nearer, nearest_of}
use Rattle.ansi_html.proofs.ContrastLemmas.{all_below}

-- The step of a byte is nearest to it, and those below it are farther.
is_nearest_step : (v s : ℕ) → Bool
is_nearest_step v s =
    nat_le (square_apart v (level (step_of v))) (square_apart v (level s))
    && (if nat_lt s (step_of v) then nat_lt (square_apart v (level (step_of v))) (square_apart v (level s)) else true)

nearest_steps : list_all (λ v. list_all (is_nearest_step v) (range_with_len 0 6)) (range_with_len 0 256) ≡ true
unfolding is_nearest_step
nearest_steps = refl

nearest_step : (v s : ℕ) → v < 256 → s < 6 → is_nearest_step v s ≡ true
nearest_step v s byte low = all_below (is_nearest_step v) 6 s (all_below (λ v. list_all (is_nearest_step v) (range_with_len 0 6)) 256 v nearest_steps byte) low

abbrev apart_at : (v s : ℕ) → ℕ
apart_at v s = square_apart v (level s)

step-least : (v s : ℕ) → v < 256 → s < 6 → apart_at v (step_of v) ≤ apart_at v s
unfolding is_nearest_step
step-least v s byte low = leb-true _ _ (and_parts (nat_le (apart_at v (step_of v)) (apart_at v s)) _ (nearest_step v s byte low)).0

step-first : (v s : ℕ) → v < 256 → s < step_of v → s < 6 → apart_at v (step_of v) < apart_at v s
unfolding is_nearest_step
step-first v s byte below low =
    let test = nat_lt (apart_at v (step_of v)) (apart_at v s) in
    let behind = (and_parts (nat_le (apart_at v (step_of v)) (apart_at v s)) (if nat_lt s (step_of v) then test else true) (nearest_step v s byte low)).1 in
    ltb-true _ _ (sym (ap (λ (is : Bool). if is then test else true) (lt-ltb s (step_of v) below)) ∙ behind)

step-most : (v : ℕ) → v < 256 → step_of v < 6
step-most v byte = by_case (nat_lt v 48) (nat_lt v 116)
  where
    by_case : (low middle : Bool) → (if low then 0 else if middle then 1 else (v - 36) / 40) < 6
    by_case true middle = omega arith
    by_case false true = omega arith
    by_case false false = omega (arith, byte)

-- a colour of the cube by its steps
fixed-cube : (n : ℕ) → 16 ≤ n → n < 232 → fixed_at n ≡ cube (n - 16)
fixed-cube n low high =
    ap (λ (it : Shades). it.fixed)
    (ap (λ (is : Bool). if is then named_shades (hue_at n) else if nat_lt n 16 then bright_shades (hue_at (n - 8)) else if nat_lt n 232 then alike (cube (n - 16)) else alike (grey (n - 232)))
    (le-ltb n 8 (omega (arith, low)))
    ∙ ap (λ (is : Bool). if is then bright_shades (hue_at (n - 8)) else if nat_lt n 232 then alike (cube (n - 16)) else alike (grey (n - 232))) (le-ltb n 16 low)
    ∙ ap (λ (is : Bool). if is then alike (cube (n - 16)) else alike (grey (n - 232))) (lt-ltb n 232 high))

less_of : (a b c : ℕ) → a < b → b ≤ c → a < c
less_of a b c p q = omega (arith, p, q)

less_than : (a b c : ℕ) → a < b → b ≤ c → a ≤ c
less_than a b c p q = omega (arith, p, q)

pub record AreBytes (color : Rgb) : Type 0 where
  pub red : color.red < 256
  pub green : color.green < 256
  pub blue : color.blue < 256

-- the distance of a colour of the cube
apart_by : (color : Rgb) (i j k : ℕ) → ℕ
apart_by color i j k = apart_at color.red i + (apart_at color.green j + apart_at color.blue k)

distance-cube : (color : Rgb) (n : ℕ) → 16 ≤ n → n < 232 → distance color (fixed_at n) ≡ apart_by color ((n - 16) / 36) ((n - 16) / 6 % 6) ((n - 16) % 6)
unfolding apart_by
distance-cube color n low high = ap (distance color) (fixed-cube n low high)

module _ (color : Rgb) (are : AreBytes color) where
  abbrev red_step : ℕ
  red_step = step_of color.red

  abbrev green_step : ℕ
  green_step = step_of color.green

  abbrev blue_step : ℕ
  blue_step = step_of color.blue

  cube_number-within : (16 ≤ cube_number color) × (cube_number color < 232)
  cube_number-within =
      let red = step-most color.red are.red in
      let green = step-most color.green are.green in
      let blue = step-most color.blue are.blue in
      (omega arith, within red_step green_step blue_step red green blue)
    where
      within : (i j k : ℕ) → i < 6 → j < 6 → k < 6 → 16 + (36 * i + (6 * j + k)) < 232
      within i j k a b c = omega (arith, a, b, c)

  distance-cube_number : distance color (fixed_at (cube_number color)) ≡ apart_by color red_step green_step blue_step
  distance-cube_number =
      let low = cube_number-within in
      distance-cube color (cube_number color) low.0 low.1
      ∙ same red_step green_step blue_step (step-most color.red are.red) (step-most color.green are.green) (step-most color.blue are.blue)
    where
      same : (i j k : ℕ) → i < 6 → j < 6 → k < 6
          → apart_by color ((16 + (36 * i + (6 * j + k)) - 16) / 36) ((16 + (36 * i + (6 * j + k)) - 16) / 6 % 6) ((16 + (36 * i + (6 * j + k)) - 16) % 6) ≡ apart_by color i j k
      same i j k a b c =
          let first : (16 + (36 * i + (6 * j + k)) - 16) / 36 ≡ i = omega (arith, a, b, c) in
          let second : (16 + (36 * i + (6 * j + k)) - 16) / 6 % 6 ≡ j = omega (arith, a, b, c) in
          let third : (16 + (36 * i + (6 * j + k)) - 16) % 6 ≡ k = omega (arith, a, b, c) in
          ap (λ x. apart_by color x ((16 + (36 * i + (6 * j + k)) - 16) / 6 % 6) ((16 + (36 * i + (6 * j + k)) - 16) % 6)) first
          ∙ ap (λ y. apart_by color i y ((16 + (36 * i + (6 * j + k)) - 16) % 6)) second ∙ ap (λ z. apart_by color i j z) third

  by-least : (i j k : ℕ) → i < 6 → j < 6 → k < 6 → apart_by color red_step green_step blue_step ≤ apart_by color i j k
  unfolding apart_by
  by-least i j k a b c = sums _ _ _ _ _ _ (step-least color.red i are.red a) (step-least color.green j are.green b) (step-least color.blue k are.blue c)
    where
      sums : (a b c x y z : ℕ) → a ≤ x → b ≤ y → c ≤ z → a + (b + c) ≤ x + (y + z)
      sums a b c x y z p q r = omega (arith, p, q, r)

  by-first : (i j k : ℕ) → i < 6 → j < 6 → k < 6 → 36 * i + (6 * j + k) < 36 * red_step + (6 * green_step + blue_step)
      → apart_by color red_step green_step blue_step < apart_by color i j k
  unfolding apart_by
  by-first i j k a b c below =
      ⊎_elim
      (λ (less : i < red_step). first _ _ _ _ _ _ (step-first color.red i are.red less a) (step-least color.green j are.green b) (step-least color.blue k are.blue c))
      (λ (more : red_step ≤ i). ⊎_elim
      (λ (less : j < green_step). second _ _ _ _ _ _ (step-least color.red i are.red a) (step-first color.green j are.green less b) (step-least color.blue k are.blue c))
      (λ (over : green_step ≤ j). third _ _ _ _ _ _ (step-least color.red i are.red a) (step-least color.green j are.green b)
      (step-first color.blue k are.blue (last i j k red_step green_step blue_step more over below) c))
      (cases_lt j green_step))
      (cases_lt i red_step)
    where
      first : (a b c x y z : ℕ) → a < x → b ≤ y → c ≤ z → a + (b + c) < x + (y + z)
      first a b c x y z p q r = omega (arith, p, q, r)

      second : (a b c x y z : ℕ) → a ≤ x → b < y → c ≤ z → a + (b + c) < x + (y + z)
      second a b c x y z p q r = omega (arith, p, q, r)

      third : (a b c x y z : ℕ) → a ≤ x → b ≤ y → c < z → a + (b + c) < x + (y + z)
      third a b c x y z p q r = omega (arith, p, q, r)

      last : (i j k r g b : ℕ) → r ≤ i → g ≤ j → 36 * i + (6 * j + k) < 36 * r + (6 * g + b) → k < b
      last i j k r g b p q less = omega (arith, p, q, less)

  -- What holds of the nearest of the cube and so many greys.
  pub record IsNearest (greys number : ℕ) : Type 0 where
    pub low : 16 ≤ number
    pub high : number < 232 + greys
    pub least : (n : ℕ) → 16 ≤ n → n < 232 + greys → distance color (fixed_at number) ≤ distance color (fixed_at n)
    pub first : (n : ℕ) → 16 ≤ n → n < number → distance color (fixed_at number) < distance color (fixed_at n)

  IsNearest-cube : IsNearest 0 (cube_number color)
  IsNearest-cube = record {
    low = cube_number-within.0;
    high = cube_number-within.1;
    least = λ n low high.
        let there = by-least ((n - 16) / 36) ((n - 16) / 6 % 6) ((n - 16) % 6) (omega (arith, high)) (omega arith) (omega arith) in
        subst (λ d. distance color (fixed_at (cube_number color)) ≤ d) (sym (distance-cube color n low high))
        (subst (λ d. d ≤ apart_by color ((n - 16) / 36) ((n - 16) / 6 % 6) ((n - 16) % 6)) (sym distance-cube_number) there);
    first = λ n low below.
        let high : n < 232 = omega (arith, below, cube_number-within.1) in
        let there = by-first ((n - 16) / 36) ((n - 16) / 6 % 6) ((n - 16) % 6) (omega (arith, high)) (omega arith) (omega arith) (before n red_step green_step blue_step low below) in
        subst (λ d. distance color (fixed_at (cube_number color)) < d) (sym (distance-cube color n low high))
        (subst (λ d. d < apart_by color ((n - 16) / 36) ((n - 16) / 6 % 6) ((n - 16) % 6)) (sym distance-cube_number) there);
  }
    where
      before : (n i j k : ℕ) → 16 ≤ n → n < 16 + (36 * i + (6 * j + k)) → 36 * ((n - 16) / 36) + (6 * ((n - 16) / 6 % 6) + (n - 16) % 6) < 36 * i + (6 * j + k)
      before n i j k low below = omega (arith, low, below)

  -- how far a colour is away by its number
  abbrev away : ℕ → ℕ
  away n = distance color (fixed_at n)

  IsNearest-more : (greys best : ℕ) → IsNearest greys best → IsNearest (suc greys) (nearer color best (232 + greys))
  IsNearest-more greys best is = by_case (nat_lt (distance color (fixed_at (232 + greys))) (distance color (fixed_at best))) refl
    where
      here_or : (n : ℕ) → n < 232 + suc greys → (n < 232 + greys → away best ≤ away n) → away best ≤ away (232 + greys) → away best ≤ away n
      here_or n high below last =
          ⊎_elim (λ (less : n < 232 + greys). below less)
          (λ (more : 232 + greys ≤ n). let same : 232 + greys ≡ n = omega (arith, more, high) in subst (λ k. away best ≤ away k) same last)
          (cases_lt n (232 + greys))

      last_or : (n : ℕ) → n < 232 + suc greys → (n < 232 + greys → away (232 + greys) ≤ away n) → away (232 + greys) ≤ away n
      last_or n high below =
          ⊎_elim (λ (less : n < 232 + greys). below less)
          (λ (more : 232 + greys ≤ n). let same : 232 + greys ≡ n = omega (arith, more, high) in subst (λ k. away (232 + greys) ≤ away k) same (omega arith))
          (cases_lt n (232 + greys))

      by_case : (nearer_is : Bool) → nat_lt (distance color (fixed_at (232 + greys))) (distance color (fixed_at best)) ≡ nearer_is
          → IsNearest (suc greys) (if nearer_is then 232 + greys else best)
      by_case true e =
          let less = ltb-true _ _ e in
          record {
            low = omega arith;
            high = omega arith;
            least = λ n low high. last_or n high (λ below. less_than (distance color (fixed_at (232 + greys))) (distance color (fixed_at best)) (distance color (fixed_at n)) less (is.least n low below));
            first = λ n low below. less_of (distance color (fixed_at (232 + greys))) (distance color (fixed_at best)) (distance color (fixed_at n)) less (is.least n low below);
          }
      by_case false e = record {
        low = is.low;
        high = omega (arith, is.high);
        least = λ n low high. here_or n high (λ below. is.least n low below) (ltb-false _ _ e);
        first = λ n low below. is.first n low below;
      }

  pub IsNearest-of : (greys : ℕ) → IsNearest greys (nearest_of greys color)
  unfolding nearest_of
  IsNearest-of zero = IsNearest-cube
  IsNearest-of (suc greys) = IsNearest-more greys (nearest_of greys color) (IsNearest-of greys)

-- one grey more
pub nearest_of-next : (greys : ℕ) (color : Rgb) → nearest_of (greys + 1) color ≡ nearer color (nearest_of greys color) (232 + greys)
unfolding nearest_of
nearest_of-next greys color = let next : greys + 1 ≡ suc greys = omega arith in ap (λ n. nearest_of n color) next
