-- Shades are read on their pages.
use Rattle.std.proofs.Common.{◌≡◌, ◌<◌, ◌≤◌, ℕ, zero, suc, ◌-◌, ◌%◌, Bool, true, false, IsTrue, refl, sym, ap, ◌∙◌, subst, arith}
use Rattle.std.specs.Prelude.{nat_le, slice_index, if◌then◌else◌}
use Rattle.std.specs.List.{list_all, range_with_len}
use Rattle.std.proofs.Math.ListN.{get_or}
use Rattle.std.proofs.lemmas.List.FromFn.{get_or-range_with_len, length-range_with_len}
use Rattle.std.proofs.lemmas.List.Folds.{list_all_at}
use Rattle.std.proofs.lemmas.Bool.{le-leb, leb-true, leb-false, or_left, or_right}
use Rattle.ansi_html.specs.declared.contrast.Rgb.{Rgb}
use Rattle.ansi_html.specs.declared.contrast.TheConstants.{LINEAR}
use Rattle.ansi_html.specs.Contrast.{is_made_linear, linear, luminance, is_readable, are_readable, rgb, black, white, lightest_dark, is_read_on_light, IsReadOnLight, is_read_on_dark, IsReadOnDark, darkened, lightened, light_from, dark_from, light_shade, dark_shade, ink, mixture, dim_on}

-- what holds of all numbers below another
pub all_below : (p : ℕ → Bool) (n v : ℕ) → list_all p (range_with_len 0 n) ≡ true → v < n → p v ≡ true
all_below p n v all below = by_case (p v) refl
  where
    at : p (get_or (range_with_len 0 n) v 0) ≡ p v
    at =
        let here : get_or (range_with_len 0 n) v 0 ≡ v = omega (arith, get_or-range_with_len 0 n v 0 below) in
        ap p here

    by_case : (passes : Bool) → p v ≡ passes → p v ≡ true
    by_case true e = e
    by_case false e =
        let none = list_all_at p (range_with_len 0 n) v 0 (omega (arith, length-range_with_len 0 n)) (at ∙ e) in
        cc

-- each number of the table is right, and none is above a million
table_made_linear : list_all (λ v. is_made_linear v (slice_index LINEAR v)) (range_with_len 0 256) ≡ true
unfolding is_made_linear
table_made_linear = refl

table_most : list_all (λ v. nat_le (slice_index LINEAR v) 1000000) (range_with_len 0 256) ≡ true
table_most = refl

pub linear-byte : (v : ℕ) → v < 256 → linear v ≡ slice_index LINEAR v
unfolding linear
linear-byte v below =
    let small : v % 256 ≡ v = omega arith in
    ap (slice_index LINEAR) small

pub made_linear : (v : ℕ) → v < 256 → IsTrue (is_made_linear v (linear v))
made_linear v below =
    subst (λ n. IsTrue (is_made_linear v n)) (sym (linear-byte v below)) (all_below (λ v. is_made_linear v (slice_index LINEAR v)) 256 v table_made_linear below)

pub linear-most : (v : ℕ) → linear v ≤ 1000000
unfolding linear
linear-most v = leb-true (slice_index LINEAR (v % 256)) 1000000 (all_below (λ v. nat_le (slice_index LINEAR v) 1000000) 256 (v % 256) table_most (omega arith))

pub luminance-most : (color : Rgb) → luminance color ≤ 10000000000
unfolding luminance
luminance-most color = omega (arith, linear-most color.red, linear-most color.green, linear-most color.blue)

-- the luminances of the pages
luminance-white : luminance white ≡ 10000000000
unfolding linear luminance
luminance-white = refl

luminance-black : luminance black ≡ 0
unfolding linear luminance
luminance-black = refl

-- what is read is also read on what is darker
readable_on_darker : (lighter darker other : ℕ) → other ≤ darker → is_readable lighter darker ≡ true → is_readable lighter other ≡ true
readable_on_darker lighter darker other below is =
    let few = leb-true _ _ is in
    le-leb _ _ (omega (arith, few, below))

pub IsReadOnDark-from : (color : Rgb) → is_read_on_dark color ≡ true → IsReadOnDark color
IsReadOnDark-from color is = λ page below. readable_on_darker (luminance color) (luminance lightest_dark) (luminance page) below is

pub is_read_on_dark-from : (color : Rgb) → IsReadOnDark color → is_read_on_dark color ≡ true
is_read_on_dark-from color is = is lightest_dark (omega arith)

read_black : is_read_on_light black ≡ true
unfolding linear luminance
read_black = refl

read_white : is_read_on_dark white ≡ true
unfolding linear luminance
read_white = refl

-- a test of the colour that a test chooses
choose_passing : (p : Rgb → Bool) (b : Bool) (color other : Rgb) → p color ≡ b → p other ≡ true → p (if b then color else other) ≡ true
choose_passing p true color other e more = e
choose_passing p false color other e more = more

light_from-read : (n : ℕ) (color : Rgb) → is_read_on_light (light_from n color) ≡ true
unfolding light_from
light_from-read zero color = read_black
light_from-read (suc n) color =
    choose_passing is_read_on_light (is_read_on_light (darkened (suc n) color)) (darkened (suc n) color) (light_from n color) refl (light_from-read n color)

dark_from-read : (n : ℕ) (color : Rgb) → is_read_on_dark (dark_from n color) ≡ true
unfolding dark_from
dark_from-read zero color = read_white
dark_from-read (suc n) color =
    choose_passing is_read_on_dark (is_read_on_dark (lightened (suc n) color)) (lightened (suc n) color) (dark_from n color) refl (dark_from-read n color)

-- Each shade is read on its page.
pub IsReadOnLight-shade : (color : Rgb) → IsReadOnLight (light_shade color)
IsReadOnLight-shade color = light_from-read 16 color

pub IsReadOnDark-shade : (color : Rgb) → IsReadOnDark (dark_shade color)
IsReadOnDark-shade color = IsReadOnDark-from (dark_shade color) (dark_from-read 16 color)

-- one step of the search
pub light_from-step : (n : ℕ) (color : Rgb) → 0 < n
    → light_from n color ≡ (if is_read_on_light (darkened n color) then darkened n color else light_from (n - 1) color)
unfolding light_from
light_from-step zero color some = absurd (omega arith)
light_from-step (suc n) color some =
    let less : n ≡ suc n - 1 = omega arith in
    ap (λ k. if is_read_on_light (darkened (suc n) color) then darkened (suc n) color else light_from k color) less

pub dark_from-step : (n : ℕ) (color : Rgb) → 0 < n
    → dark_from n color ≡ (if is_read_on_dark (lightened n color) then lightened n color else dark_from (n - 1) color)
unfolding dark_from
dark_from-step zero color some = absurd (omega arith)
dark_from-step (suc n) color some =
    let less : n ≡ suc n - 1 = omega arith in
    ap (λ k. if is_read_on_dark (lightened (suc n) color) then lightened (suc n) color else dark_from k color) less

pub light_from-none : (color : Rgb) → light_from 0 color ≡ black
unfolding light_from
light_from-none color = refl

pub dark_from-none : (color : Rgb) → dark_from 0 color ≡ white
unfolding dark_from
dark_from-none color = refl

-- a colour of equal parts
same_parts : (r g b : ℕ) (color : Rgb) → r ≡ color.red → g ≡ color.green → b ≡ color.blue → rgb r g b ≡ color
same_parts r g b color er eg eb =
    ap (λ x. rgb x g b) er ∙ ap (λ x. rgb color.red x b) eg ∙ ap (λ x. rgb color.red color.green x) eb

darkened-whole : (color : Rgb) → darkened 16 color ≡ color
darkened-whole color = same_parts _ _ _ color (omega arith) (omega arith) (omega arith)

lightened-whole : (color : Rgb) → color.red < 256 → color.green < 256 → color.blue < 256 → lightened 16 color ≡ color
lightened-whole color red green blue = same_parts _ _ _ color (omega arith) (omega arith) (omega arith)

-- A colour that is read stays.
pub light_shade-stays : (color : Rgb) → IsReadOnLight color → light_shade color ≡ color
light_shade-stays color is =
    light_from-step 16 color (omega arith)
    ∙ ap (λ (read : Bool). if read then darkened 16 color else light_from 15 color) (ap is_read_on_light (darkened-whole color) ∙ is)
    ∙ darkened-whole color

pub dark_shade-stays : (color : Rgb) → color.red < 256 → color.green < 256 → color.blue < 256 → IsReadOnDark color → dark_shade color ≡ color
dark_shade-stays color red green blue is =
    let whole = lightened-whole color red green blue in
    dark_from-step 16 color (omega arith)
    ∙ ap (λ (read : Bool). if read then lightened 16 color else dark_from 15 color) (ap is_read_on_dark whole ∙ is_read_on_dark-from color is)
    ∙ whole

-- White or black is read on every ground.
pub black_read_on : (behind : Rgb) → is_readable (luminance white) (luminance behind) ≡ false → are_readable black behind ≡ true
black_read_on behind fails =
    let many = leb-false _ _ fails in
    or_right (is_readable (luminance black) (luminance behind)) _ (le-leb _ _ (omega (arith, many, luminance-white, luminance-black)))

pub ink-read : (behind : Rgb) → are_readable (ink behind) behind ≡ true
ink-read behind = by_case (is_readable (luminance white) (luminance behind)) refl
  where
    by_case : (light : Bool) → is_readable (luminance white) (luminance behind) ≡ light → are_readable (if light then white else black) behind ≡ true
    by_case true e = or_left _ (is_readable (luminance behind) (luminance white)) e
    by_case false e = black_read_on behind e

pub dim_on-read : (text behind : Rgb) → are_readable text behind ≡ true → are_readable (dim_on text behind) behind ≡ true
dim_on-read text behind is =
    choose_passing (λ color. are_readable color behind) (are_readable (mixture text behind) behind) (mixture text behind) text refl is
