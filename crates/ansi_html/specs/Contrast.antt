-- Whether a text is read on a ground, and the shades of a colour that are read on a page.
--
-- Source: WCAG 2.1 (W3C Recommendation), 1.4.3: text has a contrast of 4.5:1 at least; and its
-- definitions of "relative luminance" and "contrast ratio". Red, green and blue, v / 255 of sRGB, are
-- made linear: c / 12.92 where c is at most 0.03928, and else ((c + 0.055) / 1.055) ^ 2.4. The
-- luminance is 0.2126 of red, 0.7152 of green and 0.0722 of blue together, and the contrast of two
-- is (lighter + 0.05) / (darker + 0.05).
use Rattle.std.specs.Prelude.{◌≤◌, ℕ, zero, suc, ◌+◌, ◌-◌, ◌*◌, ◌/◌, ◌%◌, ◌^◌, Bool, ◌||◌, ◌&&◌, nat_le, nat_lt, IsTrue, slice_index, if◌then◌else◌}
use Rattle.ansi_html.specs.declared.contrast.Rgb.{Rgb}
use Rattle.ansi_html.specs.declared.contrast.TheConstants.{LINEAR}

-- What a byte is, made linear, in millionths and rounded down: n where n / 10^6 is at most it, and
-- (n + 1) / 10^6 is more. Of 255, 10 is the last that is at most 0.03928; v / 255 / 12.92 is
-- 10 v / 32946, and (v / 255 + 0.055) / 1.055 is (40 v + 561) / 10761. To the power 2.4 this is
-- compared by fifth powers.
unfoldable pub is_made_linear : (value millionths : ℕ) → Bool
is_made_linear v n =
    if nat_le v 10
    then nat_le (32946 * n) (10 ^ 7 * v) && nat_lt (10 ^ 7 * v) (32946 * (n + 1))
    else nat_le (10761 ^ 12 * n ^ 5) (10 ^ 30 * (40 * v + 561) ^ 12)
    && nat_lt (10 ^ 30 * (40 * v + 561) ^ 12) (10761 ^ 12 * (n + 1) ^ 5)

-- The table of these, of which the clause `made_linear` of `Rgb::linear` says that it is right.
unfoldable pub linear : (value : ℕ) → ℕ
linear v = slice_index LINEAR (v % 256)

-- The luminance, in units of 10^-10: at most 10,000 of them too low, one of each rounded millionth.
unfoldable pub luminance : Rgb → ℕ
luminance color = 2126 * linear color.red + (7152 * linear color.green + 722 * linear color.blue)

-- The contrast is 4.5 at least, also where the darker one's luminance is 10,000 more than this.
abbrev pub is_readable : (lighter darker : ℕ) → Bool
is_readable lighter darker = nat_le (9 * (darker + 10000 + 5 * 10 ^ 8)) (2 * (lighter + 5 * 10 ^ 8))

-- the same of two colours, whichever is the lighter one
abbrev pub are_readable : Rgb → Rgb → Bool
are_readable one other = is_readable (luminance one) (luminance other) || is_readable (luminance other) (luminance one)

abbrev pub rgb : (red green blue : ℕ) → Rgb
rgb red green blue = record { red = red; green = green; blue = blue }

abbrev pub black : Rgb
black = rgb 0 0 0

abbrev pub white : Rgb
white = rgb 255 255 255

-- the lightest of the dark pages
abbrev pub lightest_dark : Rgb
lightest_dark = rgb 0x1E 0x1E 0x1E

-- A text is read on a light page, which is white, and on each dark one, no lighter than #1e1e1e:
-- #121212 of Chromium, #1c1b22 of Firefox, #1e1e1e of Safari and of many editors.
abbrev pub is_read_on_light : Rgb → Bool
is_read_on_light color = is_readable (luminance white) (luminance color)

abbrev pub IsReadOnLight : Rgb → Type 0
IsReadOnLight color = IsTrue (is_read_on_light color)

abbrev pub is_read_on_dark : Rgb → Bool
is_read_on_dark color = is_readable (luminance color) (luminance lightest_dark)

abbrev pub IsReadOnDark : Rgb → Type 0
IsReadOnDark color =
    (page : Rgb) → luminance page ≤ luminance lightest_dark → IsTrue (is_readable (luminance color) (luminance page))

-- so many sixteenths of a byte; and of a colour, and the rest black or white
abbrev pub part : (share value : ℕ) → ℕ
part share value = share * value / 16

abbrev pub darkened : (share : ℕ) → Rgb → Rgb
darkened share color = rgb (part share color.red) (part share color.green) (part share color.blue)

abbrev pub lightened : (share : ℕ) → Rgb → Rgb
lightened share color =
    rgb (255 - part share (255 - color.red)) (255 - part share (255 - color.green))
    (255 - part share (255 - color.blue))

-- The shade of most sixteenths, from this many down, that is read on the page.
unfoldable pub light_from : (share : ℕ) → Rgb → Rgb
light_from zero color = black
light_from (suc n) color =
    if is_read_on_light (darkened (suc n) color) then darkened (suc n) color else light_from n color

unfoldable pub dark_from : (share : ℕ) → Rgb → Rgb
dark_from zero color = white
dark_from (suc n) color =
    if is_read_on_dark (lightened (suc n) color) then lightened (suc n) color else dark_from n color

-- The shades of a colour for light pages and for dark ones: the colour itself where it is read.
abbrev pub light_shade : Rgb → Rgb
light_shade color = light_from 16 color

abbrev pub dark_shade : Rgb → Rgb
dark_shade color = dark_from 16 color

-- The text on a ground that comes without one: white where that is read, and else black.
abbrev pub ink : (behind : Rgb) → Rgb
ink behind = if is_readable (luminance white) (luminance behind) then white else black

-- 11 sixteenths of a text and 5 of its ground
abbrev pub mixed : (text behind : ℕ) → ℕ
mixed text behind = (11 * text + 5 * behind) / 16

abbrev pub mixture : (text behind : Rgb) → Rgb
mixture text behind = rgb (mixed text.red behind.red) (mixed text.green behind.green) (mixed text.blue behind.blue)

-- A dim text on a ground that is chosen is their mixture where that is read, and else the text.
abbrev pub dim_on : (text behind : Rgb) → Rgb
dim_on text behind = if are_readable (mixture text behind) behind then mixture text behind else text
