-- The nearest of the 256 colours to a red, green and blue: the one of the least sum of squared differences
-- of the three parts, and of several the one of the lowest number. That it is so the clauses `least` and
-- `first` of `Rgb::nearest` say. The first sixteen are left out: they have other shades on light pages and on dark
-- ones, so that none of them is one red, green and blue.
use Rattle.std.specs.Prelude.{ℕ, zero, suc, ◌+◌, ◌-◌, ◌*◌, ◌/◌, nat_lt, if◌then◌else◌}
use Rattle.ansi_html.specs.declared.contrast.Rgb.{Rgb}
use Rattle.ansi_html.specs.Palette.{indexed}

-- the square of how far two numbers are apart, where `-` stops at 0
abbrev pub square_apart : ℕ → ℕ → ℕ
square_apart one other = (one - other + (other - one)) * (one - other + (other - one))

abbrev pub distance : Rgb → Rgb → ℕ
distance one other =
    square_apart one.red other.red + (square_apart one.green other.green + square_apart one.blue other.blue)

-- a colour by its number
abbrev pub fixed_at : ℕ → Rgb
fixed_at n = (indexed n).fixed

-- The step of the cube that is nearest to a byte, and the number of the cube's colour of three steps: the
-- steps are 0, 95, 135, 175, 215 and 255.
abbrev pub step_of : ℕ → ℕ
step_of v = if nat_lt v 48 then 0 else if nat_lt v 116 then 1 else (v - 36) / 40

abbrev pub cube_number : Rgb → ℕ
cube_number color = 16 + (36 * step_of color.red + (6 * step_of color.green + step_of color.blue))

-- whichever is nearer, the first of two that are as near
abbrev pub nearer : Rgb → (first second : ℕ) → ℕ
nearer color first second =
    if nat_lt (distance color (fixed_at second)) (distance color (fixed_at first)) then second else first

-- the nearest of the cube and so many greys
unfoldable pub nearest_of : (greys : ℕ) → Rgb → ℕ
nearest_of zero color = cube_number color
nearest_of (suc n) color = nearer color (nearest_of n color) (232 + n)

abbrev pub nearest : Rgb → ℕ
nearest color = nearest_of 24 color
