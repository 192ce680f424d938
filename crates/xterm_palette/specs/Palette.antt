-- xterm's colours as numbers, red above green above blue: 0xRRGGBB.
--
-- Sources: xterm's XTerm-col.ad for the eight and the eight bright ones, and its 256colres.pl for the others.
use Rattle.std.specs.Prelude.{ℕ, ◌+◌, ◌-◌, ◌*◌, ◌/◌, ◌%◌, nat_lt, ◌==◌, if◌then◌else◌, Option, None, Some}
use Rattle.ansi_style.specs.declared.style.Color.{Color}
use Rattle.ansi_style.specs.declared.style.Color.TheVariants.{Default, Named, Bright, Indexed, Direct}
use Rattle.ansi_style.specs.declared.style.Hue.{Hue}
use Rattle.ansi_style.specs.declared.style.Hue.TheVariants.{Black, Red, Green, Yellow, Blue, Magenta, Cyan, White}
use Rattle.ansi_style.specs.Style.{hue_at}

abbrev pub named : Hue → ℕ
named Black = 0x000000
named Red = 0xCD0000
named Green = 0x00CD00
named Yellow = 0xCDCD00
named Blue = 0x0000EE
named Magenta = 0xCD00CD
named Cyan = 0x00CDCD
named White = 0xE5E5E5

abbrev pub bright : Hue → ℕ
bright Black = 0x7F7F7F
bright Red = 0xFF0000
bright Green = 0x00FF00
bright Yellow = 0xFFFF00
bright Blue = 0x5C5CFF
bright Magenta = 0xFF00FF
bright Cyan = 0x00FFFF
bright White = 0xFFFFFF

-- a colour by its parts
abbrev pub mixed : (red green blue : ℕ) → ℕ
mixed red green blue = 0x10000 * red + (0x100 * green + blue)

-- one of the six steps of the cube
abbrev pub level : ℕ → ℕ
level step = if step == 0 then 0 else 55 + 40 * step

abbrev pub cube : ℕ → ℕ
cube n = mixed (level (n / 36)) (level (n / 6 % 6)) (level (n % 6))

abbrev pub grey : ℕ → ℕ
grey n = mixed (8 + 10 * n) (8 + 10 * n) (8 + 10 * n)

-- one of 256: the eight, the eight bright ones, the cube of 216, and 24 greys
abbrev pub indexed : ℕ → ℕ
indexed n =
    if nat_lt n 8 then named (hue_at n)
    else if nat_lt n 16 then bright (hue_at (n - 8))
    else if nat_lt n 232 then cube (n - 16)
    else grey (n - 232)

-- The number of a colour. The terminal's own has none, since nobody told it.
unfoldable pub number_of : Color → Option ℕ
number_of Default = None
number_of (Named hue) = Some (named hue)
number_of (Bright hue) = Some (bright hue)
number_of (Indexed n) = Some (indexed n)
number_of (Direct red green blue) = Some (mixed red green blue)
