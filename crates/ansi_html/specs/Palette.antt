-- The colours, and how CSS writes them.
use Rattle.std.specs.Prelude.{ℕ, ◌+◌, ◌-◌, ◌*◌, ◌/◌, ◌%◌, nat_lt, ◌==◌, List, [], ◌∷◌, ◌++◌, codes, if◌then◌else◌}
use Rattle.ansi_style.specs.declared.style.Color.{Color}
use Rattle.ansi_style.specs.declared.style.Color.TheVariants.{Default, Named, Bright, Indexed, Direct}
use Rattle.ansi_style.specs.declared.style.Hue.{Hue}
use Rattle.ansi_style.specs.declared.style.Hue.TheVariants.{Black, Red, Green, Yellow, Blue, Magenta, Cyan, White}
use Rattle.ansi_style.specs.Style.{hue_at}
use Rattle.ansi_html.specs.declared.contrast.Rgb.{Rgb}
use Rattle.ansi_html.specs.declared.palette.Shades.{Shades}
use Rattle.ansi_html.specs.Contrast.{rgb}

-- the last hexadecimal digit of a number, in lower case
abbrev pub hex_digit : ℕ → ℕ
hex_digit n = if nat_lt (n % 16) 10 then 0x30 + n % 16 else 0x57 + n % 16

-- a byte, in two digits
abbrev pub hex_byte : ℕ → List ℕ
hex_byte n = hex_digit (n / 16) ∷ hex_digit n ∷ []

-- #rrggbb (CSS Color, 5.2)
abbrev pub hex : Rgb → List ℕ
hex color = codes "#" ++ (hex_byte color.red ++ (hex_byte color.green ++ hex_byte color.blue))

-- a colour by its number, as CSS writes it
abbrev pub rgb_of : ℕ → Rgb
rgb_of n = rgb (n / 0x10000 % 0x100) (n / 0x100 % 0x100) (n % 0x100)

-- A colour as a text on light pages and on dark ones, before these make a shade of it, and where
-- the stream selects a ground.
abbrev pub shaded : (light dark fixed : ℕ) → Shades
shaded light dark fixed = record { light = rgb_of light; dark = rgb_of dark; fixed = rgb_of fixed }

abbrev pub alike : Rgb → Shades
alike color = record { light = color; dark = color; fixed = color }

-- Light and dark: after the terminal palette of GitHub's Primer. Its yellow on light pages is brown, and its magenta
-- violet: so yellow is `yellow.5` of its scale, and bright yellow less red; magenta is VS Code's on light pages and its
-- bright one on dark ones (terminalColorRegistry.ts), and bright magenta is xterm's magenta and its number 213. Bright
-- blue, cyan and white on light pages and both blacks on dark ones are moved away from the page, so that each is read
-- there as it is (tests/contrast). Fixed: xterm's palette (its file XTerm-color).
abbrev pub named_shades : Hue → Shades
named_shades Black = shaded 0x24292F 0x7E8691 0x000000
named_shades Red = shaded 0xCF222E 0xFF7B72 0xCD0000
named_shades Green = shaded 0x116329 0x3FB950 0x00CD00
named_shades Yellow = shaded 0x9A6700 0xD29922 0xCDCD00
named_shades Blue = shaded 0x0969DA 0x58A6FF 0x0000EE
named_shades Magenta = shaded 0xBC05BC 0xD670D6 0xCD00CD
named_shades Cyan = shaded 0x1B7C83 0x39C5CF 0x00CDCD
named_shades White = shaded 0x6E7781 0xB1BAC4 0xE5E5E5

abbrev pub bright_shades : Hue → Shades
bright_shades Black = shaded 0x57606A 0x8B949E 0x7F7F7F
bright_shades Red = shaded 0xA40E26 0xFFA198 0xFF0000
bright_shades Green = shaded 0x1A7F37 0x56D364 0x00FF00
bright_shades Yellow = shaded 0x867000 0xE3B341 0xFFFF00
bright_shades Blue = shaded 0x0550AE 0x79C0FF 0x5C5CFF
bright_shades Magenta = shaded 0xCD00CD 0xFF87FF 0xFF00FF
bright_shades Cyan = shaded 0x0E6B73 0x56D4DD 0x00FFFF
bright_shades White = shaded 0x656D76 0xFFFFFF 0xFFFFFF

-- one of the six steps of xterm's cube (256colres.pl of xterm)
abbrev pub level : ℕ → ℕ
level step = if step == 0 then 0 else 55 + 40 * step

abbrev pub cube : ℕ → Rgb
cube n = rgb (level (n / 36)) (level (n / 6 % 6)) (level (n % 6))

abbrev pub grey : ℕ → Rgb
grey n = rgb (8 + 10 * n) (8 + 10 * n) (8 + 10 * n)

-- one of 256: the eight, the eight bright ones, the cube of 216, and 24 greys
abbrev pub indexed : ℕ → Shades
indexed n =
    if nat_lt n 8 then named_shades (hue_at n)
    else if nat_lt n 16 then bright_shades (hue_at (n - 8))
    else if nat_lt n 232 then alike (cube (n - 16))
    else alike (grey (n - 232))

-- The shades of a colour. The page's own text is black on light pages and white on dark ones.
unfoldable pub shades_of : Color → Shades
shades_of Default = shaded 0x000000 0xFFFFFF 0x000000
shades_of (Named hue) = named_shades hue
shades_of (Bright hue) = bright_shades hue
shades_of (Indexed n) = indexed n
shades_of (Direct red green blue) = alike (rgb red green blue)
