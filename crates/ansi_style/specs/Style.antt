-- The plain style, and the hues by their numbers.
use Rattle.std.specs.Prelude.{ℕ, ◌<◌, Bool, false, if◌then◌else◌, ◌==◌, ⊤}
use Rattle.ansi_style.specs.declared.style.Style.{Style}
use Rattle.ansi_style.specs.declared.style.Color.{Color}
use Rattle.ansi_style.specs.declared.style.Color.TheVariants.{Default, Named, Bright, Indexed, Direct}
use Rattle.ansi_style.specs.declared.style.Underline.TheVariants.{Off}
use Rattle.ansi_style.specs.declared.style.Hue.{Hue}
use Rattle.ansi_style.specs.contracts.style.StylePartialEq.TheImpl.{ghosts}
use Rattle.ansi_style.specs.declared.style.Hue.TheVariants.{Black, Red, Green, Yellow, Blue, Magenta, Cyan, White}

-- default colours, and nothing else
abbrev pub plain : Style
plain = record {
  foreground = Default;
  background = Default;
  underline = Off;
  bold = false;
  dim = false;
  italic = false;
  blink = false;
  reverse = false;
  hidden = false;
  struck_out = false;
  overlined = false;
}

-- the number of a hue, 0 to 7: ECMA-48's 30 to 37 less 30
abbrev pub hue_number : Hue → ℕ
hue_number Black = 0
hue_number Red = 1
hue_number Green = 2
hue_number Yellow = 3
hue_number Blue = 4
hue_number Magenta = 5
hue_number Cyan = 6
hue_number White = 7

-- the hue of a number 0 to 7
abbrev pub hue_at : ℕ → Hue
hue_at n =
    if n == 0 then Black
    else if n == 1 then Red
    else if n == 2 then Green
    else if n == 3 then Yellow
    else if n == 4 then Blue
    else if n == 5 then Magenta
    else if n == 6 then Cyan
    else White

-- the numbers of a colour are bytes, as they are in every value of the type
abbrev pub HasBytes : Color → Type 0
HasBytes Default = ⊤
HasBytes (Named hue) = ⊤
HasBytes (Bright hue) = ⊤
HasBytes (Indexed n) = n < 256
HasBytes (Direct red green blue) = (red < 256) × (green < 256) × (blue < 256)

-- what `==` of styles answers
unfoldable pub are_equal : Style → Style → Bool
are_equal a b = ghosts.eq a b
