-- What the bytes of a style say. Any bytes are a style.
use Rattle.std.specs.Prelude.{ℕ, Bool, not, List, [], ◌∷◌, ◌==◌, if◌then◌else◌}
use Rattle.ansi_style.specs.declared.style.Color.{Color}
use Rattle.ansi_style.specs.declared.style.Color.TheVariants.{Default, Named, Bright, Indexed, Direct}
use Rattle.ansi_style.specs.declared.style.Underline.{Underline}
use Rattle.ansi_style.specs.declared.style.Underline.TheVariants.{Off, Single, Double, Curly, Dotted, Dashed}
use Rattle.ansi_style.specs.declared.style.Style.{Style}
use Rattle.ansi_style.specs.Style.{hue_at}
use Rattle.ansi_style.specs.declared.bytes.ColorBytes.{ColorBytes}
use Rattle.ansi_style.specs.declared.bytes.StyleBytes.{StyleBytes}

-- the first byte of a list, and what is after it
abbrev pub first_of : List ℕ → ℕ
first_of [] = 0
first_of (b ∷ bytes) = b

abbrev pub after : List ℕ → List ℕ
after [] = []
after (b ∷ bytes) = bytes

-- a colour by its kind and its numbers; any other kind is the terminal's own
abbrev pub color_by : (kind : ℕ) → (first second third : ℕ) → Color
color_by kind first second third =
    if kind == 1 then Named (hue_at first)
    else if kind == 2 then Bright (hue_at first)
    else if kind == 3 then Indexed first
    else if kind == 4 then Direct first second third
    else Default

-- the kind of a colour by its number, as `color_by` has it
abbrev pub kind_of : Color → ℕ
kind_of Default = 0
kind_of (Named hue) = 1
kind_of (Bright hue) = 2
kind_of (Indexed number) = 3
kind_of (Direct red green blue) = 4

abbrev pub color_of : ColorBytes → Color
color_of bytes =
    color_by bytes.kind (first_of bytes.values) (first_of (after bytes.values)) (first_of (after (after bytes.values)))

-- any other number is none
abbrev pub underline_of : ℕ → Underline
underline_of number =
    if number == 1 then Single
    else if number == 2 then Double
    else if number == 3 then Curly
    else if number == 4 then Dotted
    else if number == 5 then Dashed
    else Off

-- 0 is not, any other number is
abbrev pub is_set : ℕ → Bool
is_set number = not (number == 0)

abbrev pub style_of : StyleBytes → Style
style_of bytes = record {
  foreground = color_of bytes.foreground;
  background = color_of bytes.background;
  underline = underline_of bytes.underline;
  bold = is_set bytes.bold;
  dim = is_set bytes.dim;
  italic = is_set bytes.italic;
  blink = is_set bytes.blink;
  reverse = is_set bytes.reverse;
  hidden = is_set bytes.hidden;
  struck_out = is_set bytes.struck_out;
  overlined = is_set bytes.overlined;
}
