-- The stylesheet: a rule for each class that a style can have.
--
-- Source: CSS Syntax, 5 (rules), Selectors, 6.6 (a class). Each rule but the link's sets a property that no
-- other class of a style sets, so their order counts for the link's alone, which is the first one: of two
-- rules that set a property the later one counts (CSS Cascade, 6.1).
use Rattle.std.specs.Prelude.{ℕ, Bool, true, false, ◌/◌, ◌%◌, ◌==◌, ◌&&◌, not, List, [], ◌∷◌, ◌++◌, Option, None, Some, codes}
use Rattle.std.specs.List.{flat_map, list_any, range_with_len}
use Rattle.std.specs.Str.{bytes_eq}
use Rattle.ansi_style.specs.declared.style.Style.{Style}
use Rattle.ansi_style.specs.declared.style.Color.{Color}
use Rattle.ansi_style.specs.declared.style.Color.TheVariants.{Default, Named, Bright, Indexed, Direct}
use Rattle.ansi_style.specs.declared.style.Underline.TheVariants.{Double, Curly, Dotted, Dashed}
use Rattle.ansi_html.specs.declared.scheme.Scheme.{Scheme}
use Rattle.ansi_html.specs.declared.class.Class.{Class}
use Rattle.ansi_html.specs.declared.class.Class.TheVariants.{Link, OnPage, OnReversed, OnGround, Ink, Reversed, Ground, Bold, Italic, Lines, Drawn, Hidden}
use Rattle.ansi_html.specs.Contrast.{rgb}
use Rattle.ansi_html.specs.Css.{declared, on_page, reversed_text, reversed_ground, text_on, selects_both, text_if, lines_css, underline_css}
use Rattle.ansi_html.specs.Nearest.{nearest, fixed_at}
use Rattle.ansi_html.specs.Classes.{class_name}

abbrev pub color_of : Option ℕ → Color
color_of None = Default
color_of (Some n) = Indexed n

-- the text on a ground that is chosen, where none is chosen for it
abbrev pub ink_declared : (dim : Bool) → (behind : ℕ) → List ℕ
ink_declared dim behind = declared (codes "color:") (text_on dim Default (fixed_at behind))

-- The declarations of a class, those that an attribute `style` has.
abbrev pub declarations_of : Scheme → Class → List ℕ
declarations_of scheme Link = codes "color:inherit;"
declarations_of scheme (OnPage dim number) = on_page scheme dim (color_of number)
declarations_of scheme (OnReversed dim number) = reversed_text scheme dim (color_of number)
declarations_of scheme (OnGround number) = declared (codes "color:") (fixed_at number)
declarations_of scheme (Ink dim number) = ink_declared dim number
declarations_of scheme Reversed = reversed_ground scheme
declarations_of scheme (Ground number) = declared (codes "background-color:") (fixed_at number)
declarations_of scheme Bold = codes "font-weight:bold;"
declarations_of scheme Italic = codes "font-style:italic;"
declarations_of scheme (Lines underlined overlined struck_out blink) = lines_css underlined overlined struck_out blink
declarations_of scheme (Drawn underline) = underline_css underline
declarations_of scheme Hidden = codes "visibility:hidden;"

abbrev pub rule : Scheme → Class → List ℕ
rule scheme class =
    codes "." ++ (class_name class ++ (codes "{" ++ (declarations_of scheme class ++ codes "}\n")))

-- The classes: for a text those of the default colour and of each of the 256, for a ground those of each, and
-- for lines one for each choice of some of the four.
abbrev pub texts_at : ℕ → List Class
texts_at n =
    OnPage false (Some n) ∷ OnPage true (Some n) ∷ OnReversed false (Some n) ∷ OnReversed true (Some n)
    ∷ OnGround n ∷ Ink false n ∷ Ink true n ∷ []

abbrev pub ground_at : ℕ → List Class
ground_at n = Ground n ∷ []

abbrev pub lines_at : ℕ → List Class
lines_at n = Lines (n % 2 == 1) (n / 2 % 2 == 1) (n / 4 % 2 == 1) (n / 8 == 1) ∷ []

abbrev pub first_classes : List Class
first_classes = Link ∷ OnPage true None ∷ OnReversed false None ∷ OnReversed true None ∷ []

abbrev pub last_classes : List Class
last_classes = Drawn Double ∷ Drawn Curly ∷ Drawn Dotted ∷ Drawn Dashed ∷ Hidden ∷ []

unfoldable pub vocabulary : List Class
vocabulary =
    first_classes ++ (flat_map texts_at (range_with_len 0 256)
    ++ (Reversed ∷ [] ++ (flat_map ground_at (range_with_len 0 256)
    ++ (Bold ∷ Italic ∷ [] ++ (flat_map lines_at (range_with_len 1 15) ++ last_classes)))))

unfoldable pub stylesheet : Scheme → List ℕ
stylesheet scheme = flat_map (rule scheme) vocabulary

-- What the rules declare for an element of these class names: a rule counts where its class is one of them, in
-- the order of the rules (CSS Cascade, 6.1).
abbrev pub applied : Scheme → (names : List (List ℕ)) → List ℕ
applied scheme names =
    flat_map
    (λ class. text_if (list_any (λ name. bytes_eq name (class_name class)) names) (declarations_of scheme class))
    vocabulary

-- A style in these colours: red, green and blue as the nearest of the 256. Dim is not shown where both
-- colours are chosen, since it would want a class for each two of them.
abbrev pub snapped_color : Color → Color
snapped_color Default = Default
snapped_color (Named hue) = Named hue
snapped_color (Bright hue) = Bright hue
snapped_color (Indexed n) = Indexed (n % 256)
snapped_color (Direct red green blue) = Indexed (nearest (rgb red green blue) % 256)

abbrev pub snapped : Style → Style
snapped style = record {
  foreground = snapped_color style.foreground;
  background = snapped_color style.background;
  underline = style.underline;
  bold = style.bold;
  dim = style.dim && not (selects_both style);
  italic = style.italic;
  blink = style.blink;
  reverse = style.reverse;
  hidden = style.hidden;
  struck_out = style.struck_out;
  overlined = style.overlined;
}
