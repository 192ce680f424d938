-- The rules of a style's classes declare what its attribute `style` would, of the style in the 256 colours.
use Rattle.std.proofs.Common.{◌≡◌, ℕ, ◌+◌, Bool, true, false, ◌&&◌, ◌||◌, List, [], ◌∷◌, ◌++◌, codes, refl, sym, ap, ap₂, ◌∙◌, subst, append_assoc, append-nil}
use Rattle.std.specs.Prelude.{not, Option, None, Some, option_to_list, if◌then◌else◌}
use Rattle.std.specs.List.{flat_map}
use Rattle.ansi_style.specs.declared.style.Style.{Style}
use Rattle.ansi_style.specs.declared.style.Color.{Color}
use Rattle.ansi_style.specs.declared.style.Color.TheVariants.{Default, Named, Bright, Indexed, Direct}
use Rattle.ansi_style.specs.declared.style.Hue.{Hue}
use Rattle.ansi_style.specs.declared.style.Hue.TheVariants.{Black, Red, Green, Yellow, Blue, Magenta, Cyan, White}
use Rattle.ansi_style.specs.declared.style.Underline.{Underline}
use Rattle.ansi_style.specs.declared.style.Underline.TheVariants.{Off, Single, Double, Curly, Dotted, Dashed}
use Rattle.ansi_style.specs.Style.{hue_number}
use Rattle.ansi_html.specs.declared.scheme.Scheme.{Scheme}
use Rattle.ansi_html.specs.declared.scheme.Styling.TheVariants.{Inline}
use Rattle.ansi_html.specs.declared.palette.Shades.{Shades}
use Rattle.ansi_html.specs.declared.class.Class.{Class}
use Rattle.ansi_html.specs.declared.class.Class.TheVariants.{Link, Bold, Italic, Lines, Hidden}
use Rattle.ansi_html.specs.declared.contrast.Rgb.{Rgb}
use Rattle.ansi_html.specs.Contrast.{ink, dim_on}
use Rattle.ansi_html.specs.Palette.{shades_of}
use Rattle.ansi_html.specs.Css.{declared, themed, is_chosen, light_text, dark_text, reversed_ground, colors_css, text_if, is_underlined, lines_css, underline_css, others_css}
use Rattle.ansi_html.specs.Classes.{number_of, text_class_by, ground_class_by, text_class, ground_class, class_if, lines_class, underline_class, classes_of}
use Rattle.ansi_html.specs.Stylesheet.{declarations_of, snapped_color, snapped}
use Rattle.ansi_html.specs.Html.{value_of}

-- The colours of a style, by what is chosen and its shades.
abbrev fixed_text : (dim chosen : Bool) (text behind : Shades) → Rgb
fixed_text dim chosen text behind =
    if dim then dim_on (if chosen then text.fixed else ink behind.fixed) behind.fixed else if chosen then text.fixed else ink behind.fixed

abbrev colors_by : Scheme → (dim reverse text_chosen : Bool) (text : Shades) (behind_chosen : Bool) (behind : Shades) → List ℕ
colors_by scheme dim reverse text_chosen text behind_chosen behind =
    if behind_chosen then declared (codes "color:") (fixed_text dim text_chosen text behind) ++ declared (codes "background-color:") behind.fixed
    else if reverse then themed scheme (codes "color:") (dark_text dim text) (light_text dim text) ++ reversed_ground scheme
    else if text_chosen || dim then themed scheme (codes "color:") (light_text dim text) (dark_text dim text)
    else []

-- a colour's number, whether it is chosen, and its shades
data IsOf : Option ℕ → Bool → Shades → Type 0 where
  default : IsOf None false (shades_of Default)
  numbered : (n : ℕ) → IsOf (Some n) true (shades_of (Indexed n))

named-same : (hue : Hue) → shades_of (Indexed (hue_number hue)) ≡ shades_of (Named hue)
unfolding shades_of
named-same Black = refl
named-same Red = refl
named-same Green = refl
named-same Yellow = refl
named-same Blue = refl
named-same Magenta = refl
named-same Cyan = refl
named-same White = refl

bright-same : (hue : Hue) → shades_of (Indexed (8 + hue_number hue)) ≡ shades_of (Bright hue)
unfolding shades_of
bright-same Black = refl
bright-same Red = refl
bright-same Green = refl
bright-same Yellow = refl
bright-same Blue = refl
bright-same Magenta = refl
bright-same Cyan = refl
bright-same White = refl

IsOf-color : (color : Color) → IsOf (number_of color) (is_chosen color) (shades_of (snapped_color color))
IsOf-color Default = default
IsOf-color (Named hue) = subst (IsOf (Some (hue_number hue)) true) (named-same hue) (numbered (hue_number hue))
IsOf-color (Bright hue) = subst (IsOf (Some (8 + hue_number hue)) true) (bright-same hue) (numbered (8 + hue_number hue))
IsOf-color (Indexed n) = numbered _
IsOf-color (Direct red green blue) = numbered _

chosen-snapped : (color : Color) → is_chosen (snapped_color color) ≡ is_chosen color
chosen-snapped Default = refl
chosen-snapped (Named hue) = refl
chosen-snapped (Bright hue) = refl
chosen-snapped (Indexed n) = refl
chosen-snapped (Direct red green blue) = refl

-- what a class declares, where there is one
declared_by : Scheme → Option Class → List ℕ
declared_by scheme None = []
declared_by scheme (Some class) = declarations_of scheme class

module _ (scheme : Scheme) where
  colors-by : (dim reverse : Bool) {t : Option ℕ} {text_chosen : Bool} {text : Shades} {b : Option ℕ} {behind_chosen : Bool} {behind : Shades}
      → IsOf t text_chosen text → IsOf b behind_chosen behind
      → declared_by scheme (text_class_by dim reverse t b) ++ declared_by scheme (ground_class_by reverse b)
      ≡ colors_by scheme (dim && not (text_chosen && behind_chosen)) reverse text_chosen text behind_chosen behind
  unfolding declared_by shades_of
  colors-by true reverse (numbered m) (numbered n) = refl
  colors-by false reverse (numbered m) (numbered n) = refl
  colors-by true reverse default (numbered n) = refl
  colors-by false reverse default (numbered n) = refl
  colors-by true true (numbered m) default = refl
  colors-by false true (numbered m) default = refl
  colors-by true false (numbered m) default = append-nil _
  colors-by false false (numbered m) default = append-nil _
  colors-by true true default default = refl
  colors-by false true default default = refl
  colors-by true false default default = append-nil _
  colors-by false false default default = refl

  -- the same of a style's colours
  colors-snapped : (dim reverse : Bool) (text behind : Color)
      → declared_by scheme (text_class_by dim reverse (number_of text) (number_of behind)) ++ declared_by scheme (ground_class_by reverse (number_of behind))
      ≡ colors_by scheme (dim && not (is_chosen text && is_chosen behind)) reverse (is_chosen (snapped_color text)) (shades_of (snapped_color text)) (is_chosen (snapped_color behind)) (shades_of (snapped_color behind))
  colors-snapped dim reverse text behind =
      colors-by dim reverse (IsOf-color text) (IsOf-color behind)
      ∙ ap₂ (λ (t b : Bool). colors_by scheme (dim && not (is_chosen text && is_chosen behind)) reverse t (shades_of (snapped_color text)) b (shades_of (snapped_color behind)))
      (sym (chosen-snapped text)) (sym (chosen-snapped behind))

  and-turned : (a b : Bool) → (a && b) ≡ (b && a)
  and-turned true true = refl
  and-turned true false = refl
  and-turned false true = refl
  and-turned false false = refl

  colors-style : (style : Style) → declared_by scheme (text_class style) ++ declared_by scheme (ground_class style) ≡ colors_css scheme (snapped style)
  unfolding colors_css
  colors-style style = by_case style.reverse
    where
      text : Color
      text = style.foreground

      behind : Color
      behind = style.background

      by_case : (reverse : Bool)
          → declared_by scheme (text_class_by style.dim reverse (number_of (if reverse then style.background else style.foreground)) (number_of (if reverse then style.foreground else style.background)))
          ++ declared_by scheme (ground_class_by reverse (number_of (if reverse then style.foreground else style.background)))
          ≡ colors_by scheme (style.dim && not (is_chosen style.foreground && is_chosen style.background)) reverse
          (is_chosen (if reverse then snapped_color style.background else snapped_color style.foreground)) (shades_of (if reverse then snapped_color style.background else snapped_color style.foreground))
          (is_chosen (if reverse then snapped_color style.foreground else snapped_color style.background)) (shades_of (if reverse then snapped_color style.foreground else snapped_color style.background))
      by_case false = colors-snapped style.dim false style.foreground style.background
      by_case true =
          colors-snapped style.dim true style.background style.foreground
          ∙ ap (λ (both : Bool). colors_by scheme (style.dim && not both) true (is_chosen (snapped_color style.background)) (shades_of (snapped_color style.background)) (is_chosen (snapped_color style.foreground)) (shades_of (snapped_color style.foreground)))
          (and-turned (is_chosen style.background) (is_chosen style.foreground))

  -- what is not a colour
  declared_by-if : (wanted : Bool) (class : Class) → declared_by scheme (class_if wanted class) ≡ text_if wanted (declarations_of scheme class)
  unfolding declared_by
  declared_by-if true class = refl
  declared_by-if false class = refl

  declared_by-lines : (underlined overlined struck_out blink : Bool)
      → declared_by scheme (class_if (underlined || (overlined || (struck_out || blink))) (Lines underlined overlined struck_out blink)) ≡ lines_css underlined overlined struck_out blink
  unfolding declared_by
  declared_by-lines true overlined struck_out blink = refl
  declared_by-lines false true struck_out blink = refl
  declared_by-lines false false true blink = refl
  declared_by-lines false false false true = refl
  declared_by-lines false false false false = refl

  declared_by-underline : (underline : Underline) → declared_by scheme (underline_class underline) ≡ underline_css underline
  unfolding declared_by
  declared_by-underline Off = refl
  declared_by-underline Single = refl
  declared_by-underline Double = refl
  declared_by-underline Curly = refl
  declared_by-underline Dotted = refl
  declared_by-underline Dashed = refl

  declared-there : (classes : List (Option Class)) → flat_map (declarations_of scheme) (flat_map option_to_list classes) ≡ flat_map (declared_by scheme) classes
  unfolding declared_by
  declared-there [] = refl
  declared-there (None ∷ classes) = declared-there classes
  declared-there (Some class ∷ classes) = ap (λ l. declarations_of scheme class ++ l) (declared-there classes)

  -- The declarations of a style's classes.
  pub declarations-snapped : (linked : Bool) (style : Style) → flat_map (declarations_of scheme) (classes_of linked style) ≡ value_of (Inline scheme) linked (snapped style)
  unfolding classes_of
  declarations-snapped linked style =
      let by = declared_by scheme in
      let joined : List ℕ → List ℕ → List ℕ = λ a b. a ++ b in
      let underlined = is_underlined style.underline in
      let others = by (class_if style.bold Bold) ++ (by (class_if style.italic Italic) ++ (by (lines_class style) ++ (by (underline_class style.underline) ++ (by (class_if style.hidden Hidden) ++ [])))) in
      let others_same : others ≡ others_css style
      = ap₂ joined (declared_by-if style.bold Bold) (ap₂ joined (declared_by-if style.italic Italic)
      (ap₂ joined (declared_by-lines underlined style.overlined style.struck_out style.blink) (ap₂ joined (declared_by-underline style.underline)
      (append-nil (by (class_if style.hidden Hidden)) ∙ declared_by-if style.hidden Hidden)))) in
      declared-there
      (class_if linked Link ∷ text_class style ∷ ground_class style ∷ class_if style.bold Bold ∷ class_if style.italic Italic
      ∷ lines_class style ∷ underline_class style.underline ∷ class_if style.hidden Hidden ∷ [])
      ∙ ap₂ joined (declared_by-if linked Link)
      (sym (append_assoc (by (text_class style)) (by (ground_class style)) others) ∙ ap₂ joined (colors-style style) others_same)
