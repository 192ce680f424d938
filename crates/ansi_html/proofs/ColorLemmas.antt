-- A style's colours stand in the grammar, and are read.
use Rattle.std.proofs.Common.{◌≡◌, ℕ, Bool, true, false, ◌||◌, ◌&&◌, List, [], refl, ap, ◌∙◌}
use Rattle.std.specs.Prelude.{if◌then◌else◌}
use Rattle.ansi_style.specs.declared.style.Style.{Style}
use Rattle.ansi_style.specs.declared.style.Color.{Color}
use Rattle.ansi_html.specs.declared.contrast.Rgb.{Rgb}
use Rattle.ansi_html.specs.declared.scheme.Scheme.{Scheme}
use Rattle.ansi_html.specs.Contrast.{are_readable, ink, dim_on}
use Rattle.ansi_html.specs.Palette.{shades_of}
use Rattle.ansi_html.specs.Css.{is_chosen, selects_both, text_of, behind_of, light_text, dark_text, on_page as page_css, on_reversed as reversed_css, color_on, on_chosen, colors_css}
use Rattle.ansi_html.specs.Grammar.{AreReadable, of_page, on_page, on_reversed, on_color, AreColors, readable, chosen}
use Rattle.ansi_html.proofs.ContrastLemmas.{IsReadOnLight-shade, IsReadOnDark-shade, ink-read, dim_on-read}

pub choose : (P : List ℕ → Type 0) (b : Bool) (xs ys : List ℕ) → P xs → P ys → P (if b then xs else ys)
choose P true xs ys x y = x
choose P false xs ys x y = y

choose_color : (P : Rgb → Type 0) (b : Bool) (one other : Rgb) → P one → P other → P (if b then one else other)
choose_color P true one other x y = x
choose_color P false one other x y = y

module _ (scheme : Scheme) where
  AreReadable-page : (dim : Bool) (text : Color) → AreReadable scheme (page_css scheme dim text)
  AreReadable-page dim text = on_page (light_text dim (shades_of text)) (dark_text dim (shades_of text)) (IsReadOnLight-shade _) (IsReadOnDark-shade _)

  AreReadable-reversed : (dim : Bool) (text : Color) → AreReadable scheme (reversed_css scheme dim text)
  AreReadable-reversed dim text = on_reversed (light_text dim (shades_of text)) (dark_text dim (shades_of text)) (IsReadOnLight-shade _) (IsReadOnDark-shade _)

  -- a ground that is chosen, and no text
  AreReadable-chosen : (dim : Bool) (text : Color) (behind : Rgb) → is_chosen text ≡ false → AreReadable scheme (on_chosen dim text behind)
  AreReadable-chosen dim text behind default =
      let color = color_on text behind in
      let is : are_readable color behind ≡ true
      = ap (λ (some : Bool). are_readable (if some then (shades_of text).fixed else ink behind) behind) default ∙ ink-read behind in
      on_color (if dim then dim_on color behind else color) behind
      (choose_color (λ it. are_readable it behind ≡ true) dim (dim_on color behind) color (dim_on-read color behind is) is)

  -- where no ground is chosen
  AreReadable-alone : (reverse : Bool) (dim : Bool) (text : Color)
      → AreReadable scheme (if reverse then reversed_css scheme dim text else if is_chosen text || dim then page_css scheme dim text else [])
  AreReadable-alone reverse dim text =
      choose (AreReadable scheme) reverse _ _ (AreReadable-reversed dim text)
      (choose (AreReadable scheme) (is_chosen text || dim) _ _ (AreReadable-page dim text) of_page)

  -- The colours of a style are in the grammar.
  pub AreColors-css : (style : Style) → AreColors scheme (colors_css scheme style)
  unfolding colors_css
  AreColors-css style =
      choose (AreColors scheme) (is_chosen (behind_of style)) _ _ (chosen _ _) (readable _ (AreReadable-alone style.reverse style.dim (text_of style)))

-- one of two is chosen, and not both
not_first : (x y : Bool) → (x && y) ≡ false → y ≡ true → x ≡ false
not_first true y both is = cc
not_first false y both is = refl

not_second : (x y : Bool) → (x && y) ≡ false → x ≡ true → y ≡ false
not_second true y both is = both
not_second false y both is = cc

text_default : (reverse : Bool) (text behind : Color) → (is_chosen text && is_chosen behind) ≡ false
    → is_chosen (if reverse then text else behind) ≡ true → is_chosen (if reverse then behind else text) ≡ false
text_default true text behind both is = not_second (is_chosen text) (is_chosen behind) both is
text_default false text behind both is = not_first (is_chosen text) (is_chosen behind) both is

-- They are read, unless the stream has selected both.
pub AreReadable-css : (scheme : Scheme) (style : Style) → selects_both style ≡ false → AreReadable scheme (colors_css scheme style)
unfolding colors_css
AreReadable-css scheme style both = by_case (is_chosen (behind_of style)) refl
  where
    color : Rgb
    color = (shades_of (behind_of style)).fixed

    by_case : (some : Bool) → is_chosen (behind_of style) ≡ some
        → AreReadable scheme (if some then on_chosen style.dim (text_of style) color
        else if style.reverse then reversed_css scheme style.dim (text_of style)
        else if is_chosen (text_of style) || style.dim then page_css scheme style.dim (text_of style) else [])
    by_case true e = AreReadable-chosen scheme style.dim (text_of style) color (text_default style.reverse style.foreground style.background both e)
    by_case false e = AreReadable-alone scheme style.reverse style.dim (text_of style)
