-- The colours of a style, by what is selected of it.
use Rattle.std.proofs.Common.{◌≡◌, true, false, []}
use Rattle.std.specs.Prelude.{◌||◌}
use Rattle.ansi_style.specs.declared.style.Style.{Style}
use Rattle.ansi_html.specs.declared.scheme.Scheme.{Scheme}
use Rattle.ansi_html.specs.Palette.{shades_of}
use Rattle.ansi_html.specs.Css.{is_chosen, text_of, behind_of, on_chosen, colors_css}

pub colors_css-chosen : (scheme : Scheme) (style : Style) → is_chosen (behind_of style) ≡ true
    → colors_css scheme style ≡ on_chosen style.dim (text_of style) (shades_of (behind_of style)).fixed
unfolding colors_css
colors_css-chosen scheme style is = rw is

pub colors_css-none : (scheme : Scheme) (style : Style) → is_chosen (behind_of style) ≡ false → style.reverse ≡ false
    → (is_chosen (text_of style) || style.dim) ≡ false → colors_css scheme style ≡ []
unfolding colors_css
colors_css-none scheme style plain straight none = rw (plain, none, straight)
