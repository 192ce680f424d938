-- Nothing is set exactly where it is the plain style.
use Rattle.std.proofs.Common.{◌≡◌, ◌&&◌, ◌||◌, Bool, true, false, refl, sym, ap, ◌∙◌}
use Rattle.std.specs.Prelude.{not}
use Rattle.std.specs.Bool.{beq}
use denote.Enum.Bare.{sameb}
use Rattle.ansi_style.specs.declared.style.Style.{Style}
use Rattle.ansi_style.specs.declared.style.Color.{Color}
use Rattle.ansi_style.specs.declared.style.Color.TheVariants.{Default, Named, Bright, Indexed, Direct}
use Rattle.ansi_style.specs.declared.style.Underline.{Underline}
use Rattle.ansi_style.specs.declared.style.Underline.TheVariants.{Off, Single, Double, Curly, Dotted, Dashed}
use Rattle.ansi_style.specs.contracts.style.Underline.{the_type as underline_type}
use Rattle.ansi_style.specs.contracts.style.ColorPartialEq.TheImpl.{ghosts as color_ghosts}
use Rattle.ansi_style.specs.Style.{are_equal}
use Rattle.ansi_html.specs.Css.{is_chosen, is_underlined}
use Rattle.ansi_html.specs.Html.{is_plain}
use Rattle.ansi_html.proofs.css.is_plain.Goals as goal

color-plain : (color : Color) → color_ghosts.eq color Default ≡ not (is_chosen color)
color-plain Default = refl
color-plain (Named hue) = refl
color-plain (Bright hue) = refl
color-plain (Indexed number) = refl
color-plain (Direct red green blue) = refl

underline-plain : (underline : Underline) → sameb underline_type underline Off ≡ not (is_underlined underline)
underline-plain Off = refl
underline-plain Single = refl
underline-plain Double = refl
underline-plain Curly = refl
underline-plain Dotted = refl
underline-plain Dashed = refl

flag-plain : (flag : Bool) → beq flag false ≡ not flag
flag-plain true = refl
flag-plain false = refl

-- two that are plain, by what is set of either
both : (plain_first plain_rest first rest : Bool) → plain_first ≡ not first → plain_rest ≡ not rest → (plain_first && plain_rest) ≡ not (first || rest)
both plain_first plain_rest true rest one two = ap (λ (b : Bool). b && plain_rest) one
both plain_first plain_rest false rest one two = ap (λ (b : Bool). b && plain_rest) one ∙ two

is_plain-fields : (s : Style) → is_plain s ≡ not (is_chosen s.foreground || (is_chosen s.background || (is_underlined s.underline
    || (s.bold || (s.dim || (s.italic || (s.blink || (s.reverse || (s.hidden || (s.struck_out || s.overlined))))))))))
unfolding are_equal
is_plain-fields s =
    both _ _ (is_chosen s.foreground) _ (color-plain s.foreground)
    (both _ _ (is_chosen s.background) _ (color-plain s.background)
    (both _ _ (is_underlined s.underline) _ (underline-plain s.underline)
    (both _ _ s.bold _ (flag-plain s.bold)
    (both _ _ s.dim _ (flag-plain s.dim)
    (both _ _ s.italic _ (flag-plain s.italic)
    (both _ _ s.blink _ (flag-plain s.blink)
    (both _ _ s.reverse _ (flag-plain s.reverse)
    (both _ _ s.hidden _ (flag-plain s.hidden)
    (both _ _ s.struck_out _ (flag-plain s.struck_out) (flag-plain s.overlined))))))))))

pub returns : goal.returns
returns c = ap not c.is_styled.ensures ∙ sym (is_plain-fields c.args.style.now)
