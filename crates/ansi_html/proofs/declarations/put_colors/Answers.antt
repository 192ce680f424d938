use Rattle.std.proofs.Common.{◌||◌, Bool, List, ℕ, sym, ap, ◌∙◌, subst}
use Rattle.anstyle_parse.specs.Io.Output.{Adds}
use Rattle.ansi_style.specs.declared.style.Color.{Color}
use Rattle.ansi_html.specs.declared.palette.Shades.{Shades}
use Rattle.ansi_html.specs.Palette.{shades_of}
use Rattle.ansi_html.specs.Css.{is_chosen, text_of, on_chosen}
use Rattle.ansi_html.proofs.TagLemmas.{colors_css-chosen}
use Rattle.ansi_html.proofs.declarations.put_colors.Goals as goal

pub returns-then-is_chosen : goal.returns-then-is_chosen
returns-then-is_chosen g c =
    let style = c.args.style.now in
    let is = ap is_chosen (sym c.colors_of-text.ensures.behind) ∙ sym c.is_chosen.ensures ∙ c.if-is_chosen.true in
    let fixed = ap (λ (s : Shades). s.fixed) (c.shades_of.ensures ∙ ap shades_of c.colors_of-text.ensures.behind) in
    let same =
    ap (λ (t : Color). on_chosen style.dim t c.shades_of.result.fixed) c.colors_of-text.ensures.text
    ∙ ap (on_chosen style.dim (text_of style)) fixed
    ∙ sym (colors_css-chosen c.args.scheme style is) in
    subst (λ (text : List ℕ). Adds g.W.Sink text c.args.output.now c.put_on_chosen.new.output) same c.put_on_chosen.ensures
