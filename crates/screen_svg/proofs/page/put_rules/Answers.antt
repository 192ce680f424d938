use Rattle.std.proofs.Common.{◌≡◌, List, ℕ, [], ◌++◌, codes, refl, sym, subst}
use Rattle.anstyle_parse.specs.Io.Output.{Adds}
use Rattle.anstyle_parse.proofs.Written.Output.{Adds-append}
use Rattle.ansi_html.specs.declared.scheme.Scheme.{Scheme}
use Rattle.ansi_html.specs.declared.scheme.Scheme.TheVariants.{Light, Dark, Both}
use Rattle.ansi_html.specs.Html.{escaped_text}
use Rattle.screen_svg.specs.Picture.{page_rules, shape_rules}
use Rattle.screen_svg.proofs.AddsLemmas.{Adds-element}
use Rattle.screen_svg.proofs.page.put_rules.Goals as goal

as_they_are : (scheme : Scheme) → escaped_text (page_rules scheme ++ shape_rules) ≡ page_rules scheme ++ shape_rules
as_they_are Light = refl
as_they_are Dark = refl
as_they_are Both = refl

pub returns : goal.returns
returns g c =
    let scheme = c.args.scheme in
    let begun = c.put.new.self in
    let ruled = c.put-2.new.self in
    let end = c.put-3.new.self in
    Adds-element g.W.Sink (codes "style") [] (page_rules scheme ++ shape_rules) c.args.output.now begun end c.put_end.new.output c.put.ensures
    (subst (λ t. Adds g.W.Sink t begun end) (sym (as_they_are scheme))
    (Adds-append g.W.Sink (page_rules scheme) shape_rules begun ruled end
    (subst (λ (t : List ℕ). Adds g.W.Sink t begun ruled) c.page_rules.ensures c.put-2.ensures) c.put-3.ensures))
    c.put_end.ensures
