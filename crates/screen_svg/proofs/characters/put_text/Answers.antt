-- One character more; all are those of the text.
use Rattle.std.proofs.Common.{List, ℕ, [], ◌∷◌, ◌++◌, sym, ◌∙◌, ap, subst}
use Rattle.std.specs.List.{flat_map}
use Rattle.std.proofs.lemmas.Grind.{flat_map-append}
use Rattle.std.proofs.lemmas.Iterator.{YieldsList-from_chars}
use Rattle.std.proofs.lemmas.Iterator.Consumers.{YieldsList-end}
use Rattle.std.proofs.lemmas.List.{map-id, append-nil}
use Rattle.anstyle_parse.specs.Io.Output.{Adds}
use Rattle.anstyle_parse.proofs.Written.Output.{Adds-nil}
use Rattle.ansi_html.specs.Html.{escaped_text}
use Rattle.screen_svg.specs.Characters.{character_text}
use Rattle.screen_svg.proofs.AddsLemmas.{Adds-escaped}
use Rattle.screen_svg.proofs.characters.put_text.Goals as goal

pub loop-c-init : goal.loop-c-init
loop-c-init g c = Adds-nil g.W.Sink c.args.output.now

pub loop-c-preserved : goal.loop-c-preserved
loop-c-preserved g c =
    let so_far : List ℕ = flat_map character_text c.loop-c.yielded in
    let one : List ℕ = character_text c.in-Some.c in
    subst (λ t. Adds g.W.Sink (escaped_text t) c.args.output.now c.put_allowed.new.output)
    (ap (λ t. so_far ++ t) (sym (append-nil one)) ∙ sym (flat_map-append character_text c.loop-c.yielded (c.in-Some.c ∷ [])))
    (Adds-escaped g.W.Sink so_far one c.args.output.now c.loop-c.output c.put_allowed.new.output c.loop-c.invariant c.put_allowed.ensures)

pub returns : goal.returns
returns g c =
    let end = YieldsList-end (YieldsList-from_chars c.args.text.now c.utf8.text cc) c.loop-c.yielded _ c.loop-c.yielded_by _ _ c.in-None.is c.next.ensures.steps in
    subst (λ (cs : List ℕ). Adds g.W.Sink (escaped_text (flat_map character_text cs)) c.args.output.now c.loop-c.output)
    (sym (map-id c.loop-c.yielded) ∙ end.0) c.loop-c.invariant
