-- A cell more.
use Rattle.std.proofs.Common.{List, ℕ, ◌++◌, [], ◌∷◌, refl, ap, sym, ◌∙◌, subst, append_assoc, append-nil}
use Rattle.std.specs.List.{flat_map}
use Rattle.std.proofs.lemmas.Grind.{flat_map-append}
use Rattle.anstyle_parse.specs.Io.Output.{Adds}
use Rattle.anstyle_parse.specs.Io.AddingProof.{Adds-nil}
use Rattle.ansi_html.specs.Html.{escaped_text}
use Rattle.screen_svg.specs.Characters.{cell_text}
use Rattle.screen_svg.proofs.AddsLemmas.{Adds-escaped}
use Rattle.screen_svg.proofs.text.put_cells.Goals as goal

pub rest-init : goal.rest-init
rest-init g c = ([], refl, Adds-nil g.W.Sink c.args.output.now)

pub rest-preserved : goal.rest-preserved
rest-preserved g c =
    let (passed, joined, added) = c.rest.invariant in
    let first = c.in-Some.first.now in
    let further = c.in-Some.further.now in
    let texts = flat_map cell_text passed in
    let more = flat_map-append cell_text passed (first ∷ []) ∙ ap (λ l. texts ++ l) (append-nil (cell_text first)) in (
      passed ++ first ∷ [],
      joined ∙ ap (λ l. passed ++ l) c.in-Some.ensures.cases.0 ∙ sym (append_assoc passed (first ∷ []) further),
      subst (λ (t : List ℕ). Adds g.W.Sink (escaped_text t) c.args.output.now c.put_cell.new.output) (sym more)
          (Adds-escaped g.W.Sink texts (cell_text first) c.args.output.now c.rest.output c.put_cell.new.output added c.put_cell.ensures),
    )
