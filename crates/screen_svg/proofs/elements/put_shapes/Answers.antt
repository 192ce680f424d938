-- A shape more.
use Rattle.std.proofs.Common.{List, ℕ, ◌++◌, [], ◌∷◌, refl, ap, sym, ◌∙◌, subst, append_assoc}
use Rattle.anstyle_parse.specs.Io.Output.{Adds}
use Rattle.anstyle_parse.specs.Io.AddingProof.{Adds-nil}
use Rattle.anstyle_parse.proofs.Written.Output.{Adds-append}
use Rattle.screen_svg.specs.Shapes.{shape_of}
use Rattle.screen_svg.specs.Picture.{shapes_text}
use Rattle.screen_svg.proofs.ShapeLemmas.{shapes-more}
use Rattle.screen_svg.proofs.elements.put_shapes.Goals as goal

pub rest-init : goal.rest-init
rest-init g c = ([], refl, Adds-nil g.W.Sink c.args.output.now)

pub rest-preserved : goal.rest-preserved
rest-preserved g c =
    let (passed, joined, added) = c.rest.invariant in
    let first = c.in-Some.first.now in
    let further = c.in-Some.further.now in
    let shapes = shapes_text passed in
    let one = shape_of first.character in
    let start = c.args.output.now in
    let end = c.put.new.self in (
      passed ++ first ∷ [],
      joined ∙ ap (λ l. passed ++ l) c.in-Some.ensures.cases.0 ∙ sym (append_assoc passed (first ∷ []) further),
      subst (λ (t : List ℕ). Adds g.W.Sink t start end) (sym (shapes-more passed first))
          (Adds-append g.W.Sink shapes one start c.rest.output end added
          (subst (λ (t : List ℕ). Adds g.W.Sink t c.rest.output end) c.shape_of.ensures c.put.ensures)),
    )
