use Rattle.std.proofs.Common.{List, ℕ, ◌*◌, ◌++◌, codes, sym, subst}
use Rattle.anstyle_parse.specs.Io.Output.{Adds}
use Rattle.anstyle_parse.proofs.Written.Output.{Adds-append}
use Rattle.ansi_html.proofs.DeclarationLemmas.{escaped_text-safe}
use Rattle.screen_svg.specs.Runs.{run_of}
use Rattle.screen_svg.specs.Shapes.{shape_of}
use Rattle.screen_svg.specs.Picture.{pair, shapes_text, shape_place}
use Rattle.screen_svg.proofs.ShapeLemmas.{AreSafe-place}
use Rattle.screen_svg.proofs.elements.put_shape_place.Goals as goal

pub returns : goal.returns
returns g c =
    let first = c.args.first.now in
    let others = c.args.others.now in
    let run = run_of c.args.column first others in
    let value = shape_place c.args.row run in
    let place = pair (10 * c.args.column) (20 * c.args.row) in
    let one = shape_of first.character in
    let start = c.args.output.now in
    let begun = c.put.new.self in
    let placed = c.put_pair.new.output in
    let shaped = c.put-2.new.self in
    let ended = c.put_shapes.new.output in
    let last = c.put-3.new.self in
    let numbers = Adds-append g.W.Sink place (one ++ shapes_text others) begun placed ended c.put_pair.ensures
    (Adds-append g.W.Sink one (shapes_text others) placed shaped ended
    (subst (λ (t : List ℕ). Adds g.W.Sink t placed shaped) c.shape_of.ensures c.put-2.ensures) c.put_shapes.ensures) in
    subst (λ (t : List ℕ). Adds g.W.Sink (codes " " ++ (codes "d" ++ (codes "=\"" ++ (t ++ codes "\"")))) start last)
    (sym (escaped_text-safe value (AreSafe-place c.args.row run)))
    (Adds-append g.W.Sink (codes " d=\"M") ((place ++ (one ++ shapes_text others)) ++ codes "\"") start begun last c.put.ensures
    (Adds-append g.W.Sink (place ++ (one ++ shapes_text others)) (codes "\"") begun ended last numbers c.put-3.ensures))
