-- One cell more.
use Rattle.std.proofs.Common.{◌++◌, [], ◌∷◌, refl, ap, sym, ◌∙◌, append_assoc}
use Rattle.screen_calls.specs.Rows.{pen_in}
use Rattle.screen_calls.proofs.ReceivedLemmas.{cells-given, pen-given}
use Rattle.screen_calls.proofs.rows.give_cells.Goals as goal

pub rest-init : goal.rest-init
rest-init g c = ([], refl, g.met.P.PerformText.follows.none c.args.performer.now, refl)

pub rest-preserved : goal.rest-preserved
rest-preserved g c =
    let (passed, joined, received, stands) = c.rest.invariant in
    let first = c.in-Some.first.now in
    let further = c.in-Some.further.now in
    let places = c.args.links.now.places in
    let at = pen_in c.args.pen.now in
    let here = pen_in c.rest.pen in (
      passed ++ first ∷ [],
      joined ∙ ap (λ l. passed ++ l) c.in-Some.ensures.cases.0 ∙ sym (append_assoc passed (first ∷ []) further),
      cells-given g.P.PerformText.receives g.met.P.PerformText.follows.more places at passed first here c.args.performer.now c.rest.performer c.give_cell.new.performer
          received stands c.give_cell.ensures.received,
      pen-given places at passed first here (pen_in c.give_cell.new.pen) stands c.give_cell.ensures.pen,
    )
