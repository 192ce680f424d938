-- One cell more.
use Rattle.std.proofs.Common.{◌++◌, [], ◌∷◌, refl, ap, sym, ◌∙◌, append_assoc, append-nil}
use Rattle.ansi_screen.specs.Text.{cell_text}
use Rattle.screen_pieces.proofs.TextLemmas.{Puts-nil, Puts-cells}
use Rattle.screen_pieces.proofs.text.TextWriter.put_cells.Goals as goal

pub rest-init : goal.rest-init
rest-init c = ([], refl, Puts-nil c.args.self.now)

pub rest-preserved : goal.rest-preserved
rest-preserved c =
    let (passed, joined, puts) = c.rest.invariant in
    let first = c.in-Some.first.now in
    let further = c.in-Some.further.now in (
      passed ++ first ∷ [],
      joined ∙ ap (λ l. passed ++ l) c.in-Some.ensures.cases.0 ∙ sym (append_assoc passed (first ∷ []) further),
      Puts-cells passed (first ∷ []) (cell_text first) c.args.self.now c.rest.self c.put_cell.new.self puts c.put_cell.ensures (sym (append-nil (cell_text first))),
    )
