-- A block more, or one cell.
use Rattle.std.proofs.Common.{◌++◌, [], ◌∷◌, take, refl, ap, sym, ◌∙◌, append_assoc, append-nil, take-append-drop}
use Rattle.anstyle_parse.specs.Io.AddingProof.{Adds-nil}
use Rattle.ansi_screen.specs.Text.{cell_text}
use Rattle.ansi_screen.proofs.TextLemmas.{Adds-cells}
use Rattle.ansi_screen.proofs.text.put_cells.Goals as goal

pub rest-init : goal.rest-init
rest-init g c = ([], refl, Adds-nil g.W.Sink c.args.output.now)

pub rest-preserved-then-count-eq0 : goal.rest-preserved-then-count-eq0
rest-preserved-then-count-eq0 g c =
    let (passed, joined, added) = c.rest.invariant in
    let first = c.in-Some.first.now in
    let further = c.in-Some.further.now in (
      passed ++ first ∷ [],
      joined ∙ ap (λ l. passed ++ l) c.in-Some.ensures.cases.0 ∙ sym (append_assoc passed (first ∷ []) further),
      Adds-cells g.W.Sink passed (first ∷ []) (cell_text first) c.args.output.now c.rest.output c.put_cell.new.output added c.put_cell.ensures
          (sym (append-nil (cell_text first))),
    )

pub rest-preserved : goal.rest-preserved
rest-preserved g c =
    let (passed, joined, added) = c.rest.invariant in
    let rest = c.rest.rest.now in
    let n = c.copy_unmarked-count.result.0 in (
      passed ++ take n rest,
      joined ∙ ap (λ l. passed ++ l) (sym (take-append-drop n rest) ∙ ap (λ l. take n rest ++ l) (sym c.split_at.ensures.back))
          ∙ sym (append_assoc passed (take n rest) c.split_at.result.1.now),
      Adds-cells g.W.Sink passed (take n rest) _ c.args.output.now c.rest.output c.put.new.self added c.put.ensures c.copy_unmarked-count.ensures.text,
    )
