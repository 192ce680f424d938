-- The last cell of a row says it, as the one of the list.
use Rattle.std.proofs.Common.{◌≡◌, ◌+◌, ◌*◌, ◌<◌, List, length, set, refl, ap, sym, ◌∙◌, subst}
use Rattle.std.proofs.lemmas.List.{get_or_read, set-get_or}
use Rattle.ansi_screen.specs.declared.cell.Cell.{Cell}
use Rattle.ansi_screen.specs.Cells.{going_on}
use Rattle.ansi_screen.specs.Grid.{Grid, flat, in_order}
use Rattle.ansi_screen.proofs.GridLemmas.{with-rows, edited, row-going}
use Rattle.ansi_screen.proofs.grid.Grid.set_goes_on.Goals as goal

pub returns-clause-cells : goal.returns-clause-cells
returns-clause-cells c =
    let w = c.self.inside.width in
    let order = c.self.inside.order.items in
    let rows = c.self.inside.rows.items in
    let r = c.args.row in
    let at = c.from-at.result in
    let new = c.set_goes_on.new.self in
    let inside : r < length order = subst (λ (g : Grid). r < g.height) (sym c.self.view_is) c.requires in
    let same = c.from-at.ensures ∙ get_or_read order r c.index.result.now inside c.index.ensures 0 in
    with-rows w order order rows (set rows at new) c.args.self.now (λ (g : Grid). going_on c.args.on (r * g.width + g.width) g.cells) refl c.self.view_is
    (edited w r order rows c.self.invariant.0 c.self.invariant.1 c.self.invariant.2 inside (λ l. going_on c.args.on (length l) l) (λ l. going_on c.args.on (r * w + w) l) at c.index_mut.result.now new same
    c.index_mut.ensures.value c.set_goes_on.ensures.cells
    (row-going w r order rows c.self.invariant.0 c.self.invariant.1 c.self.invariant.2 inside c.args.on))

pub returns-clause-same : goal.returns-clause-same
returns-clause-same c = λ none.
    let order = c.self.inside.order.items in
    let rows = c.self.inside.rows.items in
    let at = c.from-at.result in
    let row = c.index_mut.result.now in
    let kept : set rows at c.set_goes_on.new.self ≡ rows =
    ap (set rows at) (c.set_goes_on.ensures.same none ∙ c.index_mut.ensures.value) ∙ set-get_or rows at row in
    ap (λ (l : List (List Cell)). let g : Grid = record { width = c.self.inside.width; height = length order; cells = flat (in_order order l) } in g) kept
    ∙ c.self.view_is
