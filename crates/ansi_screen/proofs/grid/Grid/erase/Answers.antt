-- A row is erased, and so is the part of the list that it is.
use Rattle.std.proofs.Common.{◌+◌, ◌*◌, ◌<◌, ◌≤◌, length, set, refl, sym, ◌∙◌, subst}
use Rattle.std.proofs.lemmas.List.{get_or_read}
use Rattle.ansi_screen.specs.Cells.{blank, change, erased}
use Rattle.ansi_screen.specs.Grid.{Grid}
use Rattle.ansi_screen.proofs.GridLemmas.{with-rows, edited, row-change}
use Rattle.ansi_screen.proofs.grid.Grid.erase.Goals as goal

pub returns : goal.returns
returns c =
    let w = c.self.inside.width in
    let order = c.self.inside.order.items in
    let rows = c.self.inside.rows.items in
    let r = c.args.row in
    let at = c.from-at.result in
    let new = c.erase.new.self in
    let inside : r < length order = subst (λ (g : Grid). r < g.height) (sym c.self.view_is) c.requires.row in
    let same = c.from-at.ensures ∙ get_or_read order r c.index.result.now inside c.index.ensures 0 in
    let fits : c.args.end ≤ w = subst (λ (g : Grid). c.args.end ≤ g.width) (sym c.self.view_is) c.requires.within in
    with-rows w order order rows (set rows at new) c.args.self.now (λ (g : Grid). change (r * g.width + c.args.start) (r * g.width + c.args.end) (erased (blank c.args.style)) g.cells) refl c.self.view_is
    (edited w r order rows c.self.invariant.0 c.self.invariant.1 c.self.invariant.2 inside (λ l. change c.args.start c.args.end (erased (blank c.args.style)) l) (λ l. change (r * w + c.args.start) (r * w + c.args.end) (erased (blank c.args.style)) l) at c.index_mut.result.now new same
    c.index_mut.ensures.value c.erase.ensures.cells
    (row-change w r order rows c.self.invariant.0 c.self.invariant.1 c.self.invariant.2 inside c.args.start c.args.end (erased (blank c.args.style)) c.requires.order fits))
