-- A row is kept, and one that was kept before, which is made blank, takes its place.
use Rattle.std.proofs.Common.{◌≡◌, ◌+◌, ◌*◌, ◌<◌, List, length, set, refl, ap, sym, ◌∙◌, subst}
use Rattle.std.specs.Prelude.{replicate}
use Rattle.std.proofs.lemmas.List.{set-set, get_or-set_same, get_or_read}
use Rattle.ansi_screen.specs.declared.cell.Cell.{Cell}
use Rattle.ansi_screen.specs.Cells.{blank, within, erased}
use Rattle.ansi_screen.specs.Grid.{Grid, flat, in_order}
use Rattle.ansi_screen.specs.History.{kept_after}
use Rattle.ansi_screen.proofs.GridLemmas.{number-at, with-rows, edited, row-whole, row-cells}
use Rattle.ansi_screen.proofs.grid.Grid.hand_out_row.Goals as goal

pub returns-clause-cells : goal.returns-clause-cells
returns-clause-cells c =
    let w = c.self.inside.width in
    let order = c.self.inside.order.items in
    let rows = c.self.inside.rows.items in
    let r = c.args.row in
    let at = c.from-at.result in
    let other = c.keep.new.row in
    let new = c.fill.new.self in
    let inside : r < length order = subst (λ (g : Grid). r < g.height) (sym c.self.view_is) c.requires.row in
    let same = c.from-at.ensures ∙ get_or_read order r c.index.result.now inside c.index.ensures 0 in
    let there : at < length rows =
    subst (λ n. n < length rows) (sym same) (number-at (length rows) r order 0 c.self.invariant.2.numbers inside) in
    let stands : c.index_mut-2.result.now ≡ other = c.index_mut-2.ensures.value ∙ get_or-set_same rows at other c.index_mut-2.result.now there in
    let filled : new ≡ replicate (length c.index_mut.result.now) (blank c.args.style) =
    c.fill.ensures.cells ∙ ap (λ n. replicate n (blank c.args.style)) (ap length stands ∙ c.keep.ensures.columns) in
    with-rows w order order rows (set (set rows at other) at new) c.args.self.now (λ (g : Grid). within (r * g.width) (r * g.width + g.width) (erased (blank c.args.style)) g.cells) refl c.self.view_is
    (ap (λ (l : List (List Cell)). flat (in_order order l)) (set-set rows at other new)
    ∙ edited w r order rows c.self.invariant.0 c.self.invariant.1 c.self.invariant.2 inside (λ l. replicate (length l) (blank c.args.style)) (λ l. within (r * w) (r * w + w) (erased (blank c.args.style)) l) at c.index_mut.result.now new same
    c.index_mut.ensures.value filled
    (row-whole w r order rows c.self.invariant.0 c.self.invariant.1 c.self.invariant.2 inside (erased (blank c.args.style))))

pub returns-clause-kept : goal.returns-clause-kept
returns-clause-kept c =
    let order = c.self.inside.order.items in
    let r = c.args.row in
    let inside : r < length order = subst (λ (g : Grid). r < g.height) (sym c.self.view_is) c.requires.row in
    let same = c.from-at.ensures ∙ get_or_read order r c.index.result.now inside c.index.ensures 0 in
    rw (← c.self.view_is)
    (c.keep.ensures.kept
    ∙ ap (λ row. kept_after row c.args.history.now) (row-cells c.self.inside.width r order c.self.inside.rows.items c.self.invariant.0 c.self.invariant.1 c.self.invariant.2 inside
    c.from-at.result c.index_mut.result.now same c.index_mut.ensures.value))
