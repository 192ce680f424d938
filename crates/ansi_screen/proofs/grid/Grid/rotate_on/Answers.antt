-- The numbers change places, and so do the rows in the list.
use Rattle.std.proofs.Common.{◌≡◌, ◌-◌, ◌*◌, ◌≤◌, ◌++◌, length, take, drop, ap, sym, ◌∙◌, subst, arith}
use Rattle.std.proofs.lemmas.List.{length-take-le, length-drop}
use Rattle.ansi_screen.specs.Cells.{within}
use Rattle.ansi_screen.specs.Grid.{Grid, IsOrder, flat, in_order}
use Rattle.ansi_screen.proofs.GridLemmas.{with-rows}
use Rattle.ansi_screen.proofs.MovedLemmas.{rotated-order, order-rotated, turned-long, rows-rotated_on}
use Rattle.ansi_screen.proofs.grid.Grid.rotate_on.Goals as goal

pub invariant_of-self : goal.invariant_of-self
invariant_of-self c =
    let w = c.self.inside.width in
    let order = c.self.inside.order.items in
    let rows = c.self.inside.rows.items in
    let items = c.as_mut_slice.result.now in
    let a = c.args.first in
    let e = c.args.last in
    let inside : e ≤ length order = subst (λ (g : Grid). e ≤ g.height) (sym c.self.view_is) c.requires.within in
    let k = length (take (e - a) (drop a items)) - c.args.count in
    let left : k ≡ e - a - c.args.count = ap (λ m. m - c.args.count) (length-take-le (e - a) (drop a items) (omega (arith, length-drop a items, ap length c.as_mut_slice.ensures.value, inside))) in
    let turned = rotated-order c.self.inside.order.len a e k order items c.rotate_on.new.order c.as_mut_slice.ensures.value c.as_mut_slice.ensures.len c.requires.order inside (omega (arith, left)) c.rotate_on.ensures in
    (c.self.invariant.0, c.self.invariant.1, subst (IsOrder (length rows)) (sym turned) (order-rotated (length rows) a e k order c.self.invariant.2), tt)

pub returns : goal.returns
returns c =
    let w = c.self.inside.width in
    let order = c.self.inside.order.items in
    let rows = c.self.inside.rows.items in
    let items = c.as_mut_slice.result.now in
    let a = c.args.first in
    let e = c.args.last in
    let inside : e ≤ length order = subst (λ (g : Grid). e ≤ g.height) (sym c.self.view_is) c.requires.within in
    let k = length (take (e - a) (drop a items)) - c.args.count in
    let left : k ≡ e - a - c.args.count = ap (λ m. m - c.args.count) (length-take-le (e - a) (drop a items) (omega (arith, length-drop a items, ap length c.as_mut_slice.ensures.value, inside))) in
    let turned = rotated-order c.self.inside.order.len a e k order items c.rotate_on.new.order c.as_mut_slice.ensures.value c.as_mut_slice.ensures.len c.requires.order inside (omega (arith, left)) c.rotate_on.ensures in
    with-rows w order _ rows rows c.args.self.now (λ (g : Grid). within (a * g.width) (e * g.width) (λ run. drop (length run - c.args.count * g.width) run ++ take (length run - c.args.count * g.width) run) g.cells)
    (ap length turned ∙ turned-long a e k order c.requires.order inside (omega (arith, left))) c.self.view_is
    (ap (λ l. flat (in_order l rows)) turned ∙ rows-rotated_on w a e k order rows c.self.invariant.1 c.self.invariant.2 c.requires.order inside c.args.count left c.requires.count)
