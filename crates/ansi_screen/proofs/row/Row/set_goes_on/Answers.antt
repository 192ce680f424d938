-- The row keeps its number of cells, and its halves in pairs.
use Rattle.std.proofs.Common.{◌≡◌, ◌-◌, ◌<◌, refl, List, length, ap, sym, ◌∙◌, arith}
use Rattle.ansi_screen.specs.declared.cell.Cell.{Cell}
use Rattle.ansi_screen.specs.Text.{goes_on}
use Rattle.ansi_screen.proofs.BlankLemmas.{Kept, kept-slice, kept-row, kept-whole, kept-going, not-other}
use Rattle.ansi_screen.proofs.GoingLemmas.{going-same}
use Rattle.ansi_screen.proofs.row.Row.set_goes_on.Goals as goal

pub invariant_of-self : goal.invariant_of-self
invariant_of-self c =
    let n = c.self.inside.cells.len in
    let xs = c.as_mut_slice.result.now in
    let items = c.self.inside.cells.items in
    let old = kept-slice n c.self.inside.written xs items c.as_mut_slice.ensures.value c.as_mut_slice.ensures.len c.self.invariant in
    let last : c.len-end.result ≡ n = omega (arith, c.len-end.ensures) in
    let some : 0 < c.len-end.result = omega (arith, last, c.as_mut_slice.ensures.len, ap length c.as_mut_slice.ensures.value, ap length c.self.view_is, c.requires) in
    let kept : Kept n c.join.new.self c.set_goes_on.new.cells = kept-going n (c.len-end.result - 1) c.len-end.result c.self.inside.written c.join.new.self xs c.set_goes_on.new.cells old c.join.ensures (omega (arith, last)) c.args.on some refl c.set_goes_on.ensures.set in
    kept-row n c.join.new.self items c.set_goes_on.new.cells kept

pub returns-then-goes_on-on-clause-whole : goal.returns-then-goes_on-on-clause-whole
returns-then-goes_on-on-clause-whole c =
    let n = c.self.inside.cells.len in
    let xs = c.as_mut_slice.result.now in
    let items = c.self.inside.cells.items in
    let old = kept-slice n c.self.inside.written xs items c.as_mut_slice.ensures.value c.as_mut_slice.ensures.len c.self.invariant in
    let last : c.len-end.result ≡ n = omega (arith, c.len-end.ensures) in
    let some : 0 < c.len-end.result = omega (arith, last, c.as_mut_slice.ensures.len, ap length c.as_mut_slice.ensures.value, ap length c.self.view_is, c.requires) in
    let kept : Kept n c.join.new.self c.set_goes_on.new.cells = kept-going n (c.len-end.result - 1) c.len-end.result c.self.inside.written c.join.new.self xs c.set_goes_on.new.cells old c.join.ensures (omega (arith, last)) c.args.on some refl c.set_goes_on.ensures.set in
    kept-whole n c.join.new.self c.args.self.now items c.set_goes_on.new.cells (sym (ap length c.self.view_is) ∙ (sym (ap length c.as_mut_slice.ensures.value) ∙ c.as_mut_slice.ensures.len)) kept

pub returns-else-goes_on-on-clause-cells : goal.returns-else-goes_on-on-clause-cells
returns-else-goes_on-on-clause-cells c =
    going-same c.args.on (length c.args.self.now) c.args.self.now
    (sym (ap (λ (l : List Cell). goes_on l) (c.as_slice.ensures.value ∙ c.self.view_is)) ∙ (sym c.goes_on.ensures ∙ not-other c.goes_on.result c.args.on c.if-goes_on-on.false))
