-- The row keeps its number of cells, and its halves in pairs.
use Rattle.std.proofs.Common.{◌≤◌, length, ap, sym, ◌∙◌, arith}
use Rattle.ansi_screen.proofs.BlankLemmas.{Kept, kept-slice, kept-row, kept-whole, blank-cut, kept-erased}
use Rattle.ansi_screen.proofs.row.Row.erase.Goals as goal

pub clear-self-inside-requires-clause-blank : goal.clear-self-inside-requires-clause-blank
clear-self-inside-requires-clause-blank c =
    let xs = c.as_mut_slice-cells.result.now in
    let w = c.self.inside.written in
    let old = kept-slice c.self.inside.cells.len w xs c.self.inside.cells.items c.as_mut_slice-cells.ensures.value c.as_mut_slice-cells.ensures.len c.self.invariant in
    rw (c.cut-2.ensures, c.cut.ensures) (blank-cut w.first w.past c.args.start _ (blank-cut w.first w.past c.args.end xs old.blank))

pub invariant_of-self : goal.invariant_of-self
invariant_of-self c =
    let n = c.self.inside.cells.len in
    let xs = c.as_mut_slice-cells.result.now in
    let items = c.self.inside.cells.items in
    let old = kept-slice n c.self.inside.written xs items c.as_mut_slice-cells.ensures.value c.as_mut_slice-cells.ensures.len c.self.invariant in
    let inside : c.args.end ≤ n = omega (arith, c.as_mut_slice-cells.ensures.len, ap length c.as_mut_slice-cells.ensures.value, ap length c.self.view_is, c.requires.within) in
    let kept : Kept n c.clear-self-inside.result c.clear-self-inside.new.cells = kept-erased n c.args.start c.args.end c.self.inside.written c.clear-self-inside.result c.args.style xs c.cut.new.cells c.cut-2.new.cells c.clear-self-inside.new.cells old c.requires.order inside c.cut.ensures c.cut-2.ensures c.clear-self-inside.ensures.cells c.clear-self-inside.ensures.length c.clear-self-inside.ensures.written c.clear-self-inside.ensures.blank in
    kept-row n c.clear-self-inside.result items c.clear-self-inside.new.cells kept

pub returns-clause-whole : goal.returns-clause-whole
returns-clause-whole c =
    let n = c.self.inside.cells.len in
    let xs = c.as_mut_slice-cells.result.now in
    let items = c.self.inside.cells.items in
    let old = kept-slice n c.self.inside.written xs items c.as_mut_slice-cells.ensures.value c.as_mut_slice-cells.ensures.len c.self.invariant in
    let inside : c.args.end ≤ n = omega (arith, c.as_mut_slice-cells.ensures.len, ap length c.as_mut_slice-cells.ensures.value, ap length c.self.view_is, c.requires.within) in
    let kept : Kept n c.clear-self-inside.result c.clear-self-inside.new.cells = kept-erased n c.args.start c.args.end c.self.inside.written c.clear-self-inside.result c.args.style xs c.cut.new.cells c.cut-2.new.cells c.clear-self-inside.new.cells old c.requires.order inside c.cut.ensures c.cut-2.ensures c.clear-self-inside.ensures.cells c.clear-self-inside.ensures.length c.clear-self-inside.ensures.written c.clear-self-inside.ensures.blank in
    kept-whole n c.clear-self-inside.result c.args.self.now items c.clear-self-inside.new.cells (sym (ap length c.self.view_is) ∙ (sym (ap length c.as_mut_slice-cells.ensures.value) ∙ c.as_mut_slice-cells.ensures.len)) kept
