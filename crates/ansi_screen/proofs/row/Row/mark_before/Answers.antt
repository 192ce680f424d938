-- The row keeps its number of cells, its halves in pairs, and blanks beside the mark.
use Rattle.std.proofs.Common.{◌≤◌, length, ap, sym, ◌∙◌, arith}
use Rattle.ansi_screen.proofs.BlankLemmas.{Kept, kept-slice, kept-row, kept-whole, kept-marked}
use Rattle.ansi_screen.proofs.row.Row.mark_before.Goals as goal

pub invariant_of-self : goal.invariant_of-self
invariant_of-self c =
    let n = c.self.inside.cells.len in
    let xs = c.as_mut_slice.result.now in
    let items = c.self.inside.cells.items in
    let old = kept-slice n c.self.inside.written xs items c.as_mut_slice.ensures.value c.as_mut_slice.ensures.len c.self.invariant in
    let inside : c.args.column ≤ n = omega (arith, c.as_mut_slice.ensures.len, ap length c.as_mut_slice.ensures.value, ap length c.self.view_is, c.requires.within) in
    let kept : Kept n c.join.new.self c.mark_before.new.cells = kept-marked n c.saturating_sub.result c.args.column c.self.inside.written c.join.new.self xs c.mark_before.new.cells old c.join.ensures inside c.args.mark c.requires.some c.saturating_sub.ensures c.mark_before.ensures.marked in
    kept-row n c.join.new.self items c.mark_before.new.cells kept

pub returns-clause-whole : goal.returns-clause-whole
returns-clause-whole c =
    let n = c.self.inside.cells.len in
    let xs = c.as_mut_slice.result.now in
    let items = c.self.inside.cells.items in
    let old = kept-slice n c.self.inside.written xs items c.as_mut_slice.ensures.value c.as_mut_slice.ensures.len c.self.invariant in
    let inside : c.args.column ≤ n = omega (arith, c.as_mut_slice.ensures.len, ap length c.as_mut_slice.ensures.value, ap length c.self.view_is, c.requires.within) in
    let kept : Kept n c.join.new.self c.mark_before.new.cells = kept-marked n c.saturating_sub.result c.args.column c.self.inside.written c.join.new.self xs c.mark_before.new.cells old c.join.ensures inside c.args.mark c.requires.some c.saturating_sub.ensures c.mark_before.ensures.marked in
    kept-whole n c.join.new.self c.args.self.now items c.mark_before.new.cells (sym (ap length c.self.view_is) ∙ (sym (ap length c.as_mut_slice.ensures.value) ∙ c.as_mut_slice.ensures.len)) kept
