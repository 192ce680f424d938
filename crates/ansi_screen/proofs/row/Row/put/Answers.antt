-- The row keeps its number of cells, its halves in pairs, and blanks beside the character.
use Rattle.std.proofs.Common.{◌≤◌, ◌+◌, length, ap, sym, ◌∙◌, arith}
use Rattle.ansi_screen.proofs.BlankLemmas.{Kept, joined, kept-slice, kept-row, kept-whole, kept-put}
use Rattle.ansi_screen.proofs.row.Row.put.Goals as goal

pub invariant_of-self : goal.invariant_of-self
invariant_of-self c =
    let n = c.self.inside.cells.len in
    let xs = c.as_mut_slice.result.now in
    let items = c.self.inside.cells.items in
    let old = kept-slice n c.self.inside.written xs items c.as_mut_slice.ensures.value c.as_mut_slice.ensures.len c.self.invariant in
    let inside : c.args.column + c.args.columns ≤ n = omega (arith, c.as_mut_slice.ensures.len, ap length c.as_mut_slice.ensures.value, ap length c.self.view_is, c.requires.within) in
    let kept : Kept n c.join.new.self c.put.new.cells = kept-put n c.args.column c.self.inside.written c.join.new.self c.args.style c.args.link xs c.put.new.cells old c.args.columns c.args.c (c.join.ensures ∙ ap (λ m. joined c.args.column (c.args.column + m) c.self.inside.written) c.from.ensures) c.requires.some c.requires.few inside c.put.ensures in
    kept-row n c.join.new.self items c.put.new.cells kept

pub returns-clause-whole : goal.returns-clause-whole
returns-clause-whole c =
    let n = c.self.inside.cells.len in
    let xs = c.as_mut_slice.result.now in
    let items = c.self.inside.cells.items in
    let old = kept-slice n c.self.inside.written xs items c.as_mut_slice.ensures.value c.as_mut_slice.ensures.len c.self.invariant in
    let inside : c.args.column + c.args.columns ≤ n = omega (arith, c.as_mut_slice.ensures.len, ap length c.as_mut_slice.ensures.value, ap length c.self.view_is, c.requires.within) in
    let kept : Kept n c.join.new.self c.put.new.cells = kept-put n c.args.column c.self.inside.written c.join.new.self c.args.style c.args.link xs c.put.new.cells old c.args.columns c.args.c (c.join.ensures ∙ ap (λ m. joined c.args.column (c.args.column + m) c.self.inside.written) c.from.ensures) c.requires.some c.requires.few inside c.put.ensures in
    kept-whole n c.join.new.self c.args.self.now items c.put.new.cells (sym (ap length c.self.view_is) ∙ (sym (ap length c.as_mut_slice.ensures.value) ∙ c.as_mut_slice.ensures.len)) kept
