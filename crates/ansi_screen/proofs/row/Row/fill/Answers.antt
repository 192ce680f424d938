-- All cells are blank.
use Rattle.std.proofs.Common.{length, ap, sym, ◌∙◌, arith}
use Rattle.ansi_screen.proofs.BlankLemmas.{Kept, kept-row, kept-whole, kept-filled}
use Rattle.ansi_screen.proofs.row.Row.fill.Goals as goal

pub invariant_of-self : goal.invariant_of-self
invariant_of-self c =
    let n = c.self.inside.cells.len in
    let xs = c.as_mut_slice.result.now in
    let items = c.self.inside.cells.items in
    let long = c.as_mut_slice.ensures.len in
    let kept : Kept n c.clear_all-self-inside.result c.clear_all-self-inside.new.cells = kept-filled n c.clear_all-self-inside.result c.args.style xs c.clear_all-self-inside.new.cells long c.clear_all-self-inside.ensures.cells (omega (arith, c.clear_all-self-inside.ensures.written, long)) c.clear_all-self-inside.ensures.blank in
    kept-row n c.clear_all-self-inside.result items c.clear_all-self-inside.new.cells kept

pub returns-clause-whole : goal.returns-clause-whole
returns-clause-whole c =
    let n = c.self.inside.cells.len in
    let xs = c.as_mut_slice.result.now in
    let items = c.self.inside.cells.items in
    let long = c.as_mut_slice.ensures.len in
    let kept : Kept n c.clear_all-self-inside.result c.clear_all-self-inside.new.cells = kept-filled n c.clear_all-self-inside.result c.args.style xs c.clear_all-self-inside.new.cells long c.clear_all-self-inside.ensures.cells (omega (arith, c.clear_all-self-inside.ensures.written, long)) c.clear_all-self-inside.ensures.blank in
    kept-whole n c.clear_all-self-inside.result c.args.self.now items c.clear_all-self-inside.new.cells (sym (ap length c.self.view_is) ∙ (sym (ap length c.as_mut_slice.ensures.value) ∙ c.as_mut_slice.ensures.len)) kept
