-- Characters come into a row, and into the list.
use Rattle.std.proofs.Common.{◌+◌, ◌*◌, ◌<◌, ◌≤◌, length, set, refl, sym, ◌∙◌, subst}
use Rattle.std.proofs.lemmas.List.{get_or_read}
use Rattle.ansi_screen.specs.Grid.{Grid}
use Rattle.ansi_screen.specs.Runs.{with_glyphs}
use Rattle.ansi_screen.proofs.GridLemmas.{with-rows, edited, row-glyphs}
use Rattle.ansi_screen.proofs.grid.Grid.put_run.Goals as goal

pub returns : goal.returns
returns c =
    let w = c.self.inside.width in
    let order = c.self.inside.order.items in
    let rows = c.self.inside.rows.items in
    let r = c.args.row in
    let at = c.from-at.result in
    let new = c.put_run.new.self in
    let inside : r < length order = subst (λ (g : Grid). r < g.height) (sym c.self.view_is) c.requires.row in
    let same = c.from-at.ensures ∙ get_or_read order r c.index.result.now inside c.index.ensures 0 in
    let fits : c.args.column + length c.args.run.now ≤ w = subst (λ (g : Grid). c.args.column + length c.args.run.now ≤ g.width) (sym c.self.view_is) c.requires.within in
    with-rows w order order rows (set rows at new) c.args.self.now (λ (g : Grid). with_glyphs (r * g.width + c.args.column) c.args.run.now c.args.style c.args.link g.cells) refl c.self.view_is
    (edited w r order rows c.self.invariant.0 c.self.invariant.1 c.self.invariant.2 inside (λ l. with_glyphs c.args.column c.args.run.now c.args.style c.args.link l) (λ l. with_glyphs (r * w + c.args.column) c.args.run.now c.args.style c.args.link l) at c.index_mut.result.now new same
    c.index_mut.ensures.value c.put_run.ensures.cells
    (row-glyphs w r order rows c.self.invariant.0 c.self.invariant.1 c.self.invariant.2 inside c.args.column c.args.run.now c.args.style c.args.link fits))
