-- A row becomes another one, as the part of the list that it is.
use Rattle.std.proofs.Common.{◌≡◌, ◌+◌, ◌-◌, ◌*◌, ◌<◌, length, set, take, drop, refl, ap, sym, ◌∙◌, subst, arith}
use Rattle.std.proofs.lemmas.List.{get_or_read}
use Rattle.ansi_screen.specs.Following.{copied}
use Rattle.ansi_screen.specs.Grid.{Grid}
use Rattle.ansi_screen.proofs.GridLemmas.{with-rows, edited, row-whole, row-cells}
use Rattle.ansi_screen.proofs.grid.Grid.copy_columns.Goals as goal

pub returns : goal.returns
returns c =
    let w = c.self.inside.width in
    let order = c.self.inside.order.items in
    let rows = c.self.inside.rows.items in
    let r = c.args.row in
    let at = c.from-at.result in
    let new = c.copy_columns.new.self in
    let inside : r < length order = subst (λ (g : Grid). r < g.height) (sym c.self.view_is) c.requires.row in
    let same = c.from-at.ensures ∙ get_or_read order r c.index.result.now inside c.index.ensures 0 in
    let v = c.other.inside.width in
    let others = c.other.inside.order.items in
    let other_rows = c.other.inside.rows.items in
    let there : r < length others = subst (λ (g : Grid). r < g.height) (sym c.other.view_is) c.requires.other_row in
    let cells = row-cells v r others other_rows c.other.invariant.0 c.other.invariant.1 c.other.invariant.2 there c.from-other_at.result c.index-3.result.now
    (c.from-other_at.ensures ∙ get_or_read others r c.index-2.result.now there c.index-2.ensures 0) c.index-3.ensures in
    let wide : v ≡ w = ap (λ (g : Grid). g.width) c.other.view_is ∙ (sym c.requires.width ∙ sym (ap (λ (g : Grid). g.width) c.self.view_is)) in
    let few : w ≡ r * w + w - r * w = omega arith in
    let is : c.index-3.result.now ≡ take (r * w + w - r * w) (drop (r * w) c.args.other.now.cells) =
    cells ∙ (ap (λ (g : Grid). take v (drop (r * v) g.cells)) c.other.view_is
    ∙ (ap (λ n. take n (drop (r * n) c.args.other.now.cells)) wide ∙ ap (λ n. take n (drop (r * w) c.args.other.now.cells)) few)) in
    with-rows w order order rows (set rows at new) c.args.self.now (λ (g : Grid). copied (r * g.width) (r * g.width + g.width) c.args.other.now.cells g.cells) refl c.self.view_is
    (edited w r order rows c.self.invariant.0 c.self.invariant.1 c.self.invariant.2 inside (λ l. take (r * w + w - r * w) (drop (r * w) c.args.other.now.cells)) (λ l. copied (r * w) (r * w + w) c.args.other.now.cells l) at c.index_mut.result.now new same
    c.index_mut.ensures.value (c.copy_columns.ensures.cells ∙ is)
    (row-whole w r order rows c.self.invariant.0 c.self.invariant.1 c.self.invariant.2 inside (λ run. take (r * w + w - r * w) (drop (r * w) c.args.other.now.cells))))

pub copy_columns-requires-clause-kept : goal.copy_columns-requires-clause-kept
copy_columns-requires-clause-kept c =
    let w = c.self.inside.width in
    let order = c.self.inside.order.items in
    let rows = c.self.inside.rows.items in
    let r = c.args.row in
    let inside : r < length order = subst (λ (g : Grid). r < g.height) (sym c.self.view_is) c.requires.row in
    let same = c.from-at.ensures ∙ get_or_read order r c.index.result.now inside c.index.ensures 0 in
    let own : c.index_mut.result.now ≡ take c.args.self.now.width (drop (r * c.args.self.now.width) c.args.self.now.cells) =
    row-cells w r order rows c.self.invariant.0 c.self.invariant.1 c.self.invariant.2 inside c.from-at.result c.index_mut.result.now same c.index_mut.ensures.value
    ∙ ap (λ (g : Grid). take g.width (drop (r * g.width) g.cells)) c.self.view_is in
    let v = c.other.inside.width in
    let others = c.other.inside.order.items in
    let other_rows = c.other.inside.rows.items in
    let there : r < length others = subst (λ (g : Grid). r < g.height) (sym c.other.view_is) c.requires.other_row in
    let theirs : c.index-3.result.now ≡ take c.args.other.now.width (drop (r * c.args.other.now.width) c.args.other.now.cells) =
    row-cells v r others other_rows c.other.invariant.0 c.other.invariant.1 c.other.invariant.2 there c.from-other_at.result c.index-3.result.now
    (c.from-other_at.ensures ∙ get_or_read others r c.index-2.result.now there c.index-2.ensures 0) c.index-3.ensures
    ∙ ap (λ (g : Grid). take g.width (drop (r * g.width) g.cells)) c.other.view_is in
    rw (theirs, own) c.requires.kept
