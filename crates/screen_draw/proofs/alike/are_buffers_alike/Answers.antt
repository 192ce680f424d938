-- One row more.
use Rattle.std.proofs.Common.{◌≡◌, ℕ, ◌*◌, take, drop, sym, ap₂, ◌∙◌, subst, arith}
use Rattle.screen_draw.specs.Alike.{all_two, are_alike}
use Rattle.screen_draw.specs.Buffers.{cells_of}
use Rattle.screen_draw.proofs.AlikeLemmas.{rows-more, rows-differ}
use Rattle.screen_draw.proofs.BufferLemmas.{same-fill, row-fits, all-rows}
use Rattle.screen_draw.proofs.alike.are_buffers_alike.Goals as goal

pub loop-row-preserved : goal.loop-row-preserved
loop-row-preserved c =
    let d = c.args.a.now.display in
    let e = c.args.b.now.display in
    let row = c.loop-row.row in
    let sized = c.rows-row-end.ensures.sized in
    rows-more d.width row (cells_of c.args.buffer d) (cells_of c.args.buffer e) c.row.result.now c.row-in-loop-row.result.now
    (row-fits c.args.buffer d row sized (omega (arith, c.rows-row-end.ensures.rows)))
    (same-fill c.args.buffer d e sized c.rows.ensures.sized c.requires.columns c.requires.rows)
    c.row.ensures.cells
    (subst (λ (w : ℕ). c.row-in-loop-row.result.now ≡ take w (drop (row * w) (cells_of c.args.buffer e))) (sym c.requires.columns) c.row-in-loop-row.ensures.cells)
    c.loop-row.invariant (sym c.are_all_alike.ensures ∙ c.if-not-are_all_alike.false)

pub returns-then-not-are_all_alike : goal.returns-then-not-are_all_alike
returns-then-not-are_all_alike c =
    let d = c.args.a.now.display in
    let e = c.args.b.now.display in
    let row = c.loop-row.row in
    let sized = c.rows-row-end.ensures.sized in
    sym (rows-differ d.width row (cells_of c.args.buffer d) (cells_of c.args.buffer e) c.row.result.now c.row-in-loop-row.result.now
    (row-fits c.args.buffer d row sized (omega (arith, c.rows-row-end.ensures.rows)))
    (same-fill c.args.buffer d e sized c.rows.ensures.sized c.requires.columns c.requires.rows)
    c.row.ensures.cells
    (subst (λ (w : ℕ). c.row-in-loop-row.result.now ≡ take w (drop (row * w) (cells_of c.args.buffer e))) (sym c.requires.columns) c.row-in-loop-row.ensures.cells)
    (sym c.are_all_alike.ensures ∙ c.if-not-are_all_alike.true))

pub returns : goal.returns
returns c =
    let d = c.args.a.now.display in
    let e = c.args.b.now.display in
    let last : c.loop-row.row ≡ d.height = omega (arith, c.rows-row-end.ensures.rows) in
    let other = subst (λ (w : ℕ). take (c.loop-row.row * w) (cells_of c.args.buffer e) ≡ cells_of c.args.buffer e) (sym c.requires.columns)
    (all-rows c.args.buffer e c.loop-row.row c.rows.ensures.sized (last ∙ c.requires.rows)) in
    sym (ap₂ (all_two are_alike) (sym (all-rows c.args.buffer d c.loop-row.row c.rows-row-end.ensures.sized last)) (sym other) ∙ c.loop-row.invariant)
