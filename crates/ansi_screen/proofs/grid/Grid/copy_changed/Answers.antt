-- A row that is noted becomes the other one's; all others are that already.
use Rattle.std.proofs.Common.{◌*◌, ◌<◌, ◌≤◌, take, drop, ap, sym, ◌∙◌, subst, arith}
use Rattle.ansi_screen.specs.Damage.{KeepsColumns}
use Rattle.ansi_screen.specs.Following.{copied}
use Rattle.ansi_screen.specs.Grid.{Grid, with_list}
use Rattle.ansi_screen.proofs.FollowingLemmas.{keeps-columns, copied-begun, copied-ended, next-row}
use Rattle.ansi_screen.proofs.MovedLemmas.{copy-more, same-long, same-grid}
use Rattle.ansi_screen.proofs.grid.Grid.copy_changed.Goals as goal

pub loop-row-init : goal.loop-row-init
loop-row-init c =
    let g = c.args.self.now in
    let o = c.args.other.now in
    let long = same-long g o c.width-width.ensures.filled c.width.ensures.filled c.requires.width c.requires.height in
    let within : c.rows-first.result.0 ≤ g.height = omega (arith, c.rows-first.ensures.order, c.rows-first.ensures.within, c.requires.spans) in
    ap (λ l. with_list l g) (sym (copied-begun g.width g.height c.rows-first.result.0 c.rows-first.result.1 c.args.damage.now.spans g.cells o.cells
    c.width-width.ensures.some c.width-width.ensures.filled (sym long) c.rows-first.ensures.others c.requires.kept within))

pub copy_columns-requires-clause-kept : goal.copy_columns-requires-clause-kept
copy_columns-requires-clause-kept c =
    let g = c.args.self.now in
    let o = c.args.other.now in
    let spans = c.args.damage.now.spans in
    let row = c.loop-row.row in
    let left = c.columns-left.result.0 in
    let right = c.columns-left.result.1 in
    let filled = c.width-width.ensures.filled in
    let long = sym (same-long g o filled c.width.ensures.filled c.requires.width c.requires.height) in
    let below : row < g.height = omega (arith, c.loop-row-test.true, c.rows-first.ensures.within, c.requires.spans) in
    subst (λ (f : Grid). KeepsColumns left right (take o.width (drop (row * o.width) o.cells)) (take f.width (drop (row * f.width) f.cells))) (sym c.loop-row.invariant)
    (subst (λ n. KeepsColumns left right (take n (drop (row * n) o.cells)) (take g.width (drop (row * g.width) (copied (0 * g.width) (row * g.width) o.cells g.cells)))) c.requires.width
    (subst (KeepsColumns left right (take g.width (drop (row * g.width) o.cells)))
    (sym (next-row g.width g.height c.rows-first.result.0 c.rows-first.result.1 spans g.cells o.cells c.width-width.ensures.some filled long c.rows-first.ensures.others c.requires.kept row below))
    (keeps-columns g.width g.height spans g.cells o.cells filled long c.requires.kept row left right below c.columns-left.ensures.before
    (λ column inside past. c.columns-left.ensures.after column (omega (arith, inside, c.width-width.ensures.width)) past))))

pub loop-row-preserved : goal.loop-row-preserved
loop-row-preserved c =
    let g = c.args.self.now in
    let o = c.args.other.now in
    let below : c.loop-row.row < g.height = omega (arith, c.loop-row-test.true, c.rows-first.ensures.within, c.requires.spans) in
    copy-more 0 c.loop-row.row o g c.loop-row.self c.copy_columns.new.self c.width-width.ensures.filled
    (same-long g o c.width-width.ensures.filled c.width.ensures.filled c.requires.width c.requires.height) (omega arith) below c.loop-row.invariant c.copy_columns.ensures

pub returns : goal.returns
returns c =
    let g = c.args.self.now in
    let o = c.args.other.now in
    let long = sym (same-long g o c.width-width.ensures.filled c.width.ensures.filled c.requires.width c.requires.height) in
    let within : c.loop-row.row ≤ g.height = omega (arith, c.loop-row.auto.row-end, c.rows-first.ensures.order, c.rows-first.ensures.within, c.requires.spans) in
    c.loop-row.invariant
    ∙ (ap (λ l. with_list l g) (copied-ended g.width g.height c.rows-first.result.0 c.rows-first.result.1 c.args.damage.now.spans g.cells o.cells
    c.width-width.ensures.some c.width-width.ensures.filled long c.rows-first.ensures.others c.requires.kept c.loop-row.row c.loop-row-test.false within)
    ∙ same-grid g o c.requires.width c.requires.height)
