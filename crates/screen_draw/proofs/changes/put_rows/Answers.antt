-- One row more; the rows before the first and behind the last draw nothing.
use Rattle.std.proofs.Common.{inl, inr, sym, subst, ◌∙◌, arith}
use Rattle.ansi_screen.specs.Damage.{KeepsColumns}
use Rattle.ansi_screen.specs.Display.{row_cells}
use Rattle.screen_draw.specs.Drawing.{Draws}
use Rattle.screen_draw.proofs.SkippedLemmas.{rows-above, rows-past}
use Rattle.screen_draw.proofs.StepLemmas.{draws-none, rows-more}
use Rattle.screen_draw.proofs.changes.put_rows.Goals as goal

pub loop-row-init : goal.loop-row-init
loop-row-init g c =
    let a = c.args.shown.now.display in
    let none = rows-above c.args.start a c.args.wanted.now.display c.rows-first.result.0
    (λ row less. c.rows-first.ensures.others c.args.shown.now row c.requires (omega (arith, c.rows-first.ensures.order, c.rows-first.ensures.within)) (inl less)) in (
      subst (λ l. Draws g.W.Sink l c.args.output.now c.args.output.now) (sym none.0) (draws-none g.W.Sink c.args.output.now),
      sym none.1,
    )

pub loop-row-preserved : goal.loop-row-preserved
loop-row-preserved g c =
    let before = c.loop-row.invariant in
    rows-more g.W.Sink c.args.start c.args.shown.now.display c.args.wanted.now.display c.loop-row.row _ _ _ _ _ _ _ c.row.ensures.cells c.row-in-loop-row.ensures.cells before.1 before.0
    c.put_row-place.ensures.calls c.put_row-place.ensures.place

pub returns-clause-calls : goal.returns-clause-calls
returns-clause-calls g c =
    let a = c.args.shown.now.display in
    let behind = rows-past c.args.start a c.args.wanted.now.display c.loop-row.row (omega (arith, c.rows-first.ensures.within))
    (λ row less from. c.rows-first.ensures.others c.args.shown.now row c.requires less (inr (omega arith))) in
    subst (λ l. Draws g.W.Sink l c.args.output.now c.loop-row.output) (sym behind.0) c.loop-row.invariant.0

pub returns-clause-place : goal.returns-clause-place
returns-clause-place g c =
    let a = c.args.shown.now.display in
    let behind = rows-past c.args.start a c.args.wanted.now.display c.loop-row.row (omega (arith, c.rows-first.ensures.within))
    (λ row less from. c.rows-first.ensures.others c.args.shown.now row c.requires less (inr (omega arith))) in
    c.loop-row.invariant.1 ∙ sym behind.1

pub put_row-place-requires-clause-kept : goal.put_row-place-requires-clause-kept
put_row-place-requires-clause-kept g c =
    let columns = c.columns-columns.result in
    let a = c.args.shown.now.display in
    subst (KeepsColumns columns.0 columns.1 c.row.result.now) (sym c.row-in-loop-row.ensures.cells)
    (subst (λ l. KeepsColumns columns.0 columns.1 l (row_cells c.loop-row.row c.args.wanted.now.display)) (sym c.row.ensures.cells)
    (c.columns-columns.ensures.kept c.args.shown.now c.requires))
