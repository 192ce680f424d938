-- Two more.
use Rattle.std.proofs.Common.{true, sym, refl, arith}
use Rattle.std.specs.Bool.{beq}
use Rattle.screen_draw.proofs.CellsLemmas.{not-true}
use Rattle.screen_draw.proofs.AlikeLemmas.{not-false, all_two-fails, all_two-more, all_two-long}
use Rattle.screen_draw.proofs.alike.are_same_stops.Goals as goal

pub returns-then-a-b : goal.returns-then-a-b
returns-then-a-b c = sym (all_two-long beq true true c.args.a.now c.args.b.now _ refl c.if-a-b.true)

pub returns-then-a-column : goal.returns-then-a-column
returns-then-a-column c =
    sym (all_two-fails beq _ _ c.loop-column.column c.args.a.now c.args.b.now (omega arith) (omega arith) (not-true _ c.if-a-column.true))

pub loop-column-preserved : goal.loop-column-preserved
loop-column-preserved c =
    all_two-more beq _ _ c.loop-column.column c.args.a.now c.args.b.now (omega arith) (omega arith) c.loop-column.invariant (not-false _ c.if-a-column.false)
