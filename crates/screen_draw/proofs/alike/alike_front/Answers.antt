-- Two more.
use Rattle.std.proofs.Common.{sym, ◌∙◌, arith}
use Rattle.screen_draw.specs.Alike.{are_alike}
use Rattle.screen_draw.proofs.AlikeLemmas.{all_two-more}
use Rattle.screen_draw.proofs.alike.alike_front.Goals as goal

pub loop-place-preserved : goal.loop-place-preserved
loop-place-preserved c =
    all_two-more are_alike _ _ c.loop-place.place c.args.a.now c.args.b.now (omega arith) (omega (arith, c.requires)) c.loop-place.invariant
    (sym c.are_alike.ensures ∙ c.if-not-are_alike.false)
