-- Two more.
use Rattle.std.proofs.Common.{sym, ◌∙◌, refl, arith}
use Rattle.ansi_style.specs.Style.{plain}
use Rattle.ansi_screen.specs.Cells.{blank}
use Rattle.screen_draw.specs.Alike.{are_alike}
use Rattle.screen_draw.proofs.AlikeLemmas.{all_two-fails, all_two-more, all_two-long}
use Rattle.screen_draw.proofs.alike.are_all_alike.Goals as goal

pub returns-then-a-b : goal.returns-then-a-b
returns-then-a-b c = sym (all_two-long are_alike (blank plain) (blank plain) c.args.a.now c.args.b.now _ refl c.if-a-b.true)

pub returns-then-not-are_alike : goal.returns-then-not-are_alike
returns-then-not-are_alike c =
    sym (all_two-fails are_alike _ _ c.loop-place.place c.args.a.now c.args.b.now (omega arith) (omega arith) (sym c.are_alike.ensures ∙ c.if-not-are_alike.true))

pub loop-place-preserved : goal.loop-place-preserved
loop-place-preserved c =
    all_two-more are_alike _ _ c.loop-place.place c.args.a.now c.args.b.now (omega arith) (omega arith) c.loop-place.invariant (sym c.are_alike.ensures ∙ c.if-not-are_alike.false)
