-- What is on the heap is the new log.
use Rattle.std.proofs.Common.{Some, sym, subst}
use Rattle.shown_pieces.specs.declared.log.ShownLog.{ShownLog}
use Rattle.ansi_screen_c.specs.ShownCalls.{IsOpened}
use Rattle.ansi_screen_c.proofs.shown.boxed.Goals as goal

pub returns : goal.returns
returns c =
    subst (λ (log : ShownLog). IsOpened _ c.args.options.now (Some log)) (sym c.in-Ok.ensures.ok) c.in-Some.ensures
