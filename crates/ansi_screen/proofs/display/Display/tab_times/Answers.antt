-- Once more.
use Rattle.std.proofs.Common.{ap, sym, ◌∙◌, add-one}
use Rattle.std.specs.Fn.{iterate}
use Rattle.ansi_screen.specs.Moves.{tabbed}
use Rattle.ansi_screen.specs.State.{changed}
use Rattle.ansi_screen.proofs.RepeatLemmas.{iterate-suc}
use Rattle.ansi_screen.proofs.display.Display.tab_times.Goals as goal

pub loop-done-preserved : goal.loop-done-preserved
loop-done-preserved c =
    let s = c.args.self.now in
    c.tab.ensures ∙ (ap (changed tabbed) c.loop-done.invariant
    ∙ ap (λ d. record s { display = d }) (sym (iterate-suc tabbed c.loop-done._done s.display)
    ∙ ap (λ n. iterate tabbed n s.display) (sym (add-one c.loop-done._done))))
