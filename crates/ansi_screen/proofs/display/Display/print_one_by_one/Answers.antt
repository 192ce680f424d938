-- Once more.
use Rattle.std.proofs.Common.{ap, sym, ◌∙◌, add-one}
use Rattle.std.specs.Fn.{iterate}
use Rattle.ansi_screen.specs.Print.{printed_again}
use Rattle.ansi_screen.specs.State.{changed}
use Rattle.ansi_screen.proofs.RepeatLemmas.{iterate-suc}
use Rattle.ansi_screen.proofs.display.Display.print_one_by_one.Goals as goal

pub loop-done-preserved : goal.loop-done-preserved
loop-done-preserved c =
    let s = c.args.self.now in
    let again = printed_again c.args.c in
    c.print_again.ensures ∙ (ap (changed again) c.loop-done.invariant
    ∙ ap (λ d. record s { display = d }) (sym (iterate-suc again c.loop-done._done s.display)
    ∙ ap (λ n. iterate again n s.display) (sym (add-one c.loop-done._done))))
