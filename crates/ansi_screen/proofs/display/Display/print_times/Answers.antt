-- So many at once, and the others one by one.
use Rattle.std.proofs.Common.{◌≡◌, ◌+◌, ◌-◌, ap, ◌∙◌, arith}
use Rattle.std.specs.Fn.{iterate}
use Rattle.ansi_screen.specs.Print.{printed_again}
use Rattle.ansi_screen.specs.State.{changed}
use Rattle.ansi_screen.proofs.RepeatLemmas.{iterate-add}
use Rattle.ansi_screen.proofs.display.Display.print_times.Goals as goal
use Rattle.ansi_screen.proofs.display.Display.print_times.Goals.{then-fitting-gt0, else-fitting-gt0}

pub returns : goal.returns
returns c =
    let s = c.args.self.now in
    let d = s.display in
    let again = printed_again c.args.c in
    let count = c.args.count in
    let fitting = c.min-fitting.result in
    elim c.if-fitting-gt0.branch [
      | then-fitting-gt0 w ↦
          let all : fitting + (count - fitting) ≡ count = omega (arith, c.min-fitting.ensures) in
          c.print_one_by_one.ensures
          ∙ (ap (changed (iterate again (count - fitting))) (w.self-is ∙ w.insert_times.ensures)
          ∙ ap (λ e. record s { display = e }) (iterate-add again fitting (count - fitting) d ∙ ap (λ k. iterate again k d) all))
      | else-fitting-gt0 w ↦
          let none : count - fitting ≡ count = omega (arith, w.if-fitting-gt0.false) in
          c.print_one_by_one.ensures ∙ (ap (changed (iterate again (count - fitting))) w.self-is ∙ ap (λ k. changed (iterate again k) s) none)
    ]
