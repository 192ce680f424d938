-- One row more; in the end all.
use Rattle.std.proofs.Common.{◌≡◌, ℕ, subst, arith}
use Rattle.ansi_screen.specs.State.{State}
use Rattle.ansi_screen.specs.Leaving.{Scrolled, TakesRows, screen_of, taker_of}
use Rattle.ansi_screen.specs.Text.{first_rows}
use Rattle.ansi_screen.proofs.LeavingLemmas.{takes-row}
use Rattle.ansi_screen.proofs.leaving.Scrolling.hand_on.Goals as goal

pub loop-row-preserved : goal.loop-row-preserved
loop-row-preserved g c =
    takes-row g.R.TakeRow.takes c.loop-row.row c.display-display.result.now.display c.row.result.now
    c.self.inside.taker c.loop-row.self-inside.1.1.0 c.take_row.new.self c.row.ensures.cells c.loop-row.invariant c.take_row.ensures

pub returns-clause-taken : goal.returns-clause-taken
returns-clause-taken g c =
    let takes = g.R.TakeRow.takes in
    let taker = c.loop-row.self-inside.1.1.0 in
    let all : c.loop-row.row ≡ c.args.count = omega (arith, c.loop-row-test.false, c.loop-row.auto.row-end) in
    let taken = subst (λ (d : State). TakesRows takes c.self.inside.taker (first_rows c.loop-row.row d.display) taker) c.display-display.ensures c.loop-row.invariant in
    let taken_all = subst (λ (n : ℕ). TakesRows takes c.self.inside.taker (first_rows n c.self.inside.screen.display) taker) all taken in
    subst (λ (s : Scrolled g.row.R.Denot). TakesRows takes (taker_of s) (first_rows c.args.count (screen_of s).display) taker) c.self.view_is taken_all
