-- Each call keeps it.
use Rattle.std.proofs.Common.{sym, subst}
use Rattle.ansi_screen.specs.After.{State}
use Rattle.ansi_screen.specs.Reachable.{IsScreen}
use Rattle.ansi_screen.proofs.KeptCalls.{new-screen, kept-after, kept-after_all}
use Rattle.ansi_screen.proofs.laws.reachable.Goals as goal

pub returns-clause-new : goal.returns-clause-new
returns-clause-new c = λ columns rows wide narrow some few. new-screen columns rows wide narrow some few

pub returns-clause-kept : goal.returns-clause-kept
returns-clause-kept c = λ screen call is. kept-after call screen is

pub returns-clause-shown : goal.returns-clause-shown
returns-clause-shown c = λ old new bytes is shows.
    subst (λ (s : State). IsScreen s.display) (sym shows.2) (kept-after_all shows.0 old is)
