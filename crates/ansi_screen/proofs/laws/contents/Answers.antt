-- Each call keeps them.
use Rattle.std.proofs.Common.{sym, subst}
use Rattle.ansi_screen.specs.After.{State}
use Rattle.ansi_screen.specs.Reachable.{HasContents}
use Rattle.ansi_screen.proofs.ContentLemmas.{contents-new, contents-after, contents-after_all}
use Rattle.ansi_screen.proofs.laws.contents.Goals as goal

pub returns-clause-new : goal.returns-clause-new
returns-clause-new c = λ columns rows. contents-new columns rows

pub returns-clause-kept : goal.returns-clause-kept
returns-clause-kept c = λ screen call is holds. contents-after call screen is holds

pub returns-clause-shown : goal.returns-clause-shown
returns-clause-shown c = λ old new bytes is holds shows.
    subst (λ (s : State). HasContents s.display) (sym shows.2) (contents-after_all shows.0 old is holds)
