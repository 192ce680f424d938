-- No call reads what was shown, nor what is kept of rows that left.
use Rattle.ansi_screen.proofs.LeftLemmas.{same-after_all, unkept-after_all}
use Rattle.ansi_screen.proofs.laws.unread.Goals as goal

pub returns-clause-shown : goal.returns-clause-shown
returns-clause-shown c = λ screen picture calls. same-after_all picture calls screen

pub returns-clause-kept : goal.returns-clause-kept
returns-clause-kept c = λ screen calls. unkept-after_all calls screen
