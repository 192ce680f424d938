-- By what is spare.
use Rattle.std.proofs.Common.{◌++◌, ap, arith}
use Rattle.screen_html.specs.Paid.{purse}
use Rattle.screen_html.specs.Shown.{cells_styled, line_end}
use Rattle.screen_html.proofs.PaidLemmas.{paid-whole, enough-fed, enough-told}
use Rattle.screen_html.proofs.laws.paid_links.Goals as goal

pub returns-clause-kept : goal.returns-clause-kept
returns-clause-kept c = λ at row few. ap (λ l. l ++ line_end row) (paid-whole (purse at.last at.spare) (cells_styled at.places row) few)

pub returns-clause-start : goal.returns-clause-start
returns-clause-start c = omega arith

pub returns-clause-fed : goal.returns-clause-fed
returns-clause-fed c = enough-fed

pub returns-clause-told : goal.returns-clause-told
returns-clause-told c = λ at number parts few. enough-told number parts at.spare few
