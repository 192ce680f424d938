use Rattle.html_urls.proofs.AddressLemmas.{address-is}
use Rattle.html_urls.proofs.FoundLemmas.{found-linked}
use Rattle.html_urls.proofs.OnlyLemmas.{parts-only}
use Rattle.html_urls.proofs.HrefLemmas.{html-hrefs, lined-hrefs, blocked-hrefs}
use Rattle.html_urls.proofs.TargetLemmas.{target-visible, target-plain}
use Rattle.html_urls.proofs.laws.addresses.Goals as goal

pub returns-clause-found : goal.returns-clause-found
returns-clause-found c = found-linked

pub returns-clause-only : goal.returns-clause-only
returns-clause-only c = parts-only

pub returns-clause-links : goal.returns-clause-links
returns-clause-links c = html-hrefs

pub returns-clause-lined : goal.returns-clause-lined
returns-clause-lined c = lined-hrefs

pub returns-clause-blocked : goal.returns-clause-blocked
returns-clause-blocked c = λ numbered styling calls parts are. blocked-hrefs styling calls parts are numbered

pub returns-clause-address : goal.returns-clause-address
returns-clause-address c = address-is

pub returns-clause-ascii : goal.returns-clause-ascii
returns-clause-ascii c = target-visible

pub returns-clause-plain : goal.returns-clause-plain
returns-clause-plain c = target-plain
