use Rattle.html_urls.proofs.HtmlLemmas.{whole-html, whole-lined, whole-blocked}
use Rattle.html_urls.proofs.laws.html_of_links.Goals as goal

pub returns-clause-html : goal.returns-clause-html
returns-clause-html c = whole-html

pub returns-clause-lined : goal.returns-clause-lined
returns-clause-lined c = whole-lined

pub returns-clause-blocked : goal.returns-clause-blocked
returns-clause-blocked c = whole-blocked
