use Rattle.html_urls.proofs.TextLemmas.{linked-text}
use Rattle.html_urls.proofs.laws.same_text.Goals as goal

pub returns : goal.returns
returns c = linked-text
