use Rattle.html_urls.proofs.LawfulLemmas.{linked-made}
use Rattle.html_urls.proofs.laws.linked_stream.Goals as goal

pub returns : goal.returns
returns c = linked-made
