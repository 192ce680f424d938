use Rattle.ansi_html.proofs.ReadLemmas.{read-escaped}
use Rattle.ansi_html.proofs.put_text.Goals as goal

pub returns-clause-read_back : goal.returns-clause-read_back
returns-clause-read_back g c = read-escaped c.args.text.now
