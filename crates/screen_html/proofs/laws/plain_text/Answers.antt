-- Its rows are plain.
use Rattle.screen_html.proofs.PlainTextLemmas.{plain-html}
use Rattle.screen_html.proofs.laws.plain_text.Goals as goal

pub returns : goal.returns
returns c = λ styling columns rows lines calls wide some are last made. plain-html styling columns rows lines calls wide some are last made
