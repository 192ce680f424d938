-- Row by row.
use Rattle.screen_text.proofs.PageLemmas.{text-lines}
use Rattle.screen_text.proofs.laws.plain_screen.Goals as goal

pub returns : goal.returns
returns c = λ columns rows lines new few fit ends last shows. text-lines columns rows lines new few fit ends last shows
