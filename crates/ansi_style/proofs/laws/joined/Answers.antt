use Rattle.ansi_style.proofs.RenditionLemmas.{selected-append}
use Rattle.ansi_style.proofs.laws.joined.Goals as goal

pub returns : goal.returns
returns c = selected-append
