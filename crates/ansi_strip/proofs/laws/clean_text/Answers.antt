-- Clean text is the canonical text of calls of which all is left.
use Rattle.ansi_strip.proofs.CleanText.{stripped-clean}
use Rattle.ansi_strip.proofs.laws.clean_text.Goals as goal

pub returns : goal.returns
returns c = stripped-clean
