-- Row by row.
use Rattle.screen_text.proofs.EndLemmas.{shown-ended}
use Rattle.screen_text.proofs.laws.lines.Goals as goal

pub returns : goal.returns
returns c = λ screen calls. shown-ended calls screen
