-- Call by call.
use Rattle.ansi_modes.proofs.ToldLemmas.{told-apart}
use Rattle.ansi_modes.proofs.laws.telling.Goals as goal

pub returns : goal.returns
returns c = λ call asked. told-apart call asked
