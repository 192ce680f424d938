-- Moves and styles change the cursor alone, which comes back.
use Rattle.ansi_screen.proofs.LawLemmas.{enclosed-restores}
use Rattle.ansi_screen.proofs.laws.enclosed.Goals as goal

pub returns : goal.returns
returns c = λ screen calls are absolute. enclosed-restores calls screen are absolute
