-- Its screen differs in the picture alone.
use Rattle.screen_pieces.proofs.CopyLemmas.{copy-stands}
use Rattle.screen_pieces.proofs.laws.copies_stand.Goals as goal

pub returns : goal.returns
returns c = λ first bytes terminal copy is stands. copy-stands first bytes terminal copy is stands
