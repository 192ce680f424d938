-- RIS comes first.
use Rattle.screen_draw.proofs.NotedLemmas.{drawing-forgets}
use Rattle.screen_draw.proofs.laws.forgets.Goals as goal

pub returns : goal.returns
returns c = λ drawn a b width height. drawing-forgets drawn a b width height
