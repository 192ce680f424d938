-- Its size and its picture stay.
use Rattle.screen_draw.proofs.NotedLemmas.{noted-stays}
use Rattle.screen_draw.proofs.laws.noted.Goals as goal

pub returns : goal.returns
returns c = λ calls screen shown sized noted. noted-stays calls screen shown sized noted
