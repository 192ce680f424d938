-- All of it.
use Rattle.screen_draw.proofs.RedrawnLemmas.{redrawn-is}
use Rattle.screen_draw.proofs.laws.redrawn.Goals as goal

pub returns : goal.returns
returns c = λ drawn old screen contents width height. redrawn-is drawn old screen contents width height
