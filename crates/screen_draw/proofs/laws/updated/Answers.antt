-- All of it.
use Rattle.screen_draw.specs.Update.{update_calls}
use Rattle.screen_draw.proofs.NotedLemmas.{since-stays}
use Rattle.screen_draw.proofs.UpdatedLemmas.{updated-is}
use Rattle.screen_draw.proofs.laws.updated.Goals as goal

pub returns : goal.returns
returns c = λ shown wanted old from has to gets width height is. record {
  display = updated-is shown wanted old from has to gets width height is;
  since = since-stays (update_calls shown wanted) old;
}
