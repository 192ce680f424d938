-- The styles of each row are those of its calls.
use Rattle.screen_calls.proofs.StyleLemmas.{printed-shown}
use Rattle.screen_calls.proofs.laws.same_styles.Goals as goal

pub returns : goal.returns
returns c = λ screen calls colored. printed-shown screen calls colored
