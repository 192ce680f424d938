-- A screen goes by calls to what the definition says of them.
use Rattle.std.proofs.Common.{◌≡◌, List, [], ◌∷◌, ap, ◌∙◌}
use Rattle.anstyle_parse.specs.Stream.Call.{Call, Goes}
use Rattle.ansi_screen.specs.After.{State, after, after_all}

pub after_all-goes : (calls : List Call) (old new : State) → Goes (λ (a : State) (call : Call) (b : State). b ≡ after call a) old calls new → new ≡ after_all calls old
after_all-goes [] old new same = same
after_all-goes (call ∷ calls) old new (mid, first, others) = after_all-goes calls mid new others ∙ ap (after_all calls) first
