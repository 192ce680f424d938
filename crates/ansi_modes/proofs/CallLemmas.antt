-- What is asked for goes by calls to what the definition says of them, and by bytes to one state alone.
use Rattle.std.proofs.Common.{◌≡◌, ℕ, List, [], ◌∷◌, ap, sym, ◌∙◌}
use Rattle.anstyle_parse.specs.Stream.Call.{Call, Goes}
use Rattle.anstyle_parse.proofs.Division.Only.{AreCalls-only}
use Rattle.ansi_modes.specs.declared.asked.Asked.{Asked}
use Rattle.ansi_modes.specs.Asked.{asked_after, asked_after_all}
use Rattle.ansi_modes.specs.Laws.{Asks}

pub after_all-goes : (calls : List Call) (old new : Asked) → Goes (λ (a : Asked) (call : Call) (b : Asked). b ≡ asked_after call a) old calls new → new ≡ asked_after_all calls old
after_all-goes [] old new same = same
after_all-goes (call ∷ calls) old new (mid, first, others) = after_all-goes calls mid new others ∙ ap (asked_after_all calls) first

pub Asks-only : (bytes : List ℕ) (old first second : Asked) → Asks old bytes first → Asks old bytes second → first ≡ second
Asks-only bytes old first second (calls, are, is) (others, are_others, is_other) =
    is ∙ (ap (λ (l : List Call). asked_after_all l old) (AreCalls-only bytes calls others are are_others) ∙ sym is_other)
