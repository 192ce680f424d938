-- What a performer has received, and the calls after an ESC.
use Rattle.std.proofs.Common.{ℕ, List, [], ◌∷◌, ◌++◌, refl, subst, append_assoc}
use Rattle.anstyle_parse.specs.Stream.Bytes.{escape_byte}
use Rattle.anstyle_parse.specs.Stream.Call.{Call, Goes}
use Rattle.anstyle_parse.specs.Stream.Calls.{AreCalls, Continues, HasReceived}
use Rattle.anstyle_parse.specs.Stream.Items.{escape, unfinished, sequence}
use Rattle.anstyle_parse.proofs.Canonical.Items.{AreCalls-nil}
use Rattle.anstyle_parse.proofs.Division.Only.{AreCalls-only}
use Rattle.anstyle_parse.proofs.Agreement.Forgotten.{Continues-forgotten}
use Rattle.anstyle_parse.proofs.Machine.Steps.{Goes-append}

-- ESC alone is an escape sequence that is unfinished, and calls nothing
pub AreCalls-escape : AreCalls (escape_byte ∷ []) []
AreCalls-escape = (sequence (escape []) unfinished ∷ [], record { whole = refl; each = ((tt, tt), tt); joined = (refl, tt) }, refl)

-- After one ESC byte the calls are those of ESC and what follows.
pub AreCalls-forgotten : (before bytes : List ℕ) (first more : List Call) → AreCalls (before ++ escape_byte ∷ []) first → AreCalls (escape_byte ∷ bytes) more
    → AreCalls (before ++ escape_byte ∷ bytes) (first ++ more)
AreCalls-forgotten before bytes first more are follow =
    subst (λ l. AreCalls l (first ++ more)) (append_assoc before (escape_byte ∷ []) bytes)
    ((Continues-forgotten before bytes more).0
    (λ calls escape. subst (λ l. AreCalls (escape_byte ∷ bytes) (l ++ more)) (AreCalls-only (escape_byte ∷ []) [] calls AreCalls-escape escape) follow) first are)

module _ {P : Type 0} (means : P → Call → P → Type 0) where
  -- at first a performer has received the calls of no bytes
  pub HasReceived-none : (first : P) → HasReceived means first [] first
  HasReceived-none first = ([], AreCalls-nil, refl)

  -- and by the calls that continue those of the bytes before it receives those of all
  pub HasReceived-more : (first old new : P) (before bytes : List ℕ) (more : List Call) → Continues before bytes more → Goes means old more new
      → HasReceived means first before old → HasReceived means first (before ++ bytes) new
  HasReceived-more first old new before bytes more continues goes (calls, are, went) =
      (calls ++ more, continues calls are, Goes-append means first old new calls more went goes)
