-- Bytes that are put, and what they are.
use Rattle.std.proofs.Common.{◌≡◌, ◌⊎◌, inr, ℕ, List, subst}
use Rattle.std.specs.Prelude.{Result, Ok, Err, IfOk, IfErr}
use Rattle.screen_pieces.specs.Text.{HasText, LacksRoom}

pub text-is : (answer : Result ℕ ℕ) (text bytes room room_after : List ℕ) → bytes ≡ text
    → IfOk answer (HasText bytes room room_after) → IfOk answer (HasText text room room_after)
text-is answer text bytes room room_after is has = subst (λ t. IfOk answer (HasText t room room_after)) is has

pub lacks-is : (answer : Result ℕ ℕ) (text bytes room : List ℕ) → bytes ≡ text
    → IfErr answer (LacksRoom bytes room) → IfErr answer (λ needed. (needed ≡ 0) ⊎ LacksRoom text room needed)
lacks-is (Ok written) text bytes room is has = has
lacks-is (Err needed) text bytes room is has = inr (subst (λ t. LacksRoom t room needed) is has)
