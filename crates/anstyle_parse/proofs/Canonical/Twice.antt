-- What follows from replay, lawful lists and the one division.
use Rattle.std.proofs.Common.{◌≡◌, ℕ, List, [], ap, subst}
use Rattle.anstyle_parse.specs.Stream.Call.{Call}
use Rattle.anstyle_parse.specs.Stream.Calls.{AreCalls, Continues}
use Rattle.anstyle_parse.specs.Stream.Canon.{canon}
use Rattle.anstyle_parse.specs.Laws.Lawful.{AreLawful}
use Rattle.anstyle_parse.proofs.Division.Only.{AreCalls-only}
use Rattle.anstyle_parse.proofs.Canonical.Items.{AreCalls-nil}
use Rattle.anstyle_parse.proofs.Canonical.Replay.{replay}
use Rattle.anstyle_parse.proofs.Lawful.Calls.{lawful}

-- a canonical text makes no other calls than those that it was made of
pub replay-only : (calls others : List Call) → AreLawful calls → AreCalls (canon calls) others → others ≡ calls
replay-only calls others h are = AreCalls-only (canon calls) others calls are (replay calls h)

-- the calls of bytes, written canonically and read again, are the same
pub canon_twice : (bytes : List ℕ) (calls others : List Call) → AreCalls bytes calls → AreCalls (canon calls) others → others ≡ calls
canon_twice bytes calls others first second = replay-only calls others (lawful bytes calls first) second

-- so the canonical text of what a canonical text makes is that text
pub canon-canon : (bytes : List ℕ) (calls others : List Call) → AreCalls bytes calls → AreCalls (canon calls) others → canon others ≡ canon calls
canon-canon bytes calls others first second = ap canon (canon_twice bytes calls others first second)

-- lawful lists with one canonical text are one list
pub canon_injective : (a b : List Call) → AreLawful a → AreLawful b → canon a ≡ canon b → a ≡ b
canon_injective a b h k e = replay-only b a k (subst (λ text. AreCalls text a) e (replay a h))

-- what continues the calls of no bytes, by the canonical text of a lawful list, is that list
pub Continues-replay : (bytes : List ℕ) (more calls : List Call) → Continues [] bytes more → AreLawful calls → bytes ≡ canon calls → more ≡ calls
Continues-replay bytes more calls continues h e =
    replay-only calls more h (subst (λ text. AreCalls text more) e (continues [] AreCalls-nil))
