-- A piece of one byte is that byte.
use Rattle.std.proofs.Common.{List, ℕ, ◌≡◌, ◌≤◌, ◌<◌, [], ◌∷◌, ◌++◌, length, get_or, refl, subst, arith}
use Rattle.anstyle_parse.specs.Stream.Calls.{HasReceived}
use Rattle.anstyle_parse.proofs.laws.take_piece.Goals as goal

one_byte : (bytes : List ℕ) → 1 ≤ length bytes → length bytes < 2 → get_or bytes 0 0 ∷ [] ≡ bytes
one_byte [] some few = absurd (omega (arith, some))
one_byte (b ∷ []) some few = refl
one_byte (b ∷ c ∷ bytes) some few = absurd (omega (arith, few))

pub returns-in-len1-clause-received : goal.returns-in-len1-clause-received
returns-in-len1-clause-received g c = λ first before stands has.
    subst (λ l. HasReceived g.P.Perform.means first (before ++ l) c.advance.new.performer)
    (one_byte c.args.piece.now (omega (arith, c.in-len1.len_at_least)) (omega (arith, c.in-len1.len_below)))
    (c.advance.ensures.received first before refl stands has)
