-- The numbers that are left make the same of it as all of them did.
use Rattle.std.proofs.Common.{◌≡◌, ℕ, List, [], ◌∷◌, map, drop}
use Rattle.ansi_modes.specs.Asked.{with_numbers}
use Rattle.ansi_modes.proofs.asked.Asked.set_each.Given as goal

abbrev pub invariant-loop-number : goal.invariant-loop-number
invariant-loop-number l =
    with_numbers l.on (map (λ number. number ∷ []) (drop l.number-index l.numbers)) l.self
    ≡ with_numbers l.on (map (λ number. number ∷ []) l.numbers) l.initial.self
