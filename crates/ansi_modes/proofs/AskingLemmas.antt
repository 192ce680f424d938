-- A control sequence that is passed over asks for nothing.
use Rattle.std.proofs.Common.{◌≡◌, ℕ, false, List, [], ◌∷◌, arith}
use Rattle.ansi_modes.specs.declared.asked.Asked.{Asked}
use Rattle.ansi_modes.specs.Asking.{may_ask}
use Rattle.ansi_modes.specs.Asked.{sequenced}

pub quiet_sequence : (groups : List (List ℕ)) (marks : List ℕ) (final : ℕ) (a : Asked) → may_ask marks final ≡ false → sequenced groups marks final a ≡ a
unfolding may_ask sequenced
quiet_sequence groups [] final a e = grind arith
quiet_sequence groups (mark ∷ marks) final a e = grind arith
