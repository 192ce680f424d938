-- The calls that a performer receives, with their arguments as plain values.
use Rattle.std.specs.Prelude.{◌≡◌, ℕ, Bool, List, [], ◌∷◌}

-- The eight kinds, named as the functions of Perform. Groups are lists of fields.
pub data Call : Type 0 where
  print : (character : ℕ) → Call
  execute : (byte : ℕ) → Call
  hook : (groups : List (List ℕ)) (intermediates : List ℕ) (ignore : Bool) (final : ℕ) → Call
  put : (byte : ℕ) → Call
  unhook : Call
  osc_dispatch : (parts : List (List ℕ)) (bell_terminated : Bool) → Call
  csi_dispatch : (groups : List (List ℕ)) (intermediates : List ℕ) (ignore : Bool) (final : ℕ) → Call
  esc_dispatch : (intermediates : List ℕ) (ignore : Bool) (final : ℕ) → Call

-- A performer goes from old to new by these calls: there are values between, each
-- joined to the next by what the performer means by that call.
abbrev pub Goes : {P : Type 0} → (P → Call → P → Type 0) → P → List Call → P → Type 0
Goes means old [] new = new ≡ old
Goes {P} means old (call ∷ calls) new = (mid : P) × means old call mid × Goes means mid calls new
