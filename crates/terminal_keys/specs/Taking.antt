-- Texts that are handed on, one after another.
use Rattle.std.specs.Prelude.{ℕ, List, [], ◌++◌}

-- What texts do to what takes them agrees with what their joined text does.
pub record JoinsTexts {T : Type 0} (takes : List ℕ → T → T → Type 0) : Type 0 where
  -- no text leaves it as it is
  pub none : (it : T) → takes [] it it
  -- one and then another do what both do, joined
  pub more : (first second : List ℕ) (old middle new : T) → takes first old middle → takes second middle new
      → takes (first ++ second) old new
