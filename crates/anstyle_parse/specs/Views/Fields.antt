-- What the bytes of fields lead to: a number that has taken digits, and a header that has taken fields.
use Rattle.std.specs.Prelude.{◌≡◌, ℕ, ◌+◌, ◌-◌, ◌*◌, List, ◌++◌, fold, min, ⊤}
use Rattle.anstyle_parse.specs.Stream.Bytes.{is_within, is_parameter}
use Rattle.anstyle_parse.specs.Stream.Items.{EachIs}
use Rattle.anstyle_parse.specs.Stream.Arguments.{max_field}
use Rattle.anstyle_parse.specs.Machine.Step.{Machine, after_param}

-- the number with one digit more, as far as a field can be
abbrev pub number_with : ℕ → ℕ → ℕ
number_with number digit = min max_field (number * 10 + (digit - 0x30))

-- Digits at the front of the bytes go into the number, one after another.
pub record TakesDigits (old : ℕ) (bytes : List ℕ) (new : ℕ) (left : List ℕ) : Type 0 where
  pub digits : List ℕ
  pub whole : bytes ≡ digits ++ left
  pub each : EachIs (λ b. is_within 0x30 0x39 b) digits
  pub taken : new ≡ fold number_with old digits

-- Digits and separators at the front of the bytes go into the header, one after another.
pub record TakesFields (old : Machine ⊤) (bytes : List ℕ) (new : Machine ⊤) (left : List ℕ) : Type 0 where
  pub fields : List ℕ
  pub whole : bytes ≡ fields ++ left
  pub each : EachIs is_parameter fields
  pub taken : new ≡ fold (λ m b. after_param b m) old fields
