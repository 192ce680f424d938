-- Texts without a colon, and where a scheme may begin at their end.
use Rattle.std.specs.Prelude.{◌≡◌, ℕ, Bool, ◌||◌, ◌&&◌, not, nat_eq, nat_lt, ◌==◌, List, [], ◌∷◌, ◌++◌, ◌⊎◌, IsTrue, ⊤}
use Rattle.std.specs.Char.{to_ascii_lowercase}
use Rattle.anstyle_parse.specs.Stream.Items.{EachIs}

abbrev pub is_no_colon : ℕ → Bool
is_no_colon b = not (b == 0x3A)

-- nothing, or bytes that begin with a colon
abbrev pub AreAtColon : List ℕ → Type 0
AreAtColon [] = ⊤
AreAtColon (b ∷ bytes) = b ≡ 0x3A

-- The bytes that are left begin at the first colon.
pub record StopsAtColon (bytes left : List ℕ) : Type 0 where
  pub passed : List ℕ
  pub joined : bytes ≡ passed ++ left
  pub before : EachIs is_no_colon passed
  pub at : AreAtColon left

-- the bytes of `https://`, `http://` and `mailto:` but the colon
abbrev pub is_of_small : ℕ → Bool
is_of_small b =
    nat_eq b 0x61
    || (nat_eq b 0x68 || (nat_eq b 0x69 || (nat_eq b 0x6C || (nat_eq b 0x6D || (nat_eq b 0x6F || (nat_eq b 0x70
    || (nat_eq b 0x73 || (nat_eq b 0x74 || nat_eq b 0x2F))))))))

-- in letters of any case
abbrev pub is_of_scheme : ℕ → Bool
is_of_scheme b = is_of_small (to_ascii_lowercase b)

-- a character of its own, and none of these
abbrev pub is_end : ℕ → Bool
is_end b = nat_lt b 0x80 && not (is_of_scheme b)

-- nothing, or a text that ends with such a character
abbrev pub EndsOff : List ℕ → Type 0
EndsOff front = (front ≡ []) ⊎ ((before : List ℕ) × (last : ℕ) × (front ≡ before ++ last ∷ []) × IsTrue (is_end last))
