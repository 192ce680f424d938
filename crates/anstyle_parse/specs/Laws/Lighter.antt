-- Calls beside others that take no more bytes.
use Rattle.std.specs.Prelude.{◌≡◌, ◌≤◌, ◌⊎◌, ℕ, false, List, [], ◌∷◌, length, ⊤}
use Rattle.anstyle_parse.specs.Stream.Call.{Call, print, execute, esc_dispatch}
use Rattle.anstyle_parse.specs.Stream.Calls.{AreCalls}
use Rattle.anstyle_parse.specs.Stream.Characters.{replacement}

-- the same call, or a quotation mark that is printed in place of U+FFFD, or CAN in place of ESC \
abbrev pub IsLighter : (call other : Call) → Type 0
IsLighter call other = (call ≡ other) ⊎ (((call ≡ print replacement) × (other ≡ print 0x22))
    ⊎ ((call ≡ esc_dispatch [] false 0x5C) × (other ≡ execute 0x18)))

-- as many calls, each beside its own
unfoldable pub AreLighter : (calls others : List Call) → Type 0
AreLighter [] [] = ⊤
AreLighter (call ∷ calls) (other ∷ others) = IsLighter call other × AreLighter calls others
AreLighter calls others = ⊥

-- So many bytes are enough for these calls, but that a quotation mark is printed in place of some U+FFFD, which takes
-- three bytes, and CAN, which cancels a string, is executed in place of some ESC \, which takes two: what is bounded by
-- the bytes that make calls, no more for U+FFFD than for a quotation mark, and no more for ESC \ than for CAN, is
-- bounded by so many bytes.
pub record AreEnough (count : ℕ) (calls : List Call) : Type 0 where
  pub raw : List ℕ
  pub others : List Call
  pub short : length raw ≤ count
  pub made : AreCalls raw others
  pub lighter : AreLighter calls others
