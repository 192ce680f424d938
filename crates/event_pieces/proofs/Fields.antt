-- The bytes of fields, and the groups read back from them.
use Rattle.std.proofs.Common.{◌≡◌, ◌<◌, ◌+◌, ◌*◌, ◌/◌, ◌%◌, ◌≤◌, ℕ, zero, suc, Bool, true, false, List, [], ◌∷◌, ◌++◌, length, map, take, get_or, refl, ap, ap₂, ◌∙◌, arith}
use mir.Syntax.{w16}
use mir.Val.{bool_byte, Fits}
use Rattle.std.proofs.Math.Dec.{eqb-suc-zero}
use Rattle.std.specs.Prelude.{not, ◌==◌}
use Rattle.std.specs.Simd.Lanes.{Each1, digits_l, number_l}
use Rattle.std.specs.List.{AllByRecursion, join_with_byte}
use Rattle.anstyle_parse.specs.Stream.Bytes.{semicolon}
use Rattle.anstyle_parse.specs.Stream.Groups.{HaveFields}
use Rattle.anstyle_parse.specs.Stream.Items.{EachIs}
use Rattle.anstyle_parse.proofs.Lists.Passing.{slice_split-join_with_byte}
use Rattle.event_pieces.specs.Event.{goes_on, group_bytes, groups_bytes, before_groups, groups_in, parts_in}

-- a field from its low and its high byte
field_in : (field : ℕ) → field % 256 + 256 * (field / 256) ≡ field
field_in field = omega arith

-- the last field of a group
alone : (field : ℕ) (groups : List (List ℕ)) → before_groups false field groups ≡ (field ∷ []) ∷ groups
alone field [] = refl
alone field (group ∷ groups) = refl

group_in : (field : ℕ) (fields rest : List ℕ) → groups_in (group_bytes (field ∷ fields) ++ rest) ≡ (field ∷ fields) ∷ groups_in rest
group_in field [] rest = ap (λ n. before_groups false n (groups_in rest)) (field_in field) ∙ alone field (groups_in rest)
group_in field (next ∷ fields) rest =
    ap (λ n. before_groups true n (groups_in (group_bytes (next ∷ fields) ++ rest))) (field_in field)
    ∙ ap (λ gs. before_groups true field gs) (group_in next fields rest)

-- groups are read back from the bytes of their fields
pub groups_in-bytes : (groups : List (List ℕ)) → HaveFields groups → groups_in (groups_bytes groups) ≡ groups
groups_in-bytes [] have = refl
groups_in-bytes ([] ∷ groups) have = absurd (omega (arith, have.0))
groups_in-bytes ((field ∷ fields) ∷ groups) have =
    group_in field fields (groups_bytes groups) ∙ ap (λ gs. (field ∷ fields) ∷ gs) (groups_in-bytes groups have.1)

-- parts are read back from what joins them
pub parts_in-joined : (parts : List (List ℕ)) → 0 < length parts → AllByRecursion (EachIs (λ b. not (b == semicolon))) parts
    → parts_in (join_with_byte semicolon parts) ≡ parts
parts_in-joined [] some each = absurd (omega arith)
parts_in-joined (part ∷ parts) some each = slice_split-join_with_byte semicolon part parts each

-- whether fields are left
goes_on-some : (fields : List ℕ) → bool_byte (not (length fields == 0)) ≡ goes_on fields
goes_on-some [] = refl
goes_on-some (field ∷ fields) = ap (λ b. bool_byte (not b)) (eqb-suc-zero (length fields))

pub goes_on-test : (fields : List ℕ) (none : Bool) (byte : ℕ) → none ≡ (length fields == 0) → byte ≡ bool_byte (not none) → byte ≡ goes_on fields
goes_on-test fields none byte test is = is ∙ ap (λ b. bool_byte (not b)) test ∙ goes_on-some fields

-- the first five fields, each a group of its own, in a block
lone-bytes : (a b c d e : ℕ) (rest : List ℕ) (count : ℕ) → count ≤ 5
    → take (3 * count) (a % 256 ∷ a / 256 ∷ 0 ∷ b % 256 ∷ b / 256 ∷ 0 ∷ c % 256 ∷ c / 256 ∷ 0 ∷ d % 256 ∷ d / 256 ∷ 0 ∷ e % 256 ∷ e / 256 ∷ 0 ∷ 0 ∷ [])
    ≡ groups_bytes (map (λ field. field ∷ []) (take count (a ∷ b ∷ c ∷ d ∷ e ∷ rest)))
lone-bytes a b c d e rest zero few = refl
lone-bytes a b c d e rest (suc zero) few = refl
lone-bytes a b c d e rest (suc (suc zero)) few = refl
lone-bytes a b c d e rest (suc (suc (suc zero))) few = refl
lone-bytes a b c d e rest (suc (suc (suc (suc zero)))) few = refl
lone-bytes a b c d e rest (suc (suc (suc (suc (suc zero))))) few = refl
lone-bytes a b c d e rest (suc (suc (suc (suc (suc (suc n)))))) few = absurd (omega (arith, few))

-- the two bytes of each number, as the digits of all of them
abbrev two_bytes : List ℕ → List ℕ
two_bytes [] = []
two_bytes (number ∷ numbers) = number % 256 ∷ number / 256 ∷ two_bytes numbers

abbrev two_each : List ℕ → ℕ
two_each [] = 0
two_each (number ∷ numbers) = suc (suc (two_each numbers))

module _ (number above : ℕ) (small : number < 65536) where
  low_byte : (number + 65536 * above) % 256 ≡ number % 256
  low_byte = omega (arith, small)

  high_byte : (number + 65536 * above) / 256 % 256 ≡ number / 256
  high_byte = omega (arith, small)

  past_bytes : (number + 65536 * above) / 256 / 256 ≡ above
  past_bytes = omega (arith, small)

digits-numbers : (numbers : List ℕ) → Each1 (Fits w16) numbers → digits_l 256 (two_each numbers) (number_l 65536 numbers) ≡ two_bytes numbers
digits-numbers [] fits = refl
digits-numbers (number ∷ numbers) fits =
    let above = number_l 65536 numbers in
    ap₂ (λ x xs. x ∷ xs) (low_byte number above fits.0.fits)
    (ap₂ (λ x xs. x ∷ xs) (high_byte number above fits.0.fits) (ap (digits_l 256 (two_each numbers)) (past_bytes number above fits.0.fits) ∙ digits-numbers numbers fits.1))

-- two bytes of each of the first five fields, and a zero behind them
abbrev block_of : List ℕ → List ℕ
block_of bytes =
    get_or bytes 0 0 ∷ get_or bytes 1 0 ∷ 0 ∷ get_or bytes 2 0 ∷ get_or bytes 3 0 ∷ 0 ∷ get_or bytes 4 0 ∷ get_or bytes 5 0 ∷ 0 ∷ get_or bytes 6 0 ∷ get_or bytes 7 0 ∷ 0 ∷ get_or bytes 8 0 ∷ get_or bytes 9 0 ∷ 0 ∷ 0 ∷ []

pub first_fields : (fields : List ℕ) (count : ℕ) → count ≤ 5 → length fields ≡ 8 → Each1 (Fits w16) fields
    → take (3 * count) (block_of (digits_l 256 16 (number_l 65536 fields))) ≡ groups_bytes (map (λ field. field ∷ []) (take count fields))
first_fields (a ∷ b ∷ c ∷ d ∷ e ∷ f ∷ g ∷ h ∷ []) count few all fit =
    ap (λ bytes. take (3 * count) (block_of bytes)) (digits-numbers (a ∷ b ∷ c ∷ d ∷ e ∷ f ∷ g ∷ h ∷ []) fit)
    ∙ lone-bytes a b c d e (f ∷ g ∷ h ∷ []) count few
first_fields (a ∷ b ∷ c ∷ d ∷ e ∷ f ∷ g ∷ h ∷ i ∷ rest) count few all fit = absurd (omega (arith, all))
first_fields [] count few all fit = absurd (omega (arith, all))
first_fields (a ∷ []) count few all fit = absurd (omega (arith, all))
first_fields (a ∷ b ∷ []) count few all fit = absurd (omega (arith, all))
first_fields (a ∷ b ∷ c ∷ []) count few all fit = absurd (omega (arith, all))
first_fields (a ∷ b ∷ c ∷ d ∷ []) count few all fit = absurd (omega (arith, all))
first_fields (a ∷ b ∷ c ∷ d ∷ e ∷ []) count few all fit = absurd (omega (arith, all))
first_fields (a ∷ b ∷ c ∷ d ∷ e ∷ f ∷ []) count few all fit = absurd (omega (arith, all))
first_fields (a ∷ b ∷ c ∷ d ∷ e ∷ f ∷ g ∷ []) count few all fit = absurd (omega (arith, all))
