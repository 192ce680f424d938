-- Numbers of control sequences and of operating system commands.
--
-- Source: ECMA-48, 5.4.2, "Format of a control sequence"; xterm's ctlseqs, "Definitions" (Ps, Pt).
use Rattle.std.specs.Prelude.{ℕ, ◌+◌, ◌-◌, ◌*◌, min, Option, None, Some, List, [], ◌∷◌, slice_index_or, if◌then◌else◌}
use Rattle.anstyle_parse.specs.Stream.Bytes.{is_within}
use Rattle.anstyle_parse.specs.Stream.Arguments.{max_field}

-- of a control sequence the first field of each group counts; a missing one is 0
abbrev pub first_field : List ℕ → ℕ
first_field group = slice_index_or group 0 0

abbrev pub first_of : List (List ℕ) → ℕ
first_of groups = first_field (slice_index_or groups 0 [])

abbrev pub second_of : List (List ℕ) → ℕ
second_of groups = first_field (slice_index_or groups 1 [])

-- a number with a digit more; it stops at the greatest field
abbrev pub with_digit : (value digit : ℕ) → ℕ
with_digit value digit = min max_field (value * 10 + (digit - 0x30))

-- Of a command the number is a part of digits alone; as in a control sequence no digit is 0.
abbrev pub number_from : ℕ → List ℕ → Option ℕ
number_from value [] = Some value
number_from value (byte ∷ bytes) = if is_within 0x30 0x39 byte then number_from (with_digit value byte) bytes else None

abbrev pub number_of : List ℕ → Option ℕ
number_of bytes = number_from 0 bytes
