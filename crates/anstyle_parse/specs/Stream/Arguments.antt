-- What CSI, device control and operating system commands say, computed from their bytes.
use Rattle.std.specs.Prelude.{ℕ, suc, zero, ◌-◌, Bool, ◌||◌, nat_lt, ◌==◌, List, [], ◌∷◌, ◌++◌, length, take, map, filter, min, if◌then◌else◌}
use Rattle.std.specs.List.{list_all, slice_split, concat}
use Rattle.std.specs.Str.Parse.{digits_value}
use Rattle.anstyle_parse.specs.Stream.Bytes.{is_within, is_intermediate, is_parameter, is_marker, is_significant, colon, semicolon}

-- Limits: fields in all, the greatest field, collected bytes, stored bytes and parts of
-- an operating system command.
abbrev pub max_fields : ℕ
max_fields = 32

abbrev pub max_field : ℕ
max_field = 65535

abbrev pub max_collected : ℕ
max_collected = 2

abbrev pub max_osc_bytes : ℕ
max_osc_bytes = 1024

abbrev pub max_osc_parts : ℕ
max_osc_parts = 16

-- the significant bytes, in order
abbrev pub significant : List ℕ → List ℕ
significant bytes = filter is_significant bytes

-- the list without a marker at its head
abbrev pub after_marker : List ℕ → List ℕ
after_marker [] = []
after_marker (b ∷ bytes) = if is_marker b then bytes else b ∷ bytes

-- the list from the first byte that is no parameter byte
abbrev pub after_parameters : List ℕ → List ℕ
after_parameters [] = []
after_parameters (b ∷ bytes) = if is_parameter b then after_parameters bytes else b ∷ bytes

-- at most one marker, then parameter bytes, then intermediates
abbrev pub has_shape : List ℕ → Bool
has_shape header = list_all is_intermediate (after_parameters (after_marker header))

-- A field's decimal value, capped; a field of no digit is 0.
abbrev pub field : List ℕ → ℕ
field digits = min max_field (digits_value 10 digits)

-- the fields of a header, group by group: 3B separates groups, 3A fields in a group
abbrev pub grouped_fields : List ℕ → List (List ℕ)
grouped_fields header =
    map (λ group. map field (slice_split (λ b. b == colon) group))
    (slice_split (λ b. b == semicolon) (filter is_parameter header))

-- the groups of the first n fields
abbrev pub first_fields : ℕ → List (List ℕ) → List (List ℕ)
first_fields n [] = []
first_fields zero (group ∷ groups) = []
first_fields (suc n) (group ∷ groups) = take (suc n) group ∷ first_fields (suc n - length group) groups

-- the groups that a header shows
unfoldable pub groups_of : List ℕ → List (List ℕ)
groups_of header = first_fields max_fields (grouped_fields header)

-- the marker, then the intermediates
abbrev pub all_collected : List ℕ → List ℕ
all_collected header = filter is_marker header ++ filter is_intermediate header

-- the first two of them
unfoldable pub collected_of : List ℕ → List ℕ
collected_of header = take max_collected (all_collected header)

-- whether the header has more fields, or more collected bytes, than it shows
unfoldable pub ignore_of : List ℕ → Bool
ignore_of header =
    nat_lt max_fields (length (concat (grouped_fields header))) || nat_lt max_collected (length (all_collected header))

-- the bytes of an operating system command that are not dropped
unfoldable pub is_kept : ℕ → Bool
is_kept b = is_within 0x20 0xFF b

-- the front of a text through its n-th byte that is no separator; all of it, if there are fewer
abbrev pub through_stored : ℕ → List ℕ → List ℕ
through_stored n [] = []
through_stored zero (b ∷ bytes) = []
through_stored (suc n) (b ∷ bytes) =
    b ∷ (if b == semicolon then through_stored (suc n) bytes else through_stored n bytes)

-- The parts of an operating system command: of the kept bytes those through the 1024th
-- that is stored, split at 3B; the first sixteen.
unfoldable pub parts_of : List ℕ → List (List ℕ)
parts_of text =
    take max_osc_parts (slice_split (λ b. b == semicolon) (through_stored max_osc_bytes (filter is_kept text)))
