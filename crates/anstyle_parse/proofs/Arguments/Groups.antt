-- The groups of fields of parameter bytes, read from left to right after a group and a
-- number that are open: they are those that splitting the bytes twice gives.
use Rattle.std.proofs.Common.{◌≡◌, ℕ, Bool, true, false, List, [], ◌∷◌, ◌++◌, map, filter, refl, sym, ap, ◌∙◌, append_assoc, append-nil, if◌then◌else◌, ◌==◌, All}
use Rattle.std.specs.List.{slice_split, onto_first, AllByRecursion}
use Rattle.std.proofs.lemmas.List.Splits.{slice_split-cons_no, slice_split_none, slice_split_at}
use Rattle.std.proofs.lemmas.List.Elements.{All-nil, All-push, filter_passes, recursion_from_All}
use Rattle.std.proofs.lemmas.Bool.{cond-true, cond-false}
use Rattle.anstyle_parse.specs.Stream.Bytes.{is_parameter, colon, semicolon}
use Rattle.anstyle_parse.specs.Stream.Arguments.{field, grouped_fields}
use Rattle.anstyle_parse.proofs.Lists.Splits.{onto_front, Parts, Parts-slice_split, slice_split-append}
use Rattle.anstyle_parse.proofs.Bytes.Headers.{next_number, field_push}

-- the groups of parameter bytes, after a group and a number that are open
abbrev pub groups_after : List ℕ → ℕ → List ℕ → List (List ℕ)
groups_after group number [] = (group ++ number ∷ []) ∷ []
groups_after group number (b ∷ bytes) =
    if b == semicolon then (group ++ number ∷ []) ∷ groups_after [] 0 bytes
    else if b == colon then groups_after (group ++ number ∷ []) 0 bytes
    else groups_after group (next_number number b) bytes

-- what each kind of byte does to them
pub groups_after-semicolon : (group : List ℕ) (number b : ℕ) (bytes : List ℕ) → (b == semicolon) ≡ true → groups_after group number (b ∷ bytes) ≡ (group ++ number ∷ []) ∷ groups_after [] 0 bytes
groups_after-semicolon group number b bytes is = cond-true (b == semicolon) _ _ is

pub groups_after-colon : (group : List ℕ) (number b : ℕ) (bytes : List ℕ)
    → (b == semicolon) ≡ false → (b == colon) ≡ true → groups_after group number (b ∷ bytes) ≡ groups_after (group ++ number ∷ []) 0 bytes
groups_after-colon group number b bytes inside is = cond-false (b == semicolon) _ _ inside ∙ cond-true (b == colon) _ _ is

pub groups_after-digit : (group : List ℕ) (number b : ℕ) (bytes : List ℕ)
    → (b == semicolon) ≡ false → (b == colon) ≡ false → groups_after group number (b ∷ bytes) ≡ groups_after group (next_number number b) bytes
groups_after-digit group number b bytes inside no_colon = cond-false (b == semicolon) _ _ inside ∙ cond-false (b == colon) _ _ no_colon

-- the fields of a group's bytes
abbrev fields_of : List ℕ → List ℕ
fields_of group = map field (slice_split (λ b. b == colon) group)

-- the fields of all groups
abbrev split_groups : List ℕ → List (List ℕ)
split_groups bytes = map fields_of (slice_split (λ b. b == semicolon) bytes)

-- bytes that neither end a field nor a group
abbrev NoColon : List ℕ → Type 0
NoColon bytes = All (λ b. (b == colon) ≡ false) bytes

abbrev NoSemicolon : List ℕ → Type 0
NoSemicolon bytes = All (λ b. (b == semicolon) ≡ false) bytes

-- the digits of one field are one field
fields_of-digits : (digits : List ℕ) → NoColon digits → fields_of digits ≡ field digits ∷ []
fields_of-digits digits none = ap (map field) (slice_split_none (λ b. b == colon) digits none)

-- nothing put before the first group changes nothing
onto_front-groups : (bytes : List ℕ) → onto_front [] (split_groups bytes) ≡ split_groups bytes
onto_front-groups bytes =
    let parts : Parts (slice_split (λ b. b == semicolon) bytes) = Parts-slice_split (λ b. b == semicolon) bytes in
    ap (λ list. onto_front [] (map fields_of list)) parts.is ∙ sym (ap (map fields_of) parts.is)

-- after the digits of a field a separator of fields closes it
split_groups-colon : (group digits : List ℕ) (b : ℕ) (bytes : List ℕ) → NoColon digits → NoSemicolon digits → (b == semicolon) ≡ false → (b == colon) ≡ true
    → onto_front (group ++ field digits ∷ []) (split_groups bytes) ≡ onto_front group (split_groups (digits ++ b ∷ bytes))
split_groups-colon group digits b bytes no_colon no_semicolon inside is =
    let parts : Parts (slice_split (λ b. b == semicolon) bytes) = Parts-slice_split (λ b. b == semicolon) bytes in
    ap (λ list. onto_front (group ++ field digits ∷ []) (map fields_of list)) parts.is
    ∙ (ap (λ list. list ∷ map fields_of parts.tail)
    (append_assoc group (field digits ∷ []) (fields_of parts.head)
    ∙ ap (λ list. group ++ list) (sym (ap (map field) (slice_split_at (λ b. b == colon) digits b parts.head no_colon is))))
    ∙ sym (ap (λ list. onto_front group (map fields_of list))
    (slice_split-append (λ b. b == semicolon) digits (b ∷ bytes) no_semicolon
    ∙ ap (onto_front digits) (slice_split-cons_no (λ b. b == semicolon) b bytes inside ∙ ap (onto_first b) parts.is))))

-- with the digits of the open field put before the bytes
abbrev SplitsAfter : List ℕ → List ℕ → List ℕ → Type 0
SplitsAfter group digits bytes = groups_after group (field digits) bytes ≡ onto_front group (split_groups (digits ++ bytes))

-- for each group and digits before the bytes
abbrev SplitsAfterEach : List ℕ → Type 0
SplitsAfterEach bytes = (group digits : List ℕ) → NoColon digits → NoSemicolon digits → SplitsAfter group digits bytes

SplitsAfter-none : SplitsAfterEach []
SplitsAfter-none group digits no_colon no_semicolon =
    sym (ap (λ list. onto_front group (split_groups list)) (append-nil digits)
    ∙ (ap (λ list. onto_front group (map fields_of list)) (slice_split_none (λ b. b == semicolon) digits no_semicolon)
    ∙ ap (λ list. (group ++ list) ∷ []) (fields_of-digits digits no_colon)))

-- one more byte before bytes of which it holds
SplitsAfter-by : (group digits : List ℕ) (b : ℕ) (bytes : List ℕ) → NoColon digits → NoSemicolon digits → is_parameter b ≡ true → SplitsAfterEach bytes
    → (ends_group ends_field : Bool) → (b == semicolon) ≡ ends_group → (b == colon) ≡ ends_field → SplitsAfter group digits (b ∷ bytes)
SplitsAfter-by group digits b bytes no_colon no_semicolon parameter rest true ends_field is e =
    groups_after-semicolon group (field digits) b bytes is
    ∙ (ap (λ groups. (group ++ field digits ∷ []) ∷ groups)
    (rest [] [] (All-nil (λ b. (b == colon) ≡ false)) (All-nil (λ b. (b == semicolon) ≡ false)) ∙ onto_front-groups bytes)
    ∙ sym (ap (λ list. onto_front group (map fields_of list)) (slice_split_at (λ b. b == semicolon) digits b bytes no_semicolon is)
    ∙ ap (λ list. (group ++ list) ∷ split_groups bytes) (fields_of-digits digits no_colon)))
SplitsAfter-by group digits b bytes no_colon no_semicolon parameter rest false true inside is =
    groups_after-colon group (field digits) b bytes inside is
    ∙ (rest (group ++ field digits ∷ []) [] (All-nil (λ b. (b == colon) ≡ false)) (All-nil (λ b. (b == semicolon) ≡ false))
    ∙ split_groups-colon group digits b bytes no_colon no_semicolon inside is)
SplitsAfter-by group digits b bytes no_colon no_semicolon parameter rest false false inside open_field =
    groups_after-digit group (field digits) b bytes inside open_field
    ∙ (ap (λ n. groups_after group n bytes) (field_push digits b parameter open_field inside)
    ∙ (rest group (digits ++ b ∷ []) (All-push (λ b. (b == colon) ≡ false) digits b no_colon open_field) (All-push (λ b. (b == semicolon) ≡ false) digits b no_semicolon inside)
    ∙ ap (λ list. onto_front group (split_groups list)) (append_assoc digits (b ∷ []) bytes)))

SplitsAfter-each : (bytes : List ℕ) → AllByRecursion (λ b. is_parameter b ≡ true) bytes → SplitsAfterEach bytes
SplitsAfter-each [] each group digits no_colon no_semicolon = SplitsAfter-none group digits no_colon no_semicolon
SplitsAfter-each (b ∷ bytes) each group digits no_colon no_semicolon =
    SplitsAfter-by group digits b bytes no_colon no_semicolon each.0 (SplitsAfter-each bytes each.1) (b == semicolon) (b == colon) refl refl

-- a header's groups, read from left to right
pub groups_after-header : (header : List ℕ) → groups_after [] 0 (filter is_parameter header) ≡ grouped_fields header
groups_after-header header =
    SplitsAfter-each (filter is_parameter header)
    (recursion_from_All (λ b. is_parameter b ≡ true) (filter is_parameter header) (filter_passes is_parameter header))
    [] [] (All-nil (λ b. (b == colon) ≡ false)) (All-nil (λ b. (b == semicolon) ≡ false))
    ∙ onto_front-groups (filter is_parameter header)
