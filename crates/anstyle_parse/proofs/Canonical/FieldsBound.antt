-- The canonical text of the fields that a header shows is at most twice as long as the header.
use Rattle.std.proofs.Common.{◌≡◌, ℕ, zero, suc, ◌+◌, ◌*◌, ◌^◌, ◌<◌, ◌≤◌, Bool, true, not, ◌&&◌, List, [], ◌∷◌, ◌++◌, length, take, map, refl, ap, ◌∙◌, eqb, ltb, ltb-true, arith, lit<, lt_of_le_of_lt, pow-suc}
use Rattle.std.specs.List.{AllByRecursion, filter, concat, slice_split}
use Rattle.std.specs.Char.{digit_value}
use Rattle.std.specs.Fmt.{decimal}
use Rattle.std.specs.Str.Parse.{AllDigits}
use Rattle.std.proofs.lemmas.Bool.{and_parts}
use Rattle.std.proofs.lemmas.List.{map-append}
use Rattle.std.proofs.lemmas.Fmt.{length-decimal-le}
use Rattle.std.proofs.lemmas.Int.Digits.{digits_value-lt}
use Rattle.anstyle_parse.specs.Stream.Bytes.{is_within, is_parameter, colon, semicolon}
use Rattle.anstyle_parse.specs.Stream.Arguments.{field, max_field, max_fields, grouped_fields, groups_of}
use Rattle.anstyle_parse.specs.Stream.Items.{EachIs}
use Rattle.anstyle_parse.specs.Stream.Groups.{fields_text, groups_text}
use Rattle.anstyle_parse.specs.Laws.Lawful.{IsGroup}
use Rattle.anstyle_parse.proofs.Lists.Passing.{implied, EachIs-filter}
use Rattle.anstyle_parse.proofs.Characters.Encoding.{within_parts}
use Rattle.anstyle_parse.proofs.Arguments.Decimals.{read_group}
use Rattle.anstyle_parse.proofs.Lists.Parts.{slice_split-each, spaced, length-join_with_byte, length-join_with_byte_le, spaced-slice_split, length-slice_split_le, length-filter_le}
use Rattle.anstyle_parse.proofs.Lawful.Headers.{groups_of-groups, fields_of}

-- a parameter byte that is no 3B, and no 3A either
abbrev in_group : ℕ → Bool
in_group b = is_parameter b && not (eqb b semicolon)

abbrev in_field : ℕ → Bool
in_field b = in_group b && not (eqb b colon)

digit-below : (b : ℕ) → in_field b ≡ true → digit_value b < 10
unfolding is_parameter is_within
digit-below b e =
    let parts = and_parts (in_group b) (not (eqb b colon)) e in
    let more = and_parts (is_parameter b) (not (eqb b semicolon)) parts.0 in
    let below : b < 256 = omega (arith, (within_parts 0x30 0x3B b more.0).1) in
    ltb-true (digit_value b) 10 (implied in_field (λ x. ltb (digit_value x) 10) 256 b refl below e)

all-digits : (digits : List ℕ) → EachIs in_field digits → AllDigits 10 digits
all-digits [] h = tt
all-digits (b ∷ digits) h = (digit-below b h.0, all-digits digits h.1)

-- a field is written in no more digits than it was read from, but at least one
length-decimal-field : (digits : List ℕ) → EachIs in_field digits → length (decimal (field digits)) ≤ suc (length digits)
length-decimal-field digits h =
    let value = digits_value-lt 10 digits (all-digits digits h) in
    let capped : field digits ≤ max_field = omega arith in
    let more : 10 ^ suc (length digits) ≡ 10 ^ length digits * 10 = pow-suc 10 (length digits) in
    length-decimal-le (suc (length digits)) (field digits) (omega arith) (omega (arith, value, more)) (lt_of_le_of_lt capped (lit< tt))

-- the fields of a group, of groups, and the first of them
spaced-fields : (texts : List (List ℕ)) → AllByRecursion (EachIs in_field) texts → spaced (map decimal (map field texts)) ≤ spaced texts + length texts
spaced-fields [] h = omega arith
spaced-fields (digits ∷ texts) h = omega (arith, length-decimal-field digits h.0, spaced-fields texts h.1)

spaced-read_group : (text : List ℕ) → EachIs in_group text → spaced (map decimal (read_group text)) ≤ 2 * suc (length text)
spaced-read_group text h =
    let texts = slice_split (λ b. eqb b colon) text in
    omega (arith, spaced-fields texts (slice_split-each in_group colon text h), spaced-slice_split colon text, length-slice_split_le (λ b. eqb b colon) text)

spaced-append : (xs ys : List (List ℕ)) → spaced (xs ++ ys) ≡ spaced xs + spaced ys
spaced-append [] ys = omega arith
spaced-append (x ∷ xs) ys = omega (arith, spaced-append xs ys)

spaced-decimal-append : (xs ys : List ℕ) → spaced (map decimal (xs ++ ys)) ≡ spaced (map decimal xs) + spaced (map decimal ys)
spaced-decimal-append xs ys = ap spaced (map-append decimal xs ys) ∙ spaced-append (map decimal xs) (map decimal ys)

spaced-read_groups : (texts : List (List ℕ)) → AllByRecursion (EachIs in_group) texts → spaced (map decimal (concat (map read_group texts))) ≤ 2 * spaced texts
spaced-read_groups [] h = omega arith
spaced-read_groups (text ∷ texts) h =
    omega (arith, spaced-decimal-append (read_group text) (concat (map read_group texts)), spaced-read_group text h.0, spaced-read_groups texts h.1)

spaced-take : (n : ℕ) (fields : List ℕ) → spaced (map decimal (take n fields)) ≤ spaced (map decimal fields)
spaced-take zero fields = omega arith
spaced-take (suc n) [] = omega arith
spaced-take (suc n) (m ∷ fields) = omega (arith, spaced-take n fields)

spaced-fields_text : (group : List ℕ) → IsGroup group → suc (length (fields_text group)) ≡ spaced (map decimal group)
spaced-fields_text [] h = absurd (omega (arith, h.0))
spaced-fields_text (n ∷ group) h = length-join_with_byte colon (decimal n) (map decimal group)

spaced-groups : (groups : List (List ℕ)) → AllByRecursion IsGroup groups → spaced (map fields_text groups) ≡ spaced (map decimal (concat groups))
spaced-groups [] h = refl
spaced-groups (group ∷ groups) h =
    omega (arith, spaced-fields_text group h.0, spaced-groups groups h.1, spaced-decimal-append group (concat groups))

-- the groups that a header shows are written in at most twice its length
pub length-groups_text : (header : List ℕ) → length (groups_text (groups_of header)) ≤ 2 * length header + 2
length-groups_text header =
    let parameters = filter is_parameter header in
    let texts = slice_split (λ b. eqb b semicolon) parameters in
    omega (
      arith,
      length-join_with_byte_le semicolon (map fields_text (groups_of header)),
      spaced-groups (groups_of header) (groups_of-groups header),
      ap (λ l. spaced (map decimal l)) (fields_of header),
      spaced-take max_fields (concat (grouped_fields header)),
      spaced-read_groups texts (slice_split-each is_parameter semicolon parameters (EachIs-filter is_parameter header)),
      spaced-slice_split semicolon parameters,
      length-filter_le is_parameter header,
    )
