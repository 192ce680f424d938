-- Fields written in decimal and read back.
use Rattle.std.proofs.Common.{◌≡◌, ℕ, zero, suc, ◌+◌, ◌-◌, ◌%◌, ◌^◌, ◌<◌, ◌≤◌, Bool, true, not, List, [], ◌∷◌, ◌++◌, length, map, refl, sym, ap, ◌∙◌, eqb, arith, length-append, take_all, lit<, lt_of_le_of_lt}
use Rattle.std.specs.List.{AllByRecursion, concat, slice_split}
use Rattle.std.specs.Fmt.{decimal}
use Rattle.std.proofs.lemmas.Fmt.{decimal_by_steps, decimal_is_IsNumeral}
use Rattle.anstyle_parse.specs.Stream.Bytes.{is_within, is_parameter, colon, semicolon}
use Rattle.anstyle_parse.specs.Stream.Arguments.{field, max_field, first_fields}
use Rattle.anstyle_parse.specs.Stream.Items.{EachIs}
use Rattle.anstyle_parse.specs.Stream.Groups.{fields_text, groups_text}
use Rattle.anstyle_parse.specs.Laws.Lawful.{IsGroup}
use Rattle.anstyle_parse.proofs.Bytes.Passing.{EachIs-append, EachIs-weaker}
use Rattle.anstyle_parse.proofs.Lists.Passing.{implied, EachIs-join_with_byte, AllByRecursion-map, AllByRecursion-weaker, slice_split-join_with_byte, join_with_byte-push_empty, EachLacks}
use Rattle.anstyle_parse.proofs.Characters.Encoding.{within, within_parts}

-- 0 to 9
unfoldable pub is_digit : ℕ → Bool
is_digit b = is_within 0x30 0x39 b

fits : (n : ℕ) → n ≤ max_field → n < 2 ^ 64
fits n h = lt_of_le_of_lt h (lit< tt)

-- a field is written in digits
pub decimal-digits : (n : ℕ) → n ≤ max_field → EachIs is_digit (decimal n)
unfolding is_digit
decimal-digits n h =
    decimal_by_steps (λ m ds. EachIs is_digit ds)
    (λ m small. (within 0x30 0x39 (48 + m) (omega arith) (omega arith), tt))
    (λ m ds large each. EachIs-append is_digit ds ((48 + m % 10) ∷ []) each (within 0x30 0x39 (48 + m % 10) (omega arith) (omega arith), tt))
    n (fits n h)

-- and read back
pub field-decimal : (n : ℕ) → n ≤ max_field → field (decimal n) ≡ n
field-decimal n h = omega (arith, (decimal_is_IsNumeral n (fits n h)).1)

digit-implies : (q : ℕ → Bool) → ((b : ℕ) → b < 256 → is_digit b ≡ true → q b ≡ true) → (b : ℕ) → is_digit b ≡ true → q b ≡ true
unfolding is_digit
digit-implies q step b e = step b (omega (arith, (within_parts 0x30 0x39 b e).1)) e

digit-parameter : (b : ℕ) → is_digit b ≡ true → is_parameter b ≡ true
unfolding is_digit is_parameter is_within
digit-parameter b e = digit-implies is_parameter (λ x l h. implied is_digit is_parameter 256 x refl l h) b e

digit-no_colon : (b : ℕ) → is_digit b ≡ true → not (eqb b colon) ≡ true
unfolding is_digit is_within
digit-no_colon b e = digit-implies (λ x. not (eqb x colon)) (λ x l h. implied is_digit (λ y. not (eqb y colon)) 256 x refl l h) b e

digit-no_semicolon : (b : ℕ) → is_digit b ≡ true → not (eqb b semicolon) ≡ true
unfolding is_digit is_within
digit-no_semicolon b e = digit-implies (λ x. not (eqb x semicolon)) (λ x l h. implied is_digit (λ y. not (eqb y semicolon)) 256 x refl l h) b e

-- what holds of digits holds of the fields of a group
fields-each : (q : ℕ → Bool) → ((b : ℕ) → is_digit b ≡ true → q b ≡ true) → (group : List ℕ) → AllByRecursion (λ n. n ≤ max_field) group → AllByRecursion (EachIs q) (map decimal group)
fields-each q step group h =
    AllByRecursion-map (EachIs q) decimal group
    (AllByRecursion-weaker (λ n. n ≤ max_field) (λ n. EachIs q (decimal n)) (λ n k. EachIs-weaker is_digit q step (decimal n) (decimal-digits n k)) group h)

-- a text of a group, read
abbrev pub read_group : List ℕ → List ℕ
read_group text = map field (slice_split (λ b. eqb b colon) text)

fields_text-each : (q : ℕ → Bool) → ((b : ℕ) → is_digit b ≡ true → q b ≡ true) → q colon ≡ true → (group : List ℕ) → IsGroup group → EachIs q (fields_text group)
fields_text-each q step at group h = EachIs-join_with_byte q colon (map decimal group) at (fields-each q step group h.1)

fields_read : (group : List ℕ) → AllByRecursion (λ n. n ≤ max_field) group → map field (map decimal group) ≡ group
fields_read [] h = refl
fields_read (n ∷ group) h = ap (λ m. m ∷ map field (map decimal group)) (field-decimal n h.0) ∙ ap (λ l. n ∷ l) (fields_read group h.1)

-- a group is read from its text
pub read_group-fields_text : (group : List ℕ) → IsGroup group → read_group (fields_text group) ≡ group
read_group-fields_text [] h = absurd (omega (arith, h.0))
read_group-fields_text (n ∷ group) h =
    ap (map field) (slice_split-join_with_byte colon (decimal n) (map decimal group) (fields-each (λ b. not (eqb b colon)) digit-no_colon (n ∷ group) h.1))
    ∙ fields_read (n ∷ group) h.1

groups_read : (groups : List (List ℕ)) → AllByRecursion IsGroup groups → map read_group (map fields_text groups) ≡ groups
groups_read [] h = refl
groups_read (group ∷ groups) h =
    ap (λ g. g ∷ map read_group (map fields_text groups)) (read_group-fields_text group h.0) ∙ ap (λ l. group ∷ l) (groups_read groups h.1)

-- the parameter bytes of a header, read as groups
abbrev pub read_groups : List ℕ → List (List ℕ)
read_groups text = map read_group (slice_split (λ b. eqb b semicolon) text)

no_semicolons : (groups : List (List ℕ)) → AllByRecursion IsGroup groups → EachLacks semicolon (map fields_text groups)
no_semicolons groups h =
    AllByRecursion-map (λ part. EachIs (λ b. not (eqb b semicolon)) part) fields_text groups
    (AllByRecursion-weaker IsGroup (λ group. EachIs (λ b. not (eqb b semicolon)) (fields_text group))
    (λ group k. fields_text-each (λ b. not (eqb b semicolon)) digit-no_semicolon refl group k) groups h)

-- the text of groups is read as these groups
pub read_groups-groups_text : (groups : List (List ℕ)) → 0 < length groups → AllByRecursion IsGroup groups → read_groups (groups_text groups) ≡ groups
read_groups-groups_text [] some h = absurd (omega arith)
read_groups-groups_text (group ∷ groups) some h =
    ap (map read_group) (slice_split-join_with_byte semicolon (fields_text group) (map fields_text groups) (no_semicolons (group ∷ groups) h))
    ∙ groups_read (group ∷ groups) h

-- one more element of which it holds
pub AllByRecursion-push : {X : Type 0} (P : X → Type 0) (xs : List X) (x : X) → AllByRecursion P xs → P x → AllByRecursion P (xs ++ x ∷ [])
AllByRecursion-push P [] x h k = (k, tt)
AllByRecursion-push P (y ∷ xs) x h k = (h.0, AllByRecursion-push P xs x h.1 k)

map-push : {X Y : Type 0} (f : X → Y) (xs : List X) (x : X) → map f (xs ++ x ∷ []) ≡ map f xs ++ f x ∷ []
map-push f [] x = refl
map-push f (y ∷ xs) x = ap (λ l. f y ∷ l) (map-push f xs x)

-- with one more 3B it is read as these groups and one of one field, 0
pub read_groups-one_more : (groups : List (List ℕ)) → 0 < length groups → AllByRecursion IsGroup groups → read_groups (groups_text groups ++ semicolon ∷ []) ≡ groups ++ (0 ∷ []) ∷ []
read_groups-one_more [] some h = absurd (omega arith)
read_groups-one_more (group ∷ groups) some h =
    ap read_groups (sym (join_with_byte-push_empty semicolon (fields_text group) (map fields_text groups)))
    ∙ (ap (map read_group) (slice_split-join_with_byte semicolon (fields_text group) (map fields_text groups ++ [] ∷ [])
    ((no_semicolons (group ∷ groups) h).0, AllByRecursion-push (λ part. EachIs (λ b. not (eqb b semicolon)) part) (map fields_text groups) [] (no_semicolons (group ∷ groups) h).1 tt))
    ∙ (map-push read_group (fields_text group ∷ map fields_text groups) [] ∙ ap (λ l. l ++ (0 ∷ []) ∷ []) (groups_read (group ∷ groups) h)))

-- the separators are parameter bytes
colon_is : is_parameter colon ≡ true
unfolding is_parameter is_within
colon_is = refl

pub semicolon_is : is_parameter semicolon ≡ true
unfolding is_parameter is_within
semicolon_is = refl

-- the text of groups is made of parameter bytes
pub groups_text-parameters : (groups : List (List ℕ)) → AllByRecursion IsGroup groups → EachIs is_parameter (groups_text groups)
groups_text-parameters groups h =
    EachIs-join_with_byte is_parameter semicolon (map fields_text groups) semicolon_is
    (AllByRecursion-map (EachIs is_parameter) fields_text groups
    (AllByRecursion-weaker IsGroup (λ group. EachIs is_parameter (fields_text group)) (λ group k. fields_text-each is_parameter digit-parameter colon_is group k) groups h))

-- where there are no more than n fields, the first n are all
pub first_fields-all : (n : ℕ) (groups : List (List ℕ)) → AllByRecursion IsGroup groups → length (concat groups) ≤ n → first_fields n groups ≡ groups
first_fields-all n [] h few = refl
first_fields-all zero (group ∷ groups) h few = absurd (omega (arith, h.0.0, length-append group (concat groups)))
first_fields-all (suc n) (group ∷ groups) h few =
    ap (λ g. g ∷ first_fields (suc n - length group) groups) (take_all (suc n) group (omega (arith, length-append group (concat groups))))
    ∙ ap (λ l. group ∷ l) (first_fields-all (suc n - length group) groups h.1 (omega (arith, length-append group (concat groups))))

first_fields-none : (n : ℕ) (groups : List (List ℕ)) → n ≡ 0 → first_fields n groups ≡ []
first_fields-none n [] e = refl
first_fields-none zero (group ∷ groups) e = refl
first_fields-none (suc n) (group ∷ groups) e = absurd (omega arith)

-- where groups have n fields, the first n of these and more are these
pub first_fields-front : (n : ℕ) (groups more : List (List ℕ)) → AllByRecursion IsGroup groups → length (concat groups) ≡ n → first_fields n (groups ++ more) ≡ groups
first_fields-front n [] more h exact = first_fields-none n more (sym exact)
first_fields-front zero (group ∷ groups) more h exact = absurd (omega (arith, h.0.0, length-append group (concat groups)))
first_fields-front (suc n) (group ∷ groups) more h exact =
    ap (λ g. g ∷ first_fields (suc n - length group) (groups ++ more)) (take_all (suc n) group (omega (arith, length-append group (concat groups))))
    ∙ ap (λ l. group ∷ l) (first_fields-front (suc n - length group) groups more h.1 (omega (arith, length-append group (concat groups))))
