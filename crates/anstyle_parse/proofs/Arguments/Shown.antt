-- The groups that are shown where fields are limited: those that are closed, and the front
-- of those after them.
use Rattle.std.proofs.Common.{◌≡◌, ℕ, suc, zero, ◌+◌, ◌-◌, ◌<◌, ◌≤◌, Bool, true, false, List, [], ◌∷◌, ◌++◌, length, refl, sym, ap, ap₂, ◌∙◌, append_assoc, append-nil, length-append, arith, ◌==◌}
use Rattle.std.specs.List.{concat}
use Rattle.std.proofs.lemmas.List.{take_at, take_all}
use Rattle.anstyle_parse.specs.Stream.Bytes.{colon, semicolon}
use Rattle.anstyle_parse.specs.Stream.Arguments.{max_fields, first_fields}
use Rattle.anstyle_parse.specs.Stream.Groups.{shown_groups}
use Rattle.anstyle_parse.proofs.Lists.Splits.{length-concat_push}
use Rattle.anstyle_parse.proofs.Bytes.Headers.{next_number}
use Rattle.anstyle_parse.proofs.Arguments.Groups.{groups_after, groups_after-semicolon, groups_after-colon, groups_after-digit}

-- no fields are no groups
first_fields-zero : (groups : List (List ℕ)) → first_fields 0 groups ≡ []
first_fields-zero [] = refl
first_fields-zero (group ∷ groups) = refl

-- a group that fits is shown whole
first_fields-cons : (n : ℕ) (group : List ℕ) (groups : List (List ℕ))
    → 0 < n → length group ≤ n → first_fields n (group ∷ groups) ≡ group ∷ first_fields (n - length group) groups
first_fields-cons zero group groups some fits = absurd (omega arith)
first_fields-cons (suc n) group groups some fits = ap (λ list. list ∷ first_fields (suc n - length group) groups) (take_all (suc n) group fits)

-- the first of the groups begins with the open one
record Begun (group : List ℕ) (groups : List (List ℕ)) : Type 0 where
  number : ℕ
  fields : List ℕ
  others : List (List ℕ)
  is : groups ≡ (group ++ number ∷ fields) ∷ others

Begun-more : (group : List ℕ) (number : ℕ) (groups : List (List ℕ)) → Begun (group ++ number ∷ []) groups → Begun group groups
Begun-more group number groups begun =
    record {
      number = number;
      fields = begun.number ∷ begun.fields;
      others = begun.others;
      is = begun.is ∙ ap (λ list. list ∷ begun.others) (append_assoc group (number ∷ []) (begun.number ∷ begun.fields));
    }

Begun-by : (group : List ℕ) (number b : ℕ) (bytes : List ℕ) → ((open_group : List ℕ) (n : ℕ) → Begun open_group (groups_after open_group n bytes))
    → (ends_group ends_field : Bool) → (b == semicolon) ≡ ends_group → (b == colon) ≡ ends_field → Begun group (groups_after group number (b ∷ bytes))
Begun-by group number b bytes rest true ends_field is e =
    record { number = number; fields = []; others = groups_after [] 0 bytes; is = groups_after-semicolon group number b bytes is }
Begun-by group number b bytes rest false true inside is =
    rw (← groups_after-colon group number b bytes inside is) at (Begun-more group number _ (rest (group ++ number ∷ []) 0))
Begun-by group number b bytes rest false false inside open_field =
    rw (← groups_after-digit group number b bytes inside open_field) at (rest group (next_number number b))

Begun-groups_after : (bytes group : List ℕ) (number : ℕ) → Begun group (groups_after group number bytes)
Begun-groups_after [] group number = record { number = number; fields = []; others = []; is = refl }
Begun-groups_after (b ∷ bytes) group number = Begun-by group number b bytes (Begun-groups_after bytes) (b == semicolon) (b == colon) refl refl

-- there is one more field than the open group has
pub length-groups_after : (group : List ℕ) (number : ℕ) (bytes : List ℕ) → length group < length (concat (groups_after group number bytes))
length-groups_after group number bytes =
    let begun : Begun group (groups_after group number bytes) = Begun-groups_after bytes group number in
    let list : List ℕ = group ++ begun.number ∷ begun.fields in
    omega (arith, ap (λ groups. length (concat groups)) begun.is, length-append list (concat begun.others), length-append group (begun.number ∷ begun.fields))

-- what is closed, and then as many fields as there is room for
abbrev pub shown_after : List (List ℕ) → List (List ℕ) → List (List ℕ)
shown_after closed groups = closed ++ first_fields (max_fields - length (concat closed)) groups

-- with all fields stored, the open group is the last
pub shown_after-full : (closed : List (List ℕ)) (group : List ℕ) (number : ℕ) (bytes : List ℕ) → length (concat closed) + length group ≡ max_fields
    → shown_groups closed group ≡ shown_after closed (groups_after group number bytes)
shown_after-full closed group number bytes full =
    let begun : Begun group (groups_after group number bytes) = Begun-groups_after bytes group number in
    shown_open group (begun.number ∷ begun.fields) begun.others
    ∙ ap₂ (λ n groups. closed ++ first_fields n groups) (omega arith) (sym begun.is)
  where
    shown_open : (group fields : List ℕ) (groups : List (List ℕ)) → shown_groups closed group ≡ closed ++ first_fields (length group) ((group ++ fields) ∷ groups)
    shown_open [] fields groups = sym (append-nil closed)
    shown_open (n ∷ ns) fields groups =
        ap (λ list. closed ++ list)
        (sym (ap₂ (λ list others. list ∷ others) (take_at (n ∷ ns) fields (suc (length ns)) refl)
        (ap (λ k. first_fields k groups) (omega (arith, length-append ns fields)) ∙ first_fields-zero groups)))

-- with room for one more field, the open group can be closed
pub shown_after-push : (closed : List (List ℕ)) (group : List ℕ) (number : ℕ) (groups : List (List ℕ)) → length (concat closed) + length group < max_fields
    → shown_after (closed ++ (group ++ number ∷ []) ∷ []) groups ≡ shown_after closed ((group ++ number ∷ []) ∷ groups)
shown_after-push closed group number groups room =
    let pushed : List ℕ = group ++ number ∷ [] in
    let count : length pushed ≡ length group + 1 = length-append group (number ∷ []) in
    append_assoc closed (pushed ∷ []) _
    ∙ ap (λ list. closed ++ list)
    (ap (λ n. pushed ∷ first_fields n groups) (omega (arith, length-concat_push closed pushed))
    ∙ sym (first_fields-cons (max_fields - length (concat closed)) pushed groups (omega arith) (omega arith)))
