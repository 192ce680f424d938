-- What a header shows: groups, intermediates and a flag that a parser's call can have.
use Rattle.std.proofs.Common.{◌≡◌, ℕ, zero, suc, ◌-◌, ◌<◌, ◌≤◌, ◌⊎◌, inl, inr, ⊎_elim, Bool, true, false, not, cond, List, [], ◌∷◌, ◌++◌, length, take, map, refl, sym, ap, ◌∙◌, subst, eqb, ltb, ltb-true, arith, length-take}
use Rattle.std.specs.List.{AllByRecursion, filter, list_all, concat, slice_split}
use Rattle.std.proofs.lemmas.Bool.{and_parts, or_cases, cond_both, cond-true}
use Rattle.anstyle_parse.specs.Stream.Bytes.{is_intermediate, is_parameter, is_marker, is_final, colon, semicolon}
use Rattle.anstyle_parse.specs.Stream.Arguments.{after_marker, after_parameters, has_shape, field, max_field, grouped_fields, first_fields, groups_of, collected_of, ignore_of, max_fields, max_collected}
use Rattle.anstyle_parse.specs.Stream.Items.{EachIs}
use Rattle.anstyle_parse.specs.Laws.Lawful.{IsGroup, IsHeaderCall}
use Rattle.anstyle_parse.proofs.Bytes.Passing.{EachIs-weaker}
use Rattle.anstyle_parse.proofs.Lists.Passing.{EachIs-filter, filter_none}
use Rattle.anstyle_parse.proofs.Canonical.Headers.{parameter-not_marker, intermediate-not_marker, after_marker-unmarked}
use Rattle.anstyle_parse.proofs.Arguments.Decimals.{read_group}
use Rattle.anstyle_parse.proofs.Lists.Parts.{AllByRecursion-take, take-append, length-take_le, slice_split-some}

-- fields are capped, and as many as their texts
capped : (texts : List (List ℕ)) → AllByRecursion (λ n. n ≤ max_field) (map field texts)
capped [] = tt
capped (digits ∷ texts) = (omega arith, capped texts)

length-map-field : (texts : List (List ℕ)) → length (map field texts) ≡ length texts
length-map-field [] = refl
length-map-field (digits ∷ texts) = ap suc (length-map-field texts)

IsGroup-read_group : (text : List ℕ) → IsGroup (read_group text)
IsGroup-read_group text =
    (omega (arith, length-map-field (slice_split (λ b. eqb b colon) text), slice_split-some (λ b. eqb b colon) text), capped (slice_split (λ b. eqb b colon) text))

all-groups : (texts : List (List ℕ)) → AllByRecursion IsGroup (map read_group texts)
all-groups [] = tt
all-groups (text ∷ texts) = (IsGroup-read_group text, all-groups texts)

length-read : (texts : List (List ℕ)) → length (map read_group texts) ≡ length texts
length-read [] = refl
length-read (text ∷ texts) = ap suc (length-read texts)

IsGroup-take : (n : ℕ) (group : List ℕ) → IsGroup group → IsGroup (take (suc n) group)
IsGroup-take n group h = (omega (arith, h.0, length-take (suc n) group), AllByRecursion-take (λ m. m ≤ max_field) (suc n) group h.1)

-- the first fields of groups are in groups
groups-first_fields : (n : ℕ) (groups : List (List ℕ)) → AllByRecursion IsGroup groups → AllByRecursion IsGroup (first_fields n groups)
groups-first_fields n [] h = tt
groups-first_fields zero (group ∷ groups) h = tt
groups-first_fields (suc n) (group ∷ groups) h = (IsGroup-take n group h.0, groups-first_fields (suc n - length group) groups h.1)

-- and they are the first fields
pub concat-first_fields : (n : ℕ) (groups : List (List ℕ)) → concat (first_fields n groups) ≡ take n (concat groups)
concat-first_fields zero [] = refl
concat-first_fields (suc n) [] = refl
concat-first_fields zero (group ∷ groups) = refl
concat-first_fields (suc n) (group ∷ groups) =
    ap (λ l. take (suc n) group ++ l) (concat-first_fields (suc n - length group) groups)
    ∙ sym (take-append (suc n) (suc n - length group) group (concat groups) refl)

-- the first fields of some are some
first_fields-some : (n : ℕ) (groups : List (List ℕ)) → 0 < length groups → 0 < length (first_fields (suc n) groups)
first_fields-some n [] some = absurd (omega arith)
first_fields-some n (group ∷ groups) some = omega arith

-- the groups that a header shows
pub groups_of-groups : (header : List ℕ) → AllByRecursion IsGroup (groups_of header)
unfolding groups_of
groups_of-groups header = groups-first_fields max_fields (grouped_fields header) (all-groups (slice_split (λ b. eqb b semicolon) (filter is_parameter header)))

-- at least one
groups_of-some : (header : List ℕ) → 0 < length (groups_of header)
unfolding groups_of
groups_of-some header = first_fields-some (max_fields - 1) (grouped_fields header) (omega (arith, length-read (slice_split (λ b. eqb b semicolon) (filter is_parameter header)), slice_split-some (λ b. eqb b semicolon) (filter is_parameter header)))

-- their fields, the first 32
pub fields_of : (header : List ℕ) → concat (groups_of header) ≡ take max_fields (concat (grouped_fields header))
unfolding groups_of
fields_of header = concat-first_fields max_fields (grouped_fields header)

-- intermediates have no marker
unmarked-intermediates : (bytes : List ℕ) → EachIs is_intermediate bytes → EachIs (λ b. not (is_marker b)) bytes
unmarked-intermediates bytes h = EachIs-weaker is_intermediate (λ b. not (is_marker b)) intermediate-not_marker bytes h

-- where all pass, each does
list_all-parts : (p : ℕ → Bool) (bytes : List ℕ) → list_all p bytes ≡ true → EachIs p bytes
list_all-parts p [] e = tt
list_all-parts p (b ∷ bytes) e = let parts = and_parts (p b) (list_all p bytes) e in (parts.0, list_all-parts p bytes parts.1)

-- parameter bytes and intermediates have no marker
unmarked-step : (b : ℕ) (bytes : List ℕ) (t : Bool) → is_parameter b ≡ t → list_all is_intermediate (cond t (after_parameters bytes) (b ∷ bytes)) ≡ true
    → (list_all is_intermediate (after_parameters bytes) ≡ true → EachIs (λ x. not (is_marker x)) bytes) → EachIs (λ x. not (is_marker x)) (b ∷ bytes)
unmarked-step b bytes true p e rest = (parameter-not_marker b p, rest e)
unmarked-step b bytes false p e rest = unmarked-intermediates (b ∷ bytes) (list_all-parts is_intermediate (b ∷ bytes) e)

unmarked-rest : (bytes : List ℕ) → list_all is_intermediate (after_parameters bytes) ≡ true → EachIs (λ b. not (is_marker b)) bytes
unmarked-rest [] e = tt
unmarked-rest (b ∷ bytes) e = unmarked-step b bytes (is_parameter b) refl e (unmarked-rest bytes)

-- A header with the shape has at most one marker, and it is the first of what is collected;
-- the rest of that is intermediates.
abbrev AreCollected : List ℕ → Type 0
AreCollected bytes = (length bytes ≤ max_collected) × EachIs is_intermediate (after_marker bytes)

marked : (marker intermediates : List ℕ) → length marker ≤ 1 → EachIs is_marker marker → EachIs is_intermediate intermediates → AreCollected (take max_collected (marker ++ intermediates))
marked [] intermediates one h k =
    let front = AllByRecursion-take (λ b. is_intermediate b ≡ true) max_collected intermediates k in
    (length-take_le max_collected intermediates, subst (EachIs is_intermediate) (sym (after_marker-unmarked (take max_collected intermediates) (unmarked-intermediates (take max_collected intermediates) front))) front)
marked (b ∷ []) intermediates one h k = (
  length-take_le max_collected (b ∷ intermediates),
  subst (EachIs is_intermediate) (sym (cond-true (is_marker b) (take 1 intermediates) (b ∷ take 1 intermediates) h.0)) (AllByRecursion-take (λ x. is_intermediate x ≡ true) 1 intermediates k),
)
marked (b ∷ c ∷ marker) intermediates one h k = absurd (omega arith)

-- a header with the shape has at most one marker
few_markers-step : (b : ℕ) (bytes : List ℕ) (t : Bool) → is_marker b ≡ t → list_all is_intermediate (after_parameters (cond t bytes (b ∷ bytes))) ≡ true → length (filter is_marker (b ∷ bytes)) ≤ 1
few_markers-step b bytes true p e =
    let none = filter_none is_marker bytes (unmarked-rest bytes e) in
    cond_both (is_marker b) (b ∷ filter is_marker bytes) (filter is_marker bytes) (λ l. length l ≤ 1) (λ f. omega (arith, ap length none)) (λ f. omega (arith, ap length none))
few_markers-step b bytes false p e = omega (arith, ap length (filter_none is_marker (b ∷ bytes) (unmarked-rest (b ∷ bytes) e)))

few_markers : (header : List ℕ) → has_shape header ≡ true → length (filter is_marker header) ≤ 1
few_markers [] e = omega arith
few_markers (b ∷ bytes) e = few_markers-step b bytes (is_marker b) refl e

collected_of-collected : (header : List ℕ) → has_shape header ≡ true → AreCollected (collected_of header)
unfolding collected_of
collected_of-collected header e = marked (filter is_marker header) (filter is_intermediate header) (few_markers header e) (EachIs-filter is_marker header) (EachIs-filter is_intermediate header)

-- more is ignored only where as much is shown as can be
ignores : (header : List ℕ) → ignore_of header ≡ true → (length (concat (groups_of header)) ≡ max_fields) ⊎ (length (collected_of header) ≡ max_collected)
unfolding ignore_of collected_of
ignores header e =
    let fields = concat (grouped_fields header) in
    let all = filter is_marker header ++ filter is_intermediate header in
    ⊎_elim
    (λ h. inl (omega (arith, ltb-true max_fields (length fields) h, ap length (fields_of header), length-take max_fields fields)))
    (λ h. inr (omega (arith, ltb-true max_collected (length all) h, length-take max_collected all)))
    (or_cases (ltb max_fields (length fields)) (ltb max_collected (length all)) e)

-- what a header with the shape shows, a call can have
pub IsHeaderCall-header : (header : List ℕ) (final : ℕ) → has_shape header ≡ true → is_final final ≡ true → IsHeaderCall (groups_of header) (collected_of header) (ignore_of header) final
IsHeaderCall-header header final shaped ends = record {
  groups_fit = groups_of-groups header;
  some_field = groups_of-some header;
  fields_fit = omega (arith, ap length (fields_of header), length-take_le max_fields (concat (grouped_fields header)));
  collected_fit = (collected_of-collected header shaped).0;
  collected_are = (collected_of-collected header shaped).1;
  ignores = ignores header;
  is_finished = ends;
}
