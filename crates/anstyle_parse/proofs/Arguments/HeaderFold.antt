-- A header, byte by byte: the groups, the collected bytes and the flag that the machine keeps
-- are those of the whole header.
use Rattle.std.proofs.Common.{◌≡◌, ℕ, suc, ◌+◌, ◌<◌, ◌≤◌, Bool, true, false, ◌||◌, not, List, [], ◌∷◌, ◌++◌, length, take, filter, refl, sym, ap, ap₂, ◌∙◌, append_assoc, append-nil, length-append, zero-add, arith, if◌then◌else◌, ◌==◌, IsTrue, cond}
use Rattle.std.specs.Prelude.{nat_lt}
use Rattle.std.specs.List.{concat, list_all}
use Rattle.std.proofs.lemmas.List.{take_at, take_all}
use Rattle.std.proofs.lemmas.Bool.{eqb-true, eqb-false, lt-ltb, le-ltb, or_left, or_right, and_from}
use Rattle.anstyle_parse.specs.Stream.Bytes.{is_parameter, is_intermediate, colon, semicolon}
use Rattle.anstyle_parse.specs.Stream.Arguments.{max_fields, max_collected, has_shape, groups_of, collected_of, ignore_of, first_fields}
use Rattle.anstyle_parse.specs.Stream.Groups.{shown_groups}
use Rattle.anstyle_parse.specs.Machine.Step.{Machine, field_count, pushed, after_clear, after_collect, after_param, with_last_field}
use Rattle.anstyle_parse.specs.Stream.Items.{EachIs}
use Rattle.anstyle_parse.proofs.Lists.Splits.{length-concat_push}
use Rattle.anstyle_parse.proofs.Bytes.Headers.{next_number, collectable, collectable-shaped, is_parameter-intermediate, collectable-intermediates, parameters-intermediates}
use Rattle.anstyle_parse.proofs.Arguments.Groups.{groups_after, groups_after-semicolon, groups_after-colon, groups_after-digit, groups_after-header}
use Rattle.anstyle_parse.proofs.Arguments.Shown.{length-groups_after, shown_after, shown_after-full, shown_after-push}

-- one byte of a header after another, from the left
abbrev pub header_step : {A : Type 0} → ℕ → Machine A → Machine A
header_step b m = if is_parameter b then after_param b m else after_collect b m

-- and a list of them
abbrev pub header_after : {A : Type 0} → List ℕ → Machine A → Machine A
header_after [] m = m
header_after (b ∷ bytes) m = header_after bytes (header_step b m)

pub header_after-append : {A : Type 0} (first second : List ℕ) (m : Machine A)
    → header_after (first ++ second) m ≡ header_after second (header_after first m)
header_after-append [] second m = refl
header_after-append (b ∷ first) second m = header_after-append first second (header_step b m)

-- one step, by what its tests answer
abbrev step_by : {A : Type 0} → Bool → Bool → Bool → Bool → Bool → ℕ → Machine A → Machine A
step_by parameter full ends_group ends_field collected_full b m =
    if parameter then
    (if full then record m { ignoring = true }
    else if ends_group then record m { closed_groups = m.closed_groups ++ (m.open_group ++ m.number ∷ []) ∷ []; open_group = []; number = 0 }
    else if ends_field then record m { open_group = m.open_group ++ m.number ∷ []; number = 0 }
    else record m { number = next_number m.number b })
    else (if collected_full then record m { ignoring = true } else record m { collected = m.collected ++ b ∷ [] })

-- a step changes only what a header says
step_by-cleared : {A : Type 0} (parameter full ends_group ends_field collected_full : Bool) (b : ℕ) (m : Machine A)
    → after_clear (step_by parameter full ends_group ends_field collected_full b m) ≡ after_clear m
step_by-cleared true true ends_group ends_field collected_full b m = refl
step_by-cleared true false true ends_field collected_full b m = refl
step_by-cleared true false false true collected_full b m = refl
step_by-cleared true false false false collected_full b m = refl
step_by-cleared false full ends_group ends_field true b m = refl
step_by-cleared false full ends_group ends_field false b m = refl

-- all but what a header says stays
pub header_after-cleared : {A : Type 0} (bytes : List ℕ) (m : Machine A) → after_clear (header_after bytes m) ≡ after_clear m
header_after-cleared [] m = refl
header_after-cleared (b ∷ bytes) m =
    header_after-cleared bytes (header_step b m)
    ∙ step_by-cleared (is_parameter b) (field_count m == max_fields) (b == semicolon) (b == colon) (length m.collected == max_collected) b m

pub header_after-state : {A : Type 0} (bytes : List ℕ) (m : Machine A) → (header_after bytes m).state ≡ m.state
header_after-state {A} bytes m = ap (λ (kept : Machine A). kept.state) (header_after-cleared bytes m)

pub header_after-closed_parts : {A : Type 0} (bytes : List ℕ) (m : Machine A) → (header_after bytes m).closed_parts ≡ m.closed_parts
header_after-closed_parts {A} bytes m = ap (λ (kept : Machine A). kept.closed_parts) (header_after-cleared bytes m)

pub header_after-open_part : {A : Type 0} (bytes : List ℕ) (m : Machine A) → (header_after bytes m).open_part ≡ m.open_part
header_after-open_part {A} bytes m = ap (λ (kept : Machine A). kept.open_part) (header_after-cleared bytes m)

pub header_after-accumulator : {A : Type 0} (bytes : List ℕ) (m : Machine A) → (header_after bytes m).accumulator ≡ m.accumulator
header_after-accumulator {A} bytes m = ap (λ (kept : Machine A). kept.accumulator) (header_after-cleared bytes m)

-- the collected bytes, from a machine that has collected at most two
abbrev Collects : Type 0 → List ℕ → Type 0
Collects A bytes = (m : Machine A) → length m.collected ≤ max_collected → (header_after bytes m).collected ≡ take max_collected (m.collected ++ collectable bytes)

-- one byte before bytes of which it holds
collects_step : {A : Type 0} (b : ℕ) (bytes : List ℕ) (m : Machine A) (parameter full ends_group ends_field collected_full : Bool)
    → (length m.collected == max_collected) ≡ collected_full → length m.collected ≤ max_collected → Collects A bytes
    → (header_after bytes (step_by parameter full ends_group ends_field collected_full b m)).collected
    ≡ take max_collected (m.collected ++ (if not parameter then b ∷ collectable bytes else collectable bytes))
collects_step b bytes m true true ends_group ends_field collected_full e l rest = rest _ l
collects_step b bytes m true false true ends_field collected_full e l rest = rest _ l
collects_step b bytes m true false false true collected_full e l rest = rest _ l
collects_step b bytes m true false false false collected_full e l rest = rest _ l
collects_step b bytes m false full ends_group ends_field true e l rest =
    let count : length m.collected ≡ max_collected = eqb-true (length m.collected) max_collected e in
    rest _ l ∙ (take_at m.collected (collectable bytes) max_collected count ∙ sym (take_at m.collected (b ∷ collectable bytes) max_collected count))
collects_step b bytes m false full ends_group ends_field false e l rest =
    rest _ (omega (arith, eqb-false (length m.collected) max_collected e, length-append m.collected (b ∷ [])))
    ∙ ap (take max_collected) (append_assoc m.collected (b ∷ []) (collectable bytes))

collects_each : (A : Type 0) (bytes : List ℕ) → Collects A bytes
collects_each A [] m l = sym (ap (take max_collected) (append-nil m.collected) ∙ take_all max_collected m.collected l)
collects_each A (b ∷ bytes) m l =
    collects_step b bytes m (is_parameter b) (field_count m == max_fields) (b == semicolon) (b == colon) (length m.collected == max_collected) refl l (collects_each A bytes)

-- the groups shown at a dispatch, from a machine with at most 32 fields
abbrev shown_at_end : {A : Type 0} → Machine A → List (List ℕ)
shown_at_end m = shown_groups (with_last_field m).closed_groups (with_last_field m).open_group

abbrev ShowsGroups : Type 0 → List ℕ → Type 0
ShowsGroups A bytes = (m : Machine A) → field_count m ≤ max_fields
    → shown_at_end (header_after bytes m) ≡ shown_after m.closed_groups (groups_after m.open_group m.number (filter is_parameter bytes))

-- one byte before bytes of which it holds
shows_step : {A : Type 0} (b : ℕ) (bytes : List ℕ) (m : Machine A) (parameter full ends_group ends_field collected_full : Bool)
    → (field_count m == max_fields) ≡ full → (b == semicolon) ≡ ends_group → (b == colon) ≡ ends_field → field_count m ≤ max_fields → ShowsGroups A bytes
    → shown_at_end (header_after bytes (step_by parameter full ends_group ends_field collected_full b m))
    ≡ shown_after m.closed_groups (groups_after m.open_group m.number (if parameter then b ∷ filter is_parameter bytes else filter is_parameter bytes))
shows_step b bytes m true true ends_group ends_field collected_full e1 e2 e3 l rest =
    let count : field_count m ≡ max_fields = eqb-true (field_count m) max_fields e1 in
    rest _ l
    ∙ (sym (shown_after-full m.closed_groups m.open_group m.number (filter is_parameter bytes) count)
    ∙ shown_after-full m.closed_groups m.open_group m.number (b ∷ filter is_parameter bytes) count)
shows_step b bytes m true false true ends_field collected_full e1 e2 e3 l rest =
    let room : field_count m < max_fields = omega (arith, eqb-false (field_count m) max_fields e1) in
    rest _ (omega (arith, length-concat_push m.closed_groups (m.open_group ++ m.number ∷ []), length-append m.open_group (m.number ∷ [])))
    ∙ (shown_after-push m.closed_groups m.open_group m.number (groups_after [] 0 (filter is_parameter bytes)) room
    ∙ ap (shown_after m.closed_groups) (sym (groups_after-semicolon m.open_group m.number b (filter is_parameter bytes) e2)))
shows_step b bytes m true false false true collected_full e1 e2 e3 l rest =
    rest _ (omega (arith, eqb-false (field_count m) max_fields e1, length-append m.open_group (m.number ∷ [])))
    ∙ ap (shown_after m.closed_groups) (sym (groups_after-colon m.open_group m.number b (filter is_parameter bytes) e2 e3))
shows_step b bytes m true false false false collected_full e1 e2 e3 l rest =
    rest _ l ∙ ap (shown_after m.closed_groups) (sym (groups_after-digit m.open_group m.number b (filter is_parameter bytes) e2 e3))
shows_step b bytes m false full ends_group ends_field true e1 e2 e3 l rest = rest _ l
shows_step b bytes m false full ends_group ends_field false e1 e2 e3 l rest = rest _ l

-- the last field, by whether all are stored
abbrev last_by : {A : Type 0} → Bool → Machine A → Machine A
last_by full m =
    if full then record m { ignoring = true }
    else record m { closed_groups = m.closed_groups ++ (m.open_group ++ m.number ∷ []) ∷ []; open_group = [] }

shows_last : {A : Type 0} (m : Machine A) (full : Bool) → (field_count m == max_fields) ≡ full → field_count m ≤ max_fields
    → shown_groups (last_by full m).closed_groups (last_by full m).open_group ≡ shown_after m.closed_groups ((m.open_group ++ m.number ∷ []) ∷ [])
shows_last m true e l = shown_after-full m.closed_groups m.open_group m.number [] (eqb-true (field_count m) max_fields e)
shows_last m false e l =
    sym (append-nil (m.closed_groups ++ (m.open_group ++ m.number ∷ []) ∷ []))
    ∙ shown_after-push m.closed_groups m.open_group m.number [] (omega (arith, eqb-false (field_count m) max_fields e))

shows_each : (A : Type 0) (bytes : List ℕ) → ShowsGroups A bytes
shows_each A [] m l = shows_last m (field_count m == max_fields) refl l
shows_each A (b ∷ bytes) m l =
    shows_step b bytes m (is_parameter b) (field_count m == max_fields) (b == semicolon) (b == colon) (length m.collected == max_collected) refl refl refl l (shows_each A bytes)

-- whether more fields, or more collected bytes, have come than are stored
abbrev overflow : ℕ → ℕ → Bool
overflow fields bytes = nat_lt max_fields fields || nat_lt max_collected bytes

-- the same, from a machine on
abbrev overflow_from : {A : Type 0} → Machine A → List ℕ → List ℕ → Bool
overflow_from m parameters others = overflow (length (concat m.closed_groups) + length (concat (groups_after m.open_group m.number parameters))) (length m.collected + length others)

-- what sets the flag, and what leaves it as it is
overflow-fields : (flag : Bool) (fields bytes : ℕ) → max_fields < fields → (flag || overflow fields bytes) ≡ true
overflow-fields flag fields bytes more = or_right flag (overflow fields bytes) (or_left (nat_lt max_fields fields) (nat_lt max_collected bytes) (lt-ltb max_fields fields more))

overflow-bytes : (flag : Bool) (fields bytes : ℕ) → max_collected < bytes → (flag || overflow fields bytes) ≡ true
overflow-bytes flag fields bytes more = or_right flag (overflow fields bytes) (or_right (nat_lt max_fields fields) (nat_lt max_collected bytes) (lt-ltb max_collected bytes more))

overflow-none : (flag : Bool) (fields bytes : ℕ) → fields ≤ max_fields → bytes ≤ max_collected → (flag || overflow fields bytes) ≡ flag
overflow-none flag fields bytes fields_fit bytes_fit = ap₂ (λ x y. flag || (x || y)) (le-ltb max_fields fields fields_fit) (le-ltb max_collected bytes bytes_fit) ∙ or_false flag
  where
    or_false : (b : Bool) → (b || (false || false)) ≡ b
    or_false true = refl
    or_false false = refl

-- the flag at a dispatch, from a machine within both limits
abbrev Ignores : Type 0 → List ℕ → Type 0
Ignores A bytes = (m : Machine A) → field_count m ≤ max_fields → length m.collected ≤ max_collected
    → (with_last_field (header_after bytes m)).ignoring ≡ (m.ignoring || overflow_from m (filter is_parameter bytes) (collectable bytes))

-- one byte before bytes of which it holds
ignores_step : {A : Type 0} (b : ℕ) (bytes : List ℕ) (m : Machine A) (parameter full ends_group ends_field collected_full : Bool)
    → (field_count m == max_fields) ≡ full → (b == semicolon) ≡ ends_group → (b == colon) ≡ ends_field → (length m.collected == max_collected) ≡ collected_full
    → field_count m ≤ max_fields → length m.collected ≤ max_collected → Ignores A bytes
    → (with_last_field (header_after bytes (step_by parameter full ends_group ends_field collected_full b m))).ignoring
    ≡ (m.ignoring || overflow_from m (if parameter then b ∷ filter is_parameter bytes else filter is_parameter bytes) (if not parameter then b ∷ collectable bytes else collectable bytes))
ignores_step b bytes m true true ends_group ends_field collected_full e1 e2 e3 e4 l1 l2 rest =
    rest _ l1 l2
    ∙ sym (overflow-fields m.ignoring
    (length (concat m.closed_groups) + length (concat (groups_after m.open_group m.number (b ∷ filter is_parameter bytes))))
    (length m.collected + length (collectable bytes))
    (omega (arith, eqb-true (field_count m) max_fields e1, length-groups_after m.open_group m.number (b ∷ filter is_parameter bytes))))
ignores_step b bytes m true false true ends_field collected_full e1 e2 e3 e4 l1 l2 rest =
    let pushed : List ℕ = m.open_group ++ m.number ∷ [] in
    let groups : List (List ℕ) = groups_after [] 0 (filter is_parameter bytes) in
    rest _ (omega (arith, eqb-false (field_count m) max_fields e1, length-concat_push m.closed_groups pushed, length-append m.open_group (m.number ∷ []))) l2
    ∙ ap (λ n. m.ignoring || overflow n (length m.collected + length (collectable bytes)))
    (omega (arith, length-concat_push m.closed_groups pushed, length-append pushed (concat groups), ap (λ list. length (concat list)) (groups_after-semicolon m.open_group m.number b (filter is_parameter bytes) e2)))
ignores_step b bytes m true false false true collected_full e1 e2 e3 e4 l1 l2 rest =
    rest _ (omega (arith, eqb-false (field_count m) max_fields e1, length-append m.open_group (m.number ∷ []))) l2
    ∙ ap (λ groups. m.ignoring || overflow (length (concat m.closed_groups) + length (concat groups)) (length m.collected + length (collectable bytes)))
    (sym (groups_after-colon m.open_group m.number b (filter is_parameter bytes) e2 e3))
ignores_step b bytes m true false false false collected_full e1 e2 e3 e4 l1 l2 rest =
    rest _ l1 l2
    ∙ ap (λ groups. m.ignoring || overflow (length (concat m.closed_groups) + length (concat groups)) (length m.collected + length (collectable bytes)))
    (sym (groups_after-digit m.open_group m.number b (filter is_parameter bytes) e2 e3))
ignores_step b bytes m false full ends_group ends_field true e1 e2 e3 e4 l1 l2 rest =
    rest _ l1 l2
    ∙ sym (overflow-bytes m.ignoring
    (length (concat m.closed_groups) + length (concat (groups_after m.open_group m.number (filter is_parameter bytes))))
    (length m.collected + suc (length (collectable bytes)))
    (omega (arith, eqb-true (length m.collected) max_collected e4)))
ignores_step b bytes m false full ends_group ends_field false e1 e2 e3 e4 l1 l2 rest =
    let more : length (m.collected ++ b ∷ []) ≡ length m.collected + 1 = length-append m.collected (b ∷ []) in
    rest _ l1 (omega (arith, eqb-false (length m.collected) max_collected e4))
    ∙ ap (λ n. m.ignoring || overflow (length (concat m.closed_groups) + length (concat (groups_after m.open_group m.number (filter is_parameter bytes)))) n) (omega arith)

-- at the end of the bytes
ignores_last : {A : Type 0} (m : Machine A) (full : Bool) → (field_count m == max_fields) ≡ full → field_count m ≤ max_fields → length m.collected ≤ max_collected
    → (last_by full m).ignoring ≡ (m.ignoring || overflow_from m [] [])
ignores_last m true e l1 l2 =
    sym (overflow-fields m.ignoring
    (length (concat m.closed_groups) + length (concat (groups_after m.open_group m.number [])))
    (length m.collected + 0)
    (omega (arith, eqb-true (field_count m) max_fields e, length-groups_after m.open_group m.number [])))
ignores_last m false e l1 l2 =
    let pushed : List ℕ = m.open_group ++ m.number ∷ [] in
    sym (overflow-none m.ignoring (length (concat m.closed_groups) + length (pushed ++ [])) (length m.collected + 0)
    (omega (arith, eqb-false (field_count m) max_fields e, length-append pushed [], length-append m.open_group (m.number ∷ [])))
    (omega arith))

ignores_each : (A : Type 0) (bytes : List ℕ) → Ignores A bytes
ignores_each A [] m l1 l2 = ignores_last m (field_count m == max_fields) refl l1 l2
ignores_each A (b ∷ bytes) m l1 l2 =
    ignores_step b bytes m (is_parameter b) (field_count m == max_fields) (b == semicolon) (b == colon) (length m.collected == max_collected) refl refl refl refl l1 l2 (ignores_each A bytes)

-- the groups that the machine shows at a dispatch are those of the header
pub header_groups : {A : Type 0} (header : List ℕ) (m : Machine A)
    → shown_groups (with_last_field (header_after header (after_clear m))).closed_groups (with_last_field (header_after header (after_clear m))).open_group ≡ groups_of header
unfolding groups_of
header_groups {A} header m = shows_each A header (after_clear m) (omega arith) ∙ ap (first_fields max_fields) (groups_after-header header)

-- the bytes that the machine has collected are those of the header
pub header_collected : {A : Type 0} (header : List ℕ) (m : Machine A)
    → IsTrue (has_shape header) → (header_after header (after_clear m)).collected ≡ collected_of header
unfolding collected_of
header_collected {A} header m shape = collects_each A header (after_clear m) (omega arith) ∙ ap (take max_collected) (collectable-shaped header shape)

-- the machine ignores what the header says is to be ignored
pub header_ignoring : {A : Type 0} (header : List ℕ) (m : Machine A)
    → IsTrue (has_shape header) → (with_last_field (header_after header (after_clear m))).ignoring ≡ ignore_of header
unfolding ignore_of
header_ignoring {A} header m shape =
    ignores_each A header (after_clear m) (omega arith) (omega arith)
    ∙ ap₂ overflow
    (zero-add _ ∙ ap (λ groups. length (concat groups)) (groups_after-header header))
    (zero-add _ ∙ ap length (collectable-shaped header shape))

-- the machine without what it has collected
abbrev pub without_collected : {A : Type 0} → Machine A → Machine A
without_collected m = record m { collected = []; ignoring = false }

-- a byte that is no parameter byte changes nothing else
collecting_step : {A : Type 0} (parameter full ends_group ends_field collected_full : Bool) (b : ℕ) (m : Machine A) → parameter ≡ false
    → without_collected (step_by parameter full ends_group ends_field collected_full b m) ≡ without_collected m
collecting_step true full ends_group ends_field collected_full b m e = cc
collecting_step false full ends_group ends_field true b m e = refl
collecting_step false full ends_group ends_field false b m e = refl

-- intermediates are only collected: no group, field or number comes of them
pub header_after-intermediates : {A : Type 0} (bytes : List ℕ) (m : Machine A)
    → EachIs is_intermediate bytes → without_collected (header_after bytes m) ≡ without_collected m
header_after-intermediates [] m each = refl
header_after-intermediates (b ∷ bytes) m each =
    header_after-intermediates bytes (header_step b m) each.1
    ∙ collecting_step (is_parameter b) (field_count m == max_fields) (b == semicolon) (b == colon) (length m.collected == max_collected) b m (is_parameter-intermediate b each.0)

-- the fact by recursion as a test
list_all-EachIs : (test : ℕ → Bool) (bytes : List ℕ) → EachIs test bytes → list_all test bytes ≡ true
list_all-EachIs test [] each = refl
list_all-EachIs test (b ∷ bytes) each = and_from (test b) (list_all test bytes) each.0 (list_all-EachIs test bytes each.1)

-- of the intermediates of an escape sequence the first two are collected
pub escape_collected : {A : Type 0} (bytes : List ℕ) (m : Machine A)
    → EachIs is_intermediate bytes → (header_after bytes (after_clear m)).collected ≡ take max_collected bytes
escape_collected {A} bytes m each =
    collects_each A bytes (after_clear m) (omega arith) ∙ ap (take max_collected) (collectable-intermediates bytes (list_all-EachIs is_intermediate bytes each))

-- and the flag says whether there are more
pub escape_ignoring : {A : Type 0} (bytes : List ℕ) (m : Machine A)
    → EachIs is_intermediate bytes → (header_after bytes (after_clear m)).ignoring ≡ nat_lt max_collected (length bytes)
escape_ignoring {A} bytes m each =
    let r : Machine A = header_after bytes (after_clear m) in
    let all : list_all is_intermediate bytes ≡ true = list_all-EachIs is_intermediate bytes each in
    let none : field_count r ≡ 0 = ap (λ (kept : Machine A). field_count kept) (header_after-intermediates bytes (after_clear m) each) in
    sym (ap (λ n. (last_by (n == max_fields) r).ignoring) none)
    ∙ (ignores_each A bytes (after_clear m) (omega arith) (omega arith)
    ∙ (ap₂ (λ parameters others. false || overflow_from (after_clear m) parameters others) (parameters-intermediates bytes all) (collectable-intermediates bytes all)
    ∙ ap (nat_lt max_collected) (zero-add (length bytes))))

-- the last field leaves what is collected
pub with_last_field-collected : {A : Type 0} (m : Machine A) → (with_last_field m).collected ≡ m.collected
with_last_field-collected m =
    elim (field_count m == max_fields) as (λ t. (cond t (record m { ignoring = true }) (pushed m)).collected ≡ m.collected) [ true ↦ refl | false ↦ refl ]
