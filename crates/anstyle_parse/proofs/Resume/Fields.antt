-- Fields in decimal, with the separators that store them, are stored again.
use Rattle.std.proofs.Common.{◌≡◌, ℕ, ◌+◌, ◌*◌, ◌/◌, ◌%◌, ◌^◌, ◌<◌, ◌≤◌, Bool, true, List, [], ◌∷◌, ◌++◌, length, map, eqb, refl, sym, ap, ◌∙◌, subst, cond, append_assoc, append-nil, length-append, lt_of_le_of_lt, lit<, arith}
use Rattle.std.specs.Prelude.{◌==◌, IsTrue}
use Rattle.std.specs.List.{AllByRecursion, concat, flat_map, join_with_byte}
use Rattle.std.specs.Fmt.{decimal}
use Rattle.std.proofs.lemmas.Bool.{cond-true, cond-false, ne_eqb, and_from, le-leb}
use Rattle.std.proofs.lemmas.List.{map_push}
use Rattle.std.proofs.lemmas.List.Folds.{flat_map-map}
use Rattle.std.proofs.lemmas.Fmt.{decimal_by_steps, length-decimal-le}
use Rattle.anstyle_parse.specs.Stream.Bytes.{is_within, is_parameter, colon, semicolon}
use Rattle.anstyle_parse.specs.Stream.Arguments.{max_fields, max_field}
use Rattle.anstyle_parse.specs.Stream.Items.{EachIs}
use Rattle.anstyle_parse.specs.Stream.Groups.{fields_text, groups_text, shown_groups}
use Rattle.anstyle_parse.specs.Laws.Lawful.{IsGroup}
use Rattle.anstyle_parse.specs.Machine.Step.{Machine, new_machine, field_count, after_param, after_collect}
use Rattle.anstyle_parse.specs.Laws.Checkpoint.{last_separator, fields_so_far}
use Rattle.anstyle_parse.proofs.Lists.Splits.{length-concat_push}
use Rattle.anstyle_parse.proofs.Bytes.Passing.{EachIs-append}
use Rattle.anstyle_parse.proofs.Arguments.Decimals.{semicolon_is}
use Rattle.anstyle_parse.proofs.Bytes.Headers.{next_number}
use Rattle.anstyle_parse.proofs.Arguments.HeaderFold.{header_after, header_after-append}
use Rattle.anstyle_parse.proofs.Resume.Held.{AreFields, HoldsFields}

-- a new machine with these registers of a header
abbrev pub filled : List ℕ → Bool → List (List ℕ) → List ℕ → ℕ → Machine (List ℕ)
filled collected ignoring groups group number =
    record (new_machine []) { collected = collected; ignoring = ignoring; closed_groups = groups; open_group = group; number = number }

-- parameter bytes that lead from one machine to another
pub record Writes (text : List ℕ) (m next : Machine (List ℕ)) : Type 0 where
  pub each : EachIs is_parameter text
  pub after : header_after text m ≡ next

-- some parameter bytes after others
pub Writes-append : (first second : List ℕ) (m n next : Machine (List ℕ)) → Writes first m n → Writes second n next → Writes (first ++ second) m next
Writes-append first second m n next a b = record {
  each = EachIs-append is_parameter first second a.each b.each;
  after = header_after-append first second m ∙ (ap (header_after second) a.after ∙ b.after);
}

-- one parameter byte
pub Writes-one : (b : ℕ) (m next : Machine (List ℕ)) → IsTrue (is_parameter b) → after_param b m ≡ next → Writes (b ∷ []) m next
Writes-one b m next is e = record { each = (is, tt); after = cond-true (is_parameter b) (after_param b m) (after_collect b m) is ∙ e }

-- a digit is a parameter byte
digit_is : (d : ℕ) → d ≤ 9 → is_parameter (48 + d) ≡ true
unfolding is_parameter is_within
digit_is d small = and_from _ _ (le-leb 0x30 (48 + d) (omega arith)) (le-leb (48 + d) 0x3B (omega arith))

-- 3A is a parameter byte
colon_is : is_parameter colon ≡ true
unfolding is_parameter is_within
colon_is = refl

-- a field is within what `decimal` writes
below : (n : ℕ) → n ≤ max_field → n < 2 ^ 64
below n small = lt_of_le_of_lt small (lit< tt)

-- and has at most five digits
pub length-field : (n : ℕ) → n ≤ max_field → length (decimal n) ≤ 5
length-field n small = length-decimal-le 5 n (omega arith) (omega arith) (below n small)

-- From here on not all fields are stored.
module _ (collected : List ℕ) (ignoring : Bool) (groups : List (List ℕ)) (group : List ℕ) (room : length (concat groups) + length group ≡ max_fields → ⊥) where
  -- a number is begun
  abbrev at_number : ℕ → Machine (List ℕ)
  at_number number = filled collected ignoring groups group number

  -- there is room for a field
  with_parameter-room : (b number : ℕ) → after_param b (at_number number)
      ≡ cond (b == semicolon) (filled collected ignoring (groups ++ (group ++ number ∷ []) ∷ []) [] 0)
      (cond (b == colon) (filled collected ignoring groups (group ++ number ∷ []) 0) (at_number (next_number number b)))
  with_parameter-room b number = cond-false (eqb (length (concat groups) + length group) max_fields) _ _ (ne_eqb (length (concat groups) + length group) max_fields room)

  -- one more digit
  Writes-digit : (d number next : ℕ) → d ≤ 9 → next_number number (48 + d) ≡ next → Writes ((48 + d) ∷ []) (at_number number) (at_number next)
  Writes-digit d number next small e =
      Writes-one (48 + d) (at_number number) (at_number next) (digit_is d small)
      (with_parameter-room (48 + d) number
      ∙ (cond-false (eqb (48 + d) semicolon) _ _ (ne_eqb (48 + d) semicolon (λ same. omega arith))
      ∙ (cond-false (eqb (48 + d) colon) _ _ (ne_eqb (48 + d) colon (λ same. omega arith)) ∙ ap at_number e)))

  -- the number in decimal
  pub Writes-decimal : (n : ℕ) → n ≤ max_field → Writes (decimal n) (at_number 0) (at_number n)
  Writes-decimal n small =
      decimal_by_steps (λ k digits. k ≤ max_field → Writes digits (at_number 0) (at_number k))
      (λ k one fits. Writes-digit k 0 k (omega arith) (omega arith))
      (λ k digits more before fits.
      Writes-append digits ((48 + k % 10) ∷ []) (at_number 0) (at_number (k / 10)) (at_number k) (before (omega arith))
      (Writes-digit (k % 10) (k / 10) k (omega arith) (omega arith)))
      n (below n small) small

  -- 3A after it, which stores it in the open group
  Writes-colon : (n : ℕ) → Writes (colon ∷ []) (at_number n) (filled collected ignoring groups (group ++ n ∷ []) 0)
  Writes-colon n = Writes-one colon (at_number n) (filled collected ignoring groups (group ++ n ∷ []) 0) colon_is (with_parameter-room colon n)

  -- and 3B, which closes the group
  Writes-semicolon : (n : ℕ) → Writes (semicolon ∷ []) (at_number n) (filled collected ignoring (groups ++ (group ++ n ∷ []) ∷ []) [] 0)
  Writes-semicolon n = Writes-one semicolon (at_number n) (filled collected ignoring (groups ++ (group ++ n ∷ []) ∷ []) [] 0) semicolon_is (with_parameter-room semicolon n)

-- Parameter bytes that store fields, and of which there are at most six for each field.
pub record Stores (text : List ℕ) (m next : Machine (List ℕ)) : Type 0 where
  pub writes : Writes text m next
  pub size : length text + 6 * field_count m ≤ 6 * field_count next

-- no byte, where both machines are the same
Stores-none : (m next : Machine (List ℕ)) → m ≡ next → Stores [] m next
Stores-none m next e = record { writes = record { each = tt; after = e }; size = omega (arith, ap (λ (r : Machine (List ℕ)). field_count r) e) }

-- some fields after others
pub Stores-append : (first second : List ℕ) (m n next : Machine (List ℕ)) → Stores first m n → Stores second n next → Stores (first ++ second) m next
Stores-append first second m n next a b = record {
  writes = Writes-append first second m n next a.writes b.writes;
  size = omega (arith, a.size, b.size, length-append first second);
}

-- a closed group, with what stored its last field
abbrev pub group_so_far : List ℕ → List ℕ
group_so_far group = fields_text group ++ semicolon ∷ []

-- a field of the open group, with what stored it
abbrev pub field_so_far : ℕ → List ℕ
field_so_far field = decimal field ++ colon ∷ []

-- From here on the flag and the collected bytes stay as they are.
module _ (collected : List ℕ) (ignoring : Bool) where
  -- the fields that are stored so far
  abbrev holding : List (List ℕ) → List ℕ → Machine (List ℕ)
  holding groups group = filled collected ignoring groups group 0

  -- a field and what stores it
  Stores-field : (groups : List (List ℕ)) (group : List ℕ) (n : ℕ) → length (concat groups) + length group < max_fields → n ≤ max_field
      → Stores (field_so_far n) (holding groups group) (holding groups (group ++ n ∷ []))
  Stores-field groups group n few small =
      let room : length (concat groups) + length group ≡ max_fields → ⊥ = λ e. omega arith in record {
        writes = Writes-append (decimal n) (colon ∷ []) (holding groups group) (filled collected ignoring groups group n) (holding groups (group ++ n ∷ []))
            (Writes-decimal collected ignoring groups group room n small) (Writes-colon collected ignoring groups group room n);
        size = omega (arith, length-append (decimal n) (colon ∷ []), length-field n small, length-append group (n ∷ []));
      }

  -- the last field of a group that is closed
  Stores-last : (groups : List (List ℕ)) (group : List ℕ) (n : ℕ) → length (concat groups) + length group < max_fields → n ≤ max_field
      → Stores (decimal n ++ semicolon ∷ []) (holding groups group) (holding (groups ++ (group ++ n ∷ []) ∷ []) [])
  Stores-last groups group n few small =
      let room : length (concat groups) + length group ≡ max_fields → ⊥ = λ e. omega arith in record {
        writes = Writes-append (decimal n) (semicolon ∷ []) (holding groups group) (filled collected ignoring groups group n) (holding (groups ++ (group ++ n ∷ []) ∷ []) [])
            (Writes-decimal collected ignoring groups group room n small) (Writes-semicolon collected ignoring groups group room n);
        size = omega (arith, length-append (decimal n) (semicolon ∷ []), length-field n small, length-concat_push groups (group ++ n ∷ []), length-append group (n ∷ []));
      }

  -- the fields of a group that is closed after them
  Stores-rest : (groups : List (List ℕ)) (group : List ℕ) (n : ℕ) (rest : List ℕ) → length (concat groups) + length group + length (n ∷ rest) ≤ max_fields → AreFields (n ∷ rest)
      → Stores (group_so_far (n ∷ rest)) (holding groups group) (holding (groups ++ (group ++ n ∷ rest) ∷ []) [])
  Stores-rest groups group n [] few small = Stores-last groups group n (omega arith) small.0
  Stores-rest groups group n (k ∷ rest) few small =
      let text : (decimal n ++ colon ∷ []) ++ group_so_far (k ∷ rest) ≡ group_so_far (n ∷ k ∷ rest) =
      append_assoc (decimal n) (colon ∷ []) (group_so_far (k ∷ rest)) ∙ sym (append_assoc (decimal n) (colon ∷ join_with_byte colon (map decimal (k ∷ rest))) (semicolon ∷ [])) in
      subst (λ bytes. Stores bytes (holding groups group) (holding (groups ++ (group ++ n ∷ k ∷ rest) ∷ []) [])) text
      (subst (λ list. Stores ((decimal n ++ colon ∷ []) ++ group_so_far (k ∷ rest)) (holding groups group) (holding (groups ++ list ∷ []) [])) (append_assoc group (n ∷ []) (k ∷ rest))
      (Stores-append (decimal n ++ colon ∷ []) (group_so_far (k ∷ rest)) (holding groups group) (holding groups (group ++ n ∷ [])) (holding (groups ++ ((group ++ n ∷ []) ++ k ∷ rest) ∷ []) [])
      (Stores-field groups group n (omega arith) small.0)
      (Stores-rest groups (group ++ n ∷ []) k rest (omega (arith, length-append group (n ∷ []))) small.1)))

  -- a closed group
  Stores-group : (groups : List (List ℕ)) (group : List ℕ) → length (concat groups) + length group ≤ max_fields → IsGroup group
      → Stores (group_so_far group) (holding groups []) (holding (groups ++ group ∷ []) [])
  Stores-group groups [] few is = absurd (omega (arith, is.0))
  Stores-group groups (n ∷ rest) few is = Stores-rest groups [] n rest (omega arith) is.1

  -- closed groups
  Stores-groups : (groups more : List (List ℕ)) → length (concat groups) + length (concat more) ≤ max_fields → AllByRecursion IsGroup more
      → Stores (flat_map group_so_far more) (holding groups []) (holding (groups ++ more) [])
  Stores-groups groups [] few each = Stores-none (holding groups []) (holding (groups ++ []) []) (ap (λ list. holding list []) (sym (append-nil groups)))
  Stores-groups groups (group ∷ more) few each =
      subst (λ list. Stores (flat_map group_so_far (group ∷ more)) (holding groups []) (holding list [])) (append_assoc groups (group ∷ []) more)
      (Stores-append (group_so_far group) (flat_map group_so_far more) (holding groups []) (holding (groups ++ group ∷ []) []) (holding ((groups ++ group ∷ []) ++ more) [])
      (Stores-group groups group (omega (arith, length-append group (concat more))) each.0)
      (Stores-groups (groups ++ group ∷ []) more (omega (arith, length-append group (concat more), length-concat_push groups group)) each.1))

  -- the fields of the open group
  Stores-open : (groups : List (List ℕ)) (group more : List ℕ) → length (concat groups) + length group + length more ≤ max_fields → AreFields more
      → Stores (flat_map field_so_far more) (holding groups group) (holding groups (group ++ more))
  Stores-open groups group [] few small = Stores-none (holding groups group) (holding groups (group ++ [])) (ap (holding groups) (sym (append-nil group)))
  Stores-open groups group (n ∷ more) few small =
      subst (λ list. Stores (flat_map field_so_far (n ∷ more)) (holding groups group) (holding groups list)) (append_assoc group (n ∷ []) more)
      (Stores-append (field_so_far n) (flat_map field_so_far more) (holding groups group) (holding groups (group ++ n ∷ [])) (holding groups ((group ++ n ∷ []) ++ more))
      (Stores-field groups group n (omega arith) small.0)
      (Stores-open groups (group ++ n ∷ []) more (omega (arith, length-append group (n ∷ []))) small.1))

  -- all of them
  Stores-fields : (groups : List (List ℕ)) (group : List ℕ) → length (concat groups) + length group ≤ max_fields → AllByRecursion IsGroup groups → AreFields group
      → Stores (flat_map group_so_far groups ++ flat_map field_so_far group) (holding [] []) (holding groups group)
  Stores-fields groups group few closed opened =
      Stores-append (flat_map group_so_far groups) (flat_map field_so_far group) (holding [] []) (holding groups []) (holding groups group)
      (Stores-groups [] groups (omega arith) closed) (Stores-open groups [] group (omega arith) opened)

-- lists that are joined, and the byte after the last
join_with_byte-each : (c : ℕ) (x : List ℕ) (xs : List (List ℕ)) → join_with_byte c (x ∷ xs) ++ c ∷ [] ≡ flat_map (λ list. list ++ c ∷ []) (x ∷ xs)
join_with_byte-each c x [] = sym (append-nil (x ++ c ∷ []))
join_with_byte-each c x (y ∷ xs) =
    append_assoc x (c ∷ join_with_byte c (y ∷ xs)) (c ∷ [])
    ∙ (ap (λ list. x ++ c ∷ list) (join_with_byte-each c y xs) ∙ sym (append_assoc x (c ∷ []) (flat_map (λ list. list ++ c ∷ []) (y ∷ xs))))

-- the lists before the last, each with the byte after it
join_with_byte-last : (c : ℕ) (xs : List (List ℕ)) (y : List ℕ) → join_with_byte c (xs ++ y ∷ []) ≡ flat_map (λ list. list ++ c ∷ []) xs ++ y
join_with_byte-last c [] y = refl
join_with_byte-last c (x ∷ []) y = sym (ap (λ list. list ++ y) (append-nil (x ++ c ∷ [])) ∙ append_assoc x (c ∷ []) y)
join_with_byte-last c (x ∷ z ∷ xs) y =
    ap (λ list. x ++ c ∷ list) (join_with_byte-last c (z ∷ xs) y)
    ∙ sym (append_assoc (x ++ c ∷ []) (flat_map (λ list. list ++ c ∷ []) (z ∷ xs)) y ∙ append_assoc x (c ∷ []) (flat_map (λ list. list ++ c ∷ []) (z ∷ xs) ++ y))

-- the stored fields as the closed groups, one after another, and then the fields of the open one
fields-each : (groups : List (List ℕ)) (group : List ℕ)
    → groups_text (shown_groups groups group) ++ last_separator groups group ≡ flat_map group_so_far groups ++ flat_map field_so_far group
fields-each [] [] = refl
fields-each (first ∷ groups) [] =
    join_with_byte-each semicolon (fields_text first) (map fields_text groups)
    ∙ (flat_map-map (λ list. list ++ semicolon ∷ []) fields_text (first ∷ groups) ∙ sym (append-nil (flat_map group_so_far (first ∷ groups))))
fields-each groups (field ∷ group) =
    let closed : List ℕ = flat_map (λ list. list ++ semicolon ∷ []) (map fields_text groups) in
    let opened : List ℕ = fields_text (field ∷ group) in
    ap (λ texts. join_with_byte semicolon texts ++ colon ∷ []) (map_push fields_text groups (field ∷ group))
    ∙ (ap (λ list. list ++ colon ∷ []) (join_with_byte-last semicolon (map fields_text groups) opened)
    ∙ (append_assoc closed opened (colon ∷ [])
    ∙ (ap (λ list. list ++ (opened ++ colon ∷ [])) (flat_map-map (λ list. list ++ semicolon ∷ []) fields_text groups)
    ∙ ap (λ list. flat_map group_so_far groups ++ list)
    (join_with_byte-each colon (decimal field) (map decimal group) ∙ flat_map-map (λ list. list ++ colon ∷ []) decimal (field ∷ group)))))

-- The stored fields are stored again.
pub Stores-fields_so_far : (collected : List ℕ) (ignoring : Bool) (m : Machine (List ℕ)) → HoldsFields m.closed_groups m.open_group m.number
    → Stores (fields_so_far m) (filled collected ignoring [] [] 0) (filled collected ignoring m.closed_groups m.open_group 0)
Stores-fields_so_far collected ignoring m h =
    subst (λ text. Stores text (filled collected ignoring [] [] 0) (filled collected ignoring m.closed_groups m.open_group 0)) (sym (fields-each m.closed_groups m.open_group))
    (Stores-fields collected ignoring m.closed_groups m.open_group h.few h.closed h.opened)
