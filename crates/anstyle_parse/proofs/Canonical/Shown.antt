-- The canonical header shows the groups, the intermediates and the flag that it was made of.
use Rattle.std.proofs.Common.{◌≡◌, ℕ, ◌<◌, ◌≤◌, ⊎_elim, Bool, true, false, not, ◌&&◌, ◌||◌, cond, List, [], ◌∷◌, ◌++◌, length, take, refl, sym, ap, ◌∙◌, ltb, ltb-true, ltb-false, lt-ltb, le-ltb, arith, append_assoc, append-nil, length-append, take_all, take_at}
use Rattle.std.specs.List.{concat, filter}
use Rattle.std.proofs.lemmas.Bool.{not-true, not-false, cond_both, or_left, or_right, or_from}
use Rattle.std.proofs.lemmas.List.Folds.{concat-append}
use Rattle.anstyle_parse.specs.Stream.Bytes.{is_intermediate, is_parameter, is_marker, semicolon}
use Rattle.anstyle_parse.specs.Stream.Arguments.{after_marker, has_shape, significant, first_fields, groups_of, collected_of, ignore_of, max_fields, max_collected}
use Rattle.anstyle_parse.specs.Stream.Items.{EachIs, is_header_byte}
use Rattle.anstyle_parse.specs.Stream.Canon.{leading_marker, shows_no_more_intermediates, header_text}
use Rattle.anstyle_parse.specs.Stream.Groups.{groups_text}
use Rattle.anstyle_parse.specs.Laws.Lawful.{IsHeaderCall}
use Rattle.anstyle_parse.proofs.Bytes.Passing.{EachIs-append}
use Rattle.anstyle_parse.proofs.Canonical.Headers.{IsInOrder, in_order, filter-markers, filter-parameters, filter-intermediates, header_bytes, significant-in_order, has_shape-in_order, space_is}
use Rattle.anstyle_parse.proofs.Arguments.Decimals.{read_groups, read_groups-groups_text, read_groups-one_more, groups_text-parameters, semicolon_is, first_fields-all, first_fields-front}

-- a header that is all significant, has the shape, and shows these arguments
pub record Shows (header : List ℕ) (groups : List (List ℕ)) (intermediates : List ℕ) (ignore : Bool) : Type 0 where
  pub bytes_are : EachIs is_header_byte header
  pub all_significant : significant header ≡ header
  pub shaped : has_shape header ≡ true
  pub shows_groups : groups_of header ≡ groups
  pub shows_collected : collected_of header ≡ intermediates
  pub shows_ignore : ignore_of header ≡ ignore

-- a header in order shows what its three parts show
shows_by : (marker parameters rest : List ℕ) → IsInOrder marker parameters rest → (read groups : List (List ℕ)) (intermediates : List ℕ) (ignore : Bool)
    → read_groups parameters ≡ read → first_fields max_fields read ≡ groups → take max_collected (marker ++ rest) ≡ intermediates
    → (ltb max_fields (length (concat read)) || ltb max_collected (length (marker ++ rest))) ≡ ignore
    → Shows (in_order marker parameters rest) groups intermediates ignore
unfolding groups_of collected_of ignore_of
shows_by marker parameters rest order read groups intermediates ignore reads first collects ignores =
    let fields = ap read_groups (filter-parameters marker parameters rest order) ∙ reads in
    let all = ap (λ l. l ++ filter is_intermediate (in_order marker parameters rest)) (filter-markers marker parameters rest order) ∙ ap (λ l. marker ++ l) (filter-intermediates marker parameters rest order) in
    record {
      bytes_are = header_bytes marker parameters rest order;
      all_significant = significant-in_order marker parameters rest order;
      shaped = has_shape-in_order marker parameters rest order;
      shows_groups = ap (first_fields max_fields) fields ∙ first;
      shows_collected = ap (take max_collected) all ∙ collects;
      shows_ignore = ap (λ r. ltb max_fields (length (concat r)) || ltb max_collected (length (filter is_marker (in_order marker parameters rest) ++ filter is_intermediate (in_order marker parameters rest)))) fields
          ∙ (ap (λ l. ltb max_fields (length (concat read)) || ltb max_collected (length l)) all ∙ ignores);
    }

split : (t : Bool) (b : ℕ) (bytes : List ℕ) → cond t (b ∷ []) [] ++ cond t bytes (b ∷ bytes) ≡ b ∷ bytes
split true b bytes = refl
split false b bytes = refl

-- the marker at the head and what is after it are the list
pub leading_marker-after_marker : (bytes : List ℕ) → leading_marker bytes ++ after_marker bytes ≡ bytes
leading_marker-after_marker [] = refl
leading_marker-after_marker (b ∷ bytes) = split (is_marker b) b bytes

-- the marker at the head is one, and at most one
leading_marker-is : (bytes : List ℕ) → EachIs is_marker (leading_marker bytes)
leading_marker-is [] = tt
leading_marker-is (b ∷ bytes) = cond_both (is_marker b) (b ∷ []) [] (EachIs is_marker) (λ e. (e, tt)) (λ e. tt)

length-leading_marker : (bytes : List ℕ) → length (leading_marker bytes) ≤ 1
length-leading_marker [] = omega arith
length-leading_marker (b ∷ bytes) = cond_both (is_marker b) (b ∷ []) [] (λ l. length l ≤ 1) (λ e. omega arith) (λ e. omega arith)

module _ (groups : List (List ℕ)) (intermediates : List ℕ) (ignore : Bool) (final : ℕ) (call : IsHeaderCall groups intermediates ignore final) where
  in_order-by : (more_fields more_collected : List ℕ) → EachIs is_parameter more_fields → EachIs is_intermediate more_collected
      → IsInOrder (leading_marker intermediates) (groups_text groups ++ more_fields) (after_marker intermediates ++ more_collected)
  in_order-by more_fields more_collected h k = record {
    one = length-leading_marker intermediates;
    markers = leading_marker-is intermediates;
    fields = EachIs-append is_parameter (groups_text groups) more_fields (groups_text-parameters groups call.groups_fit) h;
    rest = EachIs-append is_intermediate (after_marker intermediates) more_collected call.collected_are k;
  }

  collected-by : (more : List ℕ) → leading_marker intermediates ++ (after_marker intermediates ++ more) ≡ intermediates ++ more
  collected-by more =
      sym (append_assoc (leading_marker intermediates) (after_marker intermediates) more)
      ∙ ap (λ l. l ++ more) (leading_marker-after_marker intermediates)

  -- by whether more is ignored, and whether as many intermediates are there as are shown
  shown : (i full : Bool) → i ≡ ignore → shows_no_more_intermediates intermediates ≡ full
      → Shows (leading_marker intermediates ++ ((groups_text groups ++ cond (i && not full) (semicolon ∷ []) []) ++ (after_marker intermediates ++ cond (i && full) (0x20 ∷ []) []))) groups intermediates i
  unfolding shows_no_more_intermediates
  shown false full e f =
      let all = collected-by [] in
      shows_by (leading_marker intermediates) (groups_text groups ++ []) (after_marker intermediates ++ []) (in_order-by [] [] tt tt) groups groups intermediates false
      (ap read_groups (append-nil (groups_text groups)) ∙ read_groups-groups_text groups call.some_field call.groups_fit)
      (first_fields-all max_fields groups call.groups_fit call.fields_fit)
      (ap (take max_collected) (all ∙ append-nil intermediates) ∙ take_all max_collected intermediates call.collected_fit)
      (or_from (ltb max_fields (length (concat groups))) (ltb max_collected (length (leading_marker intermediates ++ (after_marker intermediates ++ []))))
      (le-ltb max_fields (length (concat groups)) call.fields_fit)
      (le-ltb max_collected (length (leading_marker intermediates ++ (after_marker intermediates ++ []))) (omega (arith, ap length (all ∙ append-nil intermediates), call.collected_fit))))
  shown true false e f =
      let all = collected-by [] in
      let few : length intermediates < 2 = ltb-true (length intermediates) max_collected (not-false (ltb (length intermediates) max_collected) f) in
      let exact : length (concat groups) ≡ max_fields = ⊎_elim (λ h. h) (λ h. absurd (omega (arith, h, few))) (call.ignores (sym e)) in
      let more = groups ++ (0 ∷ []) ∷ [] in
      shows_by (leading_marker intermediates) (groups_text groups ++ semicolon ∷ []) (after_marker intermediates ++ []) (in_order-by (semicolon ∷ []) [] (semicolon_is, tt) tt) more groups intermediates true
      (read_groups-one_more groups call.some_field call.groups_fit)
      (first_fields-front max_fields groups ((0 ∷ []) ∷ []) call.groups_fit exact)
      (ap (take max_collected) (all ∙ append-nil intermediates) ∙ take_all max_collected intermediates call.collected_fit)
      (or_left (ltb max_fields (length (concat more))) (ltb max_collected (length (leading_marker intermediates ++ (after_marker intermediates ++ []))))
      (lt-ltb max_fields (length (concat more)) (omega (arith, exact, ap length (concat-append groups ((0 ∷ []) ∷ [])), length-append (concat groups) (0 ∷ [])))))
  shown true true e f =
      let all = collected-by (0x20 ∷ []) in
      let long : length intermediates ≡ max_collected = omega (arith, call.collected_fit, ltb-false (length intermediates) max_collected (not-true (ltb (length intermediates) max_collected) f)) in
      shows_by (leading_marker intermediates) (groups_text groups ++ []) (after_marker intermediates ++ 0x20 ∷ []) (in_order-by [] (0x20 ∷ []) tt (space_is, tt)) groups groups intermediates true
      (ap read_groups (append-nil (groups_text groups)) ∙ read_groups-groups_text groups call.some_field call.groups_fit)
      (first_fields-all max_fields groups call.groups_fit call.fields_fit)
      (ap (take max_collected) all ∙ take_at intermediates (0x20 ∷ []) max_collected long)
      (or_right (ltb max_fields (length (concat groups))) (ltb max_collected (length (leading_marker intermediates ++ (after_marker intermediates ++ 0x20 ∷ []))))
      (lt-ltb max_collected (length (leading_marker intermediates ++ (after_marker intermediates ++ 0x20 ∷ []))) (omega (arith, long, ap length all, length-append intermediates (0x20 ∷ [])))))

  -- the canonical header shows what it was made of
  pub header_text-Shows : Shows (header_text groups intermediates ignore) groups intermediates ignore
  unfolding header_text
  header_text-Shows = shown ignore (shows_no_more_intermediates intermediates) refl refl
