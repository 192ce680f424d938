-- The text of a header so far leads a new machine to the same registers and the same phase.
use Rattle.std.proofs.Common.{◌≡◌, ℕ, ◌+◌, ◌*◌, ◌<◌, ◌≤◌, ⊎_elim, Bool, true, false, not, List, [], ◌∷◌, ◌++◌, length, eqb, refl, sym, ap, ap₂, ◌∙◌, subst, cond, append_assoc, append-nil, length-append, lt_of_le_of_lt, lit<, arith}
use Rattle.std.specs.Prelude.{◌==◌, decimal}
use Rattle.std.specs.List.{concat}
use Rattle.std.proofs.lemmas.Bool.{cond-true, cond-false, eq-eqb, ne_eqb, eqb-true, eqb-false, not-true}
use Rattle.std.proofs.lemmas.List.{append_cancel_right}
use Rattle.std.proofs.lemmas.Fmt.{decimal_nonempty}
use Rattle.anstyle_parse.specs.Stream.Bytes.{is_intermediate, is_parameter, is_marker, semicolon}
use Rattle.anstyle_parse.specs.Stream.Arguments.{max_fields, max_collected, after_marker, significant}
use Rattle.anstyle_parse.specs.Stream.Items.{EachIs, is_header_byte}
use Rattle.anstyle_parse.specs.Machine.Step.{Machine, new_machine, field_count, after_param, after_collect}
use Rattle.anstyle_parse.specs.Stream.Canon.{leading_marker}
use Rattle.anstyle_parse.specs.Laws.Checkpoint.{ignored_byte, fields_so_far, header_so_far}
use Rattle.anstyle_parse.proofs.Bytes.Passing.{EachIs-append, EachIs-weaker}
use Rattle.anstyle_parse.proofs.Bytes.Headers.{is_parameter-intermediate}
use Rattle.anstyle_parse.proofs.Arguments.HeaderFold.{header_after, header_after-append}
use Rattle.anstyle_parse.proofs.Canonical.Headers.{IsInOrder, in_order, space_is, marker-not_parameter, intermediate-not_marker, after_marker-in_order, header_bytes, significant-in_order}
use Rattle.anstyle_parse.proofs.Arguments.Decimals.{semicolon_is}
use Rattle.anstyle_parse.proofs.Canonical.Shown.{leading_marker-after_marker}
use Rattle.anstyle_parse.proofs.Agreement.Values.{Phase, at_entry, in_parameters, in_intermediates, misfit, phase_by, phase_from, phase_of, registers}
use Rattle.anstyle_parse.proofs.Resume.Held.{HoldsHeader, phase_from-intermediates}
use Rattle.anstyle_parse.proofs.Resume.Fields.{filled, Writes, Writes-append, Writes-one, Writes-decimal, Stores-fields_so_far, length-field}

-- A header that leads a new machine to these registers, and to this phase.
pub record Replays (phase : Phase) (text : List ℕ) (m : Machine (List ℕ)) : Type 0 where
  pub bytes_are : EachIs is_header_byte text
  pub all_significant : significant text ≡ text
  pub comes_to : phase_of text ≡ phase
  pub fills : registers text ≡ filled m.collected m.ignoring m.closed_groups m.open_group m.number
  pub size : length text ≤ 201

-- one list of bytes after another
phase_from-append : (phase : Phase) (first second : List ℕ) → phase_from phase (first ++ second) ≡ phase_from (phase_from phase first) second
phase_from-append phase [] second = refl
phase_from-append phase (b ∷ first) second = phase_from-append (phase_by phase (is_marker b) (is_parameter b) (is_intermediate b)) first second

-- parameter bytes after parameter bytes
phase_from-parameters : (bytes : List ℕ) → EachIs is_parameter bytes → phase_from in_parameters bytes ≡ in_parameters
phase_from-parameters [] each = refl
phase_from-parameters (b ∷ bytes) each =
    ap (λ t. phase_from (cond t in_parameters (cond (is_intermediate b) in_intermediates misfit)) bytes) each.0 ∙ phase_from-parameters bytes each.1

-- parameter bytes at the beginning
phase_of-parameters : (bytes : List ℕ) → EachIs is_parameter bytes → 0 < length bytes → phase_of bytes ≡ in_parameters
phase_of-parameters [] each some = absurd (omega arith)
phase_of-parameters (b ∷ bytes) each some =
    ap (λ t. phase_from (cond (is_marker b) in_parameters (cond t in_parameters (cond (is_intermediate b) in_intermediates misfit))) bytes) each.0
    ∙ (elim (is_marker b) as (λ t. phase_from (cond t in_parameters in_parameters) bytes ≡ phase_from in_parameters bytes) [ true ↦ refl | false ↦ refl ]
    ∙ phase_from-parameters bytes each.1)

-- a marker, then parameter bytes
phase_of-marker : (marker bytes : List ℕ) → length marker ≤ 1 → EachIs is_marker marker → EachIs is_parameter bytes → 0 < length bytes → phase_of (marker ++ bytes) ≡ in_parameters
phase_of-marker [] bytes one is each some = phase_of-parameters bytes each some
phase_of-marker (b ∷ []) bytes one is each some =
    ap (λ t. phase_from (cond t in_parameters (cond (is_parameter b) in_parameters (cond (is_intermediate b) in_intermediates misfit))) bytes) is.0
    ∙ phase_from-parameters bytes each
phase_of-marker (b ∷ c ∷ marker) bytes one is each some = absurd (omega arith)

-- then intermediates
phase_of-in_order : (marker parameters intermediates : List ℕ) → IsInOrder marker parameters intermediates → 0 < length parameters
    → phase_of (in_order marker parameters intermediates) ≡ phase_from in_parameters intermediates
phase_of-in_order marker parameters intermediates order some =
    ap phase_of (sym (append_assoc marker parameters intermediates))
    ∙ (phase_from-append at_entry (marker ++ parameters) intermediates
    ∙ ap (λ phase. phase_from phase intermediates) (phase_of-marker marker parameters order.one order.markers order.fields some))

-- the marker is collected
registers-marker : (marker : List ℕ) → length marker ≤ 1 → EachIs is_marker marker → registers marker ≡ filled marker false [] [] 0
registers-marker [] one is = refl
registers-marker (b ∷ []) one is = cond-false (is_parameter b) (after_param b (new_machine [])) (after_collect b (new_machine [])) (not-true (is_parameter b) (marker-not_parameter b is.0))
registers-marker (b ∷ c ∷ marker) one is = absurd (omega arith)

-- From here on the fields stay as they are.
module _ (groups : List (List ℕ)) (group : List ℕ) (number : ℕ) where
  -- intermediates are collected
  header_after-others : (ignoring : Bool) (collected others : List ℕ) → EachIs is_intermediate others → length collected + length others ≤ max_collected
      → header_after others (filled collected ignoring groups group number) ≡ filled (collected ++ others) ignoring groups group number
  header_after-others ignoring collected [] each few = ap (λ bytes. filled bytes ignoring groups group number) (sym (append-nil collected))
  header_after-others ignoring collected (b ∷ others) each few =
      ap (header_after others)
      (cond-false (is_parameter b) _ _ (is_parameter-intermediate b each.0)
      ∙ cond-false (eqb (length collected) max_collected) _ _ (ne_eqb (length collected) max_collected (λ e. omega arith)))
      ∙ (header_after-others ignoring (collected ++ b ∷ []) others each.1 (omega (arith, length-append collected (b ∷ [])))
      ∙ ap (λ bytes. filled bytes ignoring groups group number) (append_assoc collected (b ∷ []) others))

  -- a third sets the flag
  header_after-space : (ignoring : Bool) (collected : List ℕ) → (ignoring ≡ true → length collected ≡ max_collected)
      → header_after (cond ignoring (0x20 ∷ []) []) (filled collected false groups group number) ≡ filled collected ignoring groups group number
  header_after-space true collected long =
      cond-false (is_parameter 0x20) _ _ (is_parameter-intermediate 0x20 space_is)
      ∙ cond-true (eqb (length collected) max_collected) _ _ (eq-eqb (length collected) max_collected (long refl))
  header_after-space false collected long = refl

  -- where all fields are stored, one more sets it too
  Writes-ignored : (ignoring : Bool) (collected : List ℕ) → length (concat groups) + length group ≡ max_fields
      → Writes (cond ignoring (semicolon ∷ []) []) (filled collected false groups group number) (filled collected ignoring groups group number)
  Writes-ignored true collected full =
      Writes-one semicolon (filled collected false groups group number) (filled collected true groups group number) semicolon_is
      (cond-true (eqb (length (concat groups) + length group) max_fields) _ _ (eq-eqb (length (concat groups) + length group) max_fields full))
  Writes-ignored false collected full = record { each = tt; after = refl }

-- a text that adds a field is not empty
some_text : (text : List ℕ) (m next : Machine (List ℕ)) → Writes text m next → field_count m < field_count next → 0 < length text
some_text [] m next writes more = absurd (omega (arith, ap (λ (r : Machine (List ℕ)). field_count r) writes.after))
some_text (b ∷ text) m next writes more = omega arith

-- a byte or none
length-ignored : (b : ℕ) (ignoring : Bool) → length (cond ignoring (b ∷ []) []) ≤ 1
length-ignored b true = omega arith
length-ignored b false = omega arith

-- which is an intermediate, where it is 20
EachIs-ignored : (ignoring : Bool) → EachIs is_intermediate (cond ignoring (0x20 ∷ []) [])
EachIs-ignored true = (space_is, tt)
EachIs-ignored false = tt

-- From here on m holds what a header of the phase leaves.
module _ (phase : Phase) (m : Machine (List ℕ)) (h : HoldsHeader phase m) where
  -- the intermediates stand after the marker
  behind_marker : after_marker m.collected ≡ h.collected.others
  behind_marker =
      ap after_marker h.collected.whole
      ∙ after_marker-in_order h.collected.marker h.collected.others h.collected.one h.collected.marker_is
      (EachIs-weaker is_intermediate (λ b. not (is_marker b)) intermediate-not_marker h.collected.others h.collected.others_are)

  -- the marker stands at the head
  at_marker : leading_marker m.collected ≡ h.collected.marker
  at_marker =
      append_cancel_right (leading_marker m.collected) h.collected.marker h.collected.others
      (ap (λ bytes. leading_marker m.collected ++ bytes) (sym behind_marker) ∙ (leading_marker-after_marker m.collected ∙ h.collected.whole))

  -- no more are collected than can be
  both_fit : length h.collected.marker + length h.collected.others ≤ max_collected
  both_fit = omega (arith, h.collected.fit, ap length h.collected.whole, length-append h.collected.marker h.collected.others)

  -- a third byte to collect comes after an intermediate
  comes_after : (ignoring : Bool) → (ignoring ≡ true → length m.collected ≡ max_collected) → phase_from in_parameters (h.collected.others ++ cond ignoring (0x20 ∷ []) []) ≡ phase
  comes_after true long =
      let some : 0 < length h.collected.others = omega (arith, long refl, h.collected.one, ap length h.collected.whole, length-append h.collected.marker h.collected.others) in
      phase_from-intermediates (h.collected.others ++ 0x20 ∷ [])
      (EachIs-append is_intermediate h.collected.others (0x20 ∷ []) h.collected.others_are (space_is, tt)) (omega (arith, length-append h.collected.others (0x20 ∷ [])))
      ∙ (sym (phase_from-intermediates h.collected.others h.collected.others_are some) ∙ h.comes)
  comes_after false long = ap (phase_from in_parameters) (append-nil h.collected.others) ∙ h.comes

  -- a marker, parameter bytes and intermediates that lead there
  replays_by : (parameters intermediates : List ℕ) (mid : Machine (List ℕ)) → EachIs is_intermediate intermediates → 0 < length parameters → length parameters ≤ 197 → length intermediates ≤ 3
      → phase_from in_parameters intermediates ≡ phase → Writes parameters (filled h.collected.marker false [] [] 0) mid
      → header_after intermediates mid ≡ filled m.collected m.ignoring m.closed_groups m.open_group m.number
      → Replays phase (in_order h.collected.marker parameters intermediates) m
  replays_by parameters intermediates mid each some few short comes writes leads =
      let order : IsInOrder h.collected.marker parameters intermediates = record { one = h.collected.one; markers = h.collected.marker_is; fields = writes.each; rest = each } in
      record {
        bytes_are = header_bytes h.collected.marker parameters intermediates order;
        all_significant = significant-in_order h.collected.marker parameters intermediates order;
        comes_to = phase_of-in_order h.collected.marker parameters intermediates order some ∙ comes;
        fills = header_after-append h.collected.marker (parameters ++ intermediates) (new_machine [])
            ∙ (ap (header_after (parameters ++ intermediates)) (registers-marker h.collected.marker h.collected.one h.collected.marker_is)
            ∙ (header_after-append parameters intermediates (filled h.collected.marker false [] [] 0)
            ∙ (ap (header_after intermediates) writes.after ∙ leads)));
        size = omega (arith, h.collected.one, length-append h.collected.marker (parameters ++ intermediates), length-append parameters intermediates);
      }

  -- The number and what is after it, by whether all fields are stored.
  replays_full : (full : Bool) → (field_count m == max_fields) ≡ full
      → Replays phase (leading_marker m.collected ++ (fields_so_far m ++ cond full (ignored_byte semicolon m ++ after_marker m.collected) (decimal m.number ++ (after_marker m.collected ++ ignored_byte 0x20 m)))) m
  replays_full true e =
      let marker : List ℕ = h.collected.marker in
      let others : List ℕ = h.collected.others in
      let all : field_count m ≡ max_fields = eqb-true (field_count m) max_fields e in
      let none : m.number ≡ 0 = h.fields.last all in
      let stores = Stores-fields_so_far marker false m h.fields in
      let sized : length (fields_so_far m) + 6 * 0 ≤ 6 * field_count m = stores.size in
      let more = Writes-ignored m.closed_groups m.open_group 0 m.ignoring marker all in
      let text : leading_marker m.collected ++ (fields_so_far m ++ (ignored_byte semicolon m ++ after_marker m.collected)) ≡ in_order marker (fields_so_far m ++ ignored_byte semicolon m) others =
      ap₂ (λ x y. x ++ (fields_so_far m ++ (ignored_byte semicolon m ++ y))) at_marker behind_marker
      ∙ ap (λ bytes. marker ++ bytes) (sym (append_assoc (fields_so_far m) (ignored_byte semicolon m) others)) in
      subst (λ bytes. Replays phase bytes m) (sym text)
      (replays_by (fields_so_far m ++ ignored_byte semicolon m) others (filled marker m.ignoring m.closed_groups m.open_group 0)
      h.collected.others_are
      (omega (arith, length-append (fields_so_far m) (ignored_byte semicolon m), some_text (fields_so_far m) (filled marker false [] [] 0) (filled marker false m.closed_groups m.open_group 0) stores.writes (omega (arith, all))))
      (omega (arith, sized, all, length-append (fields_so_far m) (ignored_byte semicolon m), length-ignored semicolon m.ignoring))
      (omega (arith, both_fit))
      h.comes
      (Writes-append (fields_so_far m) (ignored_byte semicolon m) (filled marker false [] [] 0) (filled marker false m.closed_groups m.open_group 0) (filled marker m.ignoring m.closed_groups m.open_group 0) stores.writes more)
      (header_after-others m.closed_groups m.open_group 0 m.ignoring marker others h.collected.others_are both_fit
      ∙ ap₂ (λ bytes number. filled bytes m.ignoring m.closed_groups m.open_group number) (sym h.collected.whole) (sym none)))
  replays_full false e =
      let marker : List ℕ = h.collected.marker in
      let others : List ℕ = h.collected.others in
      let room = eqb-false (field_count m) max_fields e in
      let few : length (concat m.closed_groups) + length m.open_group ≤ max_fields = h.fields.few in
      let stores = Stores-fields_so_far marker false m h.fields in
      let sized : length (fields_so_far m) + 6 * 0 ≤ 6 * field_count m = stores.size in
      let long : m.ignoring ≡ true → length m.collected ≡ max_collected = λ i. ⊎_elim (λ full. absurd (room full)) (λ c. c) (h.ignores i) in
      let text : leading_marker m.collected ++ (fields_so_far m ++ (decimal m.number ++ (after_marker m.collected ++ ignored_byte 0x20 m))) ≡ in_order marker (fields_so_far m ++ decimal m.number) (others ++ ignored_byte 0x20 m) =
      ap₂ (λ x y. x ++ (fields_so_far m ++ (decimal m.number ++ (y ++ ignored_byte 0x20 m)))) at_marker behind_marker
      ∙ ap (λ bytes. marker ++ bytes) (sym (append_assoc (fields_so_far m) (decimal m.number) (others ++ ignored_byte 0x20 m))) in
      subst (λ bytes. Replays phase bytes m) (sym text)
      (replays_by (fields_so_far m ++ decimal m.number) (others ++ ignored_byte 0x20 m) (filled marker false m.closed_groups m.open_group m.number)
      (EachIs-append is_intermediate others (ignored_byte 0x20 m) h.collected.others_are (EachIs-ignored m.ignoring))
      (omega (arith, length-append (fields_so_far m) (decimal m.number), decimal_nonempty m.number (lt_of_le_of_lt h.fields.number_fits (lit< tt))))
      (omega (arith, sized, few, length-append (fields_so_far m) (decimal m.number), length-field m.number h.fields.number_fits))
      (omega (arith, both_fit, length-append others (ignored_byte 0x20 m), length-ignored 0x20 m.ignoring))
      (comes_after m.ignoring long)
      (Writes-append (fields_so_far m) (decimal m.number) (filled marker false [] [] 0) (filled marker false m.closed_groups m.open_group 0) (filled marker false m.closed_groups m.open_group m.number)
      stores.writes (Writes-decimal marker false m.closed_groups m.open_group room m.number h.fields.number_fits))
      (header_after-append others (ignored_byte 0x20 m) (filled marker false m.closed_groups m.open_group m.number)
      ∙ (ap (header_after (ignored_byte 0x20 m))
      (header_after-others m.closed_groups m.open_group m.number false marker others h.collected.others_are both_fit
      ∙ ap (λ bytes. filled bytes false m.closed_groups m.open_group m.number) (sym h.collected.whole))
      ∙ header_after-space m.closed_groups m.open_group m.number m.ignoring m.collected long)))

  -- The header so far leads a new machine to the registers and the phase.
  pub Replays-header : Replays phase (header_so_far m) m
  Replays-header = replays_full (field_count m == max_fields) refl
