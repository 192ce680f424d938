-- What the registers of a header hold, whatever its bytes are.
use Rattle.std.proofs.Common.{◌≡◌, ℕ, ◌+◌, ◌<◌, ◌≤◌, ◌⊎◌, inl, inr, ⊎_elim, Bool, true, false, List, [], ◌∷◌, ◌++◌, length, refl, sym, ap, ◌∙◌, subst, cond, append_assoc, length-append, arith}
use Rattle.std.specs.Prelude.{◌==◌, ⊤, IsTrue}
use Rattle.std.specs.List.{AllByRecursion, concat}
use Rattle.std.proofs.lemmas.Bool.{eqb-true, eqb-false, both_ways}
use Rattle.anstyle_parse.specs.Stream.Bytes.{is_intermediate, is_parameter, is_marker, colon, semicolon}
use Rattle.anstyle_parse.specs.Stream.Arguments.{max_fields, max_field, max_collected}
use Rattle.anstyle_parse.specs.Stream.Items.{EachIs}
use Rattle.anstyle_parse.specs.Laws.Lawful.{IsGroup}
use Rattle.anstyle_parse.specs.Machine.Step.{Machine, new_machine, field_count, after_param, after_collect}
use Rattle.anstyle_parse.proofs.Lists.Splits.{length-concat_push}
use Rattle.anstyle_parse.proofs.Bytes.Passing.{EachIs-push}
use Rattle.anstyle_parse.proofs.Arguments.Decimals.{AllByRecursion-push}
use Rattle.anstyle_parse.proofs.Bytes.Headers.{is_parameter-intermediate}
use Rattle.anstyle_parse.proofs.Arguments.HeaderFold.{header_step, header_after}
use Rattle.anstyle_parse.proofs.Machine.Actions.{collecting_by, with_parameter_by}
use Rattle.anstyle_parse.proofs.Agreement.Values.{Phase, at_entry, in_parameters, in_intermediates, misfit, phase_by, phase_from, phase_of, registers}

-- no field is above the greatest
abbrev pub AreFields : List ℕ → Type 0
AreFields fields = AllByRecursion (λ n. n ≤ max_field) fields

-- The stored fields and the number: where all 32 are stored the number is 0.
pub record HoldsFields (groups : List (List ℕ)) (group : List ℕ) (number : ℕ) : Type 0 where
  pub few : length (concat groups) + length group ≤ max_fields
  pub closed : AllByRecursion IsGroup groups
  pub opened : AreFields group
  pub number_fits : number ≤ max_field
  pub last : length (concat groups) + length group ≡ max_fields → number ≡ 0

-- The collected bytes: at most one marker, then intermediates.
pub record HoldsCollected (bytes : List ℕ) : Type 0 where
  pub marker : List ℕ
  pub others : List ℕ
  pub whole : bytes ≡ marker ++ others
  pub one : length marker ≤ 1
  pub marker_is : EachIs is_marker marker
  pub others_are : EachIs is_intermediate others
  pub fit : length bytes ≤ max_collected

-- intermediates after intermediates
phase_from-in_intermediates : (others : List ℕ) → EachIs is_intermediate others → phase_from in_intermediates others ≡ in_intermediates
phase_from-in_intermediates [] each = refl
phase_from-in_intermediates (b ∷ others) each =
    ap (λ t. phase_from (cond t in_intermediates misfit) others) each.0 ∙ phase_from-in_intermediates others each.1

-- and after parameter bytes
pub phase_from-intermediates : (others : List ℕ) → EachIs is_intermediate others → 0 < length others → phase_from in_parameters others ≡ in_intermediates
phase_from-intermediates [] each some = absurd (omega arith)
phase_from-intermediates (b ∷ others) each some =
    ap (λ t. phase_from (cond t in_parameters (cond (is_intermediate b) in_intermediates misfit)) others) (is_parameter-intermediate b each.0)
    ∙ (ap (λ t. phase_from (cond t in_intermediates misfit) others) each.0 ∙ phase_from-in_intermediates others each.1)

-- Both, and a flag that is set only where one of them is full.
pub record HoldsHeader (phase : Phase) (m : Machine (List ℕ)) : Type 0 where
  pub fields : HoldsFields m.closed_groups m.open_group m.number
  pub collected : HoldsCollected m.collected
  pub comes : phase_from in_parameters collected.others ≡ phase
  pub ignores : m.ignoring ≡ true → (field_count m ≡ max_fields) ⊎ (length m.collected ≡ max_collected)

-- a group that is closed: its last field is the number
closed_group : (group : List ℕ) (number : ℕ) → AreFields group → number ≤ max_field → IsGroup (group ++ number ∷ [])
closed_group group number h k = (omega (arith, length-append group (number ∷ [])), AllByRecursion-push (λ n. n ≤ max_field) group number h k)

-- the number becomes a field: the last of a group that is closed
HoldsFields-pushed : (groups : List (List ℕ)) (group : List ℕ) (number : ℕ) → HoldsFields groups group number → (length (concat groups) + length group ≡ max_fields → ⊥)
    → HoldsFields (groups ++ (group ++ number ∷ []) ∷ []) [] 0
HoldsFields-pushed groups group number h room = record {
  few = omega (arith, h.few, room, length-concat_push groups (group ++ number ∷ []), length-append group (number ∷ []));
  closed = AllByRecursion-push IsGroup groups (group ++ number ∷ []) h.closed (closed_group group number h.opened h.number_fits);
  opened = tt;
  number_fits = omega arith;
  last = λ e. refl;
}

-- or of the open group
HoldsFields-extended : (groups : List (List ℕ)) (group : List ℕ) (number : ℕ) → HoldsFields groups group number → (length (concat groups) + length group ≡ max_fields → ⊥)
    → HoldsFields groups (group ++ number ∷ []) 0
HoldsFields-extended groups group number h room = record {
  few = omega (arith, h.few, room, length-append group (number ∷ []));
  closed = h.closed;
  opened = AllByRecursion-push (λ n. n ≤ max_field) group number h.opened h.number_fits;
  number_fits = omega arith;
  last = λ e. refl;
}

-- or takes one more digit
HoldsFields-number : (groups : List (List ℕ)) (group : List ℕ) (number next : ℕ) → HoldsFields groups group number → (length (concat groups) + length group ≡ max_fields → ⊥)
    → next ≤ max_field → HoldsFields groups group next
HoldsFields-number groups group number next h room small = record {
  few = h.few;
  closed = h.closed;
  opened = h.opened;
  number_fits = small;
  last = λ e. absurd (room e);
}

-- From here on m holds what a header of the phase leaves.
module _ (phase : Phase) (b : ℕ) (m : Machine (List ℕ)) (h : HoldsHeader phase m) where
  -- where not all fields are stored, the flag is set only by a third byte to collect
  ignores_collected : (field_count m ≡ max_fields → ⊥) → m.ignoring ≡ true → length m.collected ≡ max_collected
  ignores_collected room e = ⊎_elim (λ full. absurd (room full)) (λ long. long) (h.ignores e)

  -- a parameter byte
  parameter_by-holds : (full ends_group ends_field : Bool) → (field_count m == max_fields) ≡ full → HoldsHeader phase (with_parameter_by full ends_group ends_field b m)
  parameter_by-holds true ends_group ends_field e =
      record { fields = h.fields; collected = h.collected; comes = h.comes; ignores = λ i. inl (eqb-true (field_count m) max_fields e) }
  parameter_by-holds false true ends_field e =
      let room = eqb-false (field_count m) max_fields e in record {
        fields = HoldsFields-pushed m.closed_groups m.open_group m.number h.fields room;
        collected = h.collected;
        comes = h.comes;
        ignores = λ i. inr (ignores_collected room i);
      }
  parameter_by-holds false false true e =
      let room = eqb-false (field_count m) max_fields e in record {
        fields = HoldsFields-extended m.closed_groups m.open_group m.number h.fields room;
        collected = h.collected;
        comes = h.comes;
        ignores = λ i. inr (ignores_collected room i);
      }
  parameter_by-holds false false false e =
      let room = eqb-false (field_count m) max_fields e in record {
        fields = HoldsFields-number m.closed_groups m.open_group m.number _ h.fields room (omega arith);
        collected = h.collected;
        comes = h.comes;
        ignores = λ i. inr (ignores_collected room i);
      }

  -- by what its tests answer
  with_parameter-holds : HoldsHeader phase (after_param b m)
  with_parameter-holds = parameter_by-holds (field_count m == max_fields) (b == semicolon) (b == colon) refl

  -- an intermediate
  collecting_by-holds : (full : Bool) → (length m.collected == max_collected) ≡ full → IsTrue (is_intermediate b) → HoldsHeader in_intermediates (collecting_by full b m)
  collecting_by-holds true e is =
      let long : length m.collected ≡ max_collected = eqb-true (length m.collected) max_collected e in
      let same : length m.collected ≡ length (h.collected.marker ++ h.collected.others) = ap length h.collected.whole in
      record {
        fields = h.fields;
        collected = h.collected;
        comes = phase_from-intermediates h.collected.others h.collected.others_are (omega (arith, length-append h.collected.marker h.collected.others, h.collected.one));
        ignores = λ i. inr long;
      }
  collecting_by-holds false e is =
      let more = EachIs-push is_intermediate h.collected.others b h.collected.others_are is in record {
        fields = h.fields;
        collected = record {
          marker = h.collected.marker;
          others = h.collected.others ++ b ∷ [];
          whole = ap (λ bytes. bytes ++ b ∷ []) h.collected.whole ∙ append_assoc h.collected.marker h.collected.others (b ∷ []);
          one = h.collected.one;
          marker_is = h.collected.marker_is;
          others_are = more;
          fit = omega (arith, h.collected.fit, eqb-false (length m.collected) max_collected e, length-append m.collected (b ∷ []));
        };
        comes = phase_from-intermediates (h.collected.others ++ b ∷ []) more (omega (arith, length-append h.collected.others (b ∷ [])));
        ignores = λ i. ⊎_elim (λ full. inl full) (λ long. absurd (eqb-false (length m.collected) max_collected e long)) (h.ignores i);
      }

  -- by what its test answers
  collecting-holds : IsTrue (is_intermediate b) → HoldsHeader in_intermediates (after_collect b m)
  collecting-holds is = collecting_by-holds (length m.collected == max_collected) refl is

-- before any byte
new_fields : HoldsFields [] [] 0
new_fields = record { few = omega arith; closed = tt; opened = tt; number_fits = omega arith; last = λ e. refl }

-- the registers of a new machine
new-holds : HoldsHeader in_parameters (new_machine [])
new-holds = record {
  fields = new_fields;
  collected = record { marker = []; others = []; whole = refl; one = omega arith; marker_is = tt; others_are = tt; fit = omega arith };
  comes = refl;
  ignores = λ i. cc;
}

-- a marker there
marker-holds : (b : ℕ) → IsTrue (is_marker b) → HoldsHeader in_parameters (after_collect b (new_machine []))
marker-holds b is = record {
  fields = new_fields;
  collected = record { marker = b ∷ []; others = []; whole = refl; one = omega arith; marker_is = (is, tt); others_are = tt; fit = omega arith };
  comes = refl;
  ignores = λ i. cc;
}

-- what a header leaves, by its phase; nothing of a misfit counts
abbrev pub Held : Phase → Machine (List ℕ) → Type 0
Held at_entry m = m ≡ new_machine []
Held in_parameters m = HoldsHeader in_parameters m
Held in_intermediates m = HoldsHeader in_intermediates m
Held misfit m = ⊤

-- one byte more
held_by : (phase : Phase) (marker parameter intermediate : Bool) (b : ℕ) (m : Machine (List ℕ))
    → is_marker b ≡ marker → is_parameter b ≡ parameter → is_intermediate b ≡ intermediate → Held phase m
    → Held (phase_by phase marker parameter intermediate) (cond parameter (after_param b m) (after_collect b m))
held_by at_entry true true intermediate b m e1 e2 e3 h = subst (λ r. HoldsHeader in_parameters (after_param b r)) (sym h) (with_parameter-holds in_parameters b (new_machine []) new-holds)
held_by at_entry true false intermediate b m e1 e2 e3 h = subst (λ r. HoldsHeader in_parameters (after_collect b r)) (sym h) (marker-holds b e1)
held_by at_entry false true intermediate b m e1 e2 e3 h = subst (λ r. HoldsHeader in_parameters (after_param b r)) (sym h) (with_parameter-holds in_parameters b (new_machine []) new-holds)
held_by at_entry false false true b m e1 e2 e3 h = subst (λ r. HoldsHeader in_intermediates (after_collect b r)) (sym h) (collecting-holds in_parameters b (new_machine []) new-holds e3)
held_by at_entry false false false b m e1 e2 e3 h = tt
held_by in_parameters marker true intermediate b m e1 e2 e3 h = with_parameter-holds in_parameters b m h
held_by in_parameters marker false true b m e1 e2 e3 h = collecting-holds in_parameters b m h e3
held_by in_parameters marker false false b m e1 e2 e3 h = tt
held_by in_intermediates marker true true b m e1 e2 e3 h = absurd (both_ways (is_parameter b) (is_parameter-intermediate b e3) e2)
held_by in_intermediates marker false true b m e1 e2 e3 h = collecting-holds in_intermediates b m h e3
held_by in_intermediates marker parameter false b m e1 e2 e3 h = tt
held_by misfit marker parameter intermediate b m e1 e2 e3 h = tt

-- one byte after another
held_each : (phase : Phase) (bytes : List ℕ) (m : Machine (List ℕ)) → Held phase m → Held (phase_from phase bytes) (header_after bytes m)
held_each phase [] m h = h
held_each phase (b ∷ bytes) m h =
    held_each (phase_by phase (is_marker b) (is_parameter b) (is_intermediate b)) bytes (header_step b m)
    (held_by phase (is_marker b) (is_parameter b) (is_intermediate b) b m refl refl refl h)

-- The registers of a whole header.
pub Held-registers : (header : List ℕ) → Held (phase_of header) (registers header)
Held-registers header = held_each at_entry header (new_machine []) refl
