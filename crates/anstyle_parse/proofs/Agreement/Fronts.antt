-- What a machine that stands after bytes holds of a character: nothing in the ground state, and some bytes inside a character.
use Rattle.std.proofs.Common.{◌≡◌, ℕ, Bool, true, false, IsTrue, List, [], ◌∷◌, refl, sym, ap, ◌∙◌, subst}
use Rattle.std.specs.List.{list_any}
use Rattle.std.proofs.lemmas.Bool.{false≢true}
use Rattle.anstyle_parse.specs.declared.state.definitions.State.{State}
use Rattle.anstyle_parse.specs.declared.state.definitions.State.TheVariants.{Anywhere, Ground, Utf8}
use Rattle.anstyle_parse.specs.Stream.Arguments.{significant}
use Rattle.anstyle_parse.specs.Stream.Bytes.{is_intermediate}
use Rattle.anstyle_parse.specs.Stream.Characters.{is_proper_front}
use Rattle.anstyle_parse.specs.Stream.Items.{Body, escape, csi, dcs_header}
use Rattle.anstyle_parse.specs.Machine.Step.{Machine}
use Rattle.anstyle_parse.specs.Machine.Stands.{counted_in, StandsAfter}
use Rattle.anstyle_parse.proofs.Agreement.Values.{Phase, at_entry, phase_of, control_value, device_value, registers, escape_state, body_value, value_at}
use Rattle.anstyle_parse.proofs.Agreement.Whole.{StandsAfter-state, StandsAfter-value}
use Rattle.anstyle_parse.proofs.Characters.Table.{is_proper_front-nil}
use Rattle.anstyle_parse.proofs.Division.Exists.{IsOpen, IsOpen-open_after}
use Rattle.anstyle_parse.proofs.Division.Grow.{Open, nothing, front, inside, open_after}
use Rattle.anstyle_parse.proofs.Machine.Counted.{counted_in-state}

-- no body is open in the ground state
control_value-ground : (phase : Phase) (m : Machine (List ℕ)) → (control_value phase m).state ≡ Ground → ⊥
control_value-ground at_entry m e = cc
control_value-ground phase m e = cc

device_value-ground : (phase : Phase) (m : Machine (List ℕ)) → (device_value phase m).state ≡ Ground → ⊥
device_value-ground at_entry m e = cc
device_value-ground phase m e = cc

escape_state-ground : (some : Bool) → escape_state some ≡ Ground → ⊥
escape_state-ground true e = cc
escape_state-ground false e = cc

body_value-ground : (body : Body) → (body_value body).state ≡ Ground → ⊥
body_value-ground (escape bytes) e = escape_state-ground (list_any is_intermediate bytes) e
body_value-ground (csi between header) e = control_value-ground (phase_of (significant header)) (registers (significant header)) e
body_value-ground (dcs_header between header) e = device_value-ground (phase_of (significant header)) (registers (significant header)) e
body_value-ground body e = cc

holds_none : (o : Open) → (value_at o).state ≡ Ground → (value_at o).accumulator ≡ []
holds_none nothing e = refl
holds_none (front bytes) e = absurd (cc)
holds_none (inside body) e = absurd (body_value-ground body e)

holds_some : (bytes : List ℕ) → IsTrue (is_proper_front bytes) → (a : ℕ) × (more : List ℕ) × (bytes ≡ a ∷ more)
holds_some [] is = absurd (false≢true (sym is_proper_front-nil ∙ is))
holds_some (a ∷ more) is = (a, more, refl)

accumulator-counted_in : (state : State) (m : Machine (List ℕ)) → (counted_in state m).accumulator ≡ m.accumulator
accumulator-counted_in Anywhere m = refl
accumulator-counted_in state m = refl

module _ (m : Machine (List ℕ)) (before : List ℕ) (stands : StandsAfter m before) where
  held : m.accumulator ≡ (value_at (open_after nothing before)).accumulator
  held = sym (accumulator-counted_in m.state m) ∙ ap (λ (r : Machine (List ℕ)). r.accumulator) (StandsAfter-value m before stands)

  pub nothing_held : m.state ≡ Ground → m.accumulator ≡ []
  nothing_held ground =
      held ∙ holds_none (open_after nothing before)
      (sym (sym (counted_in-state m.state m) ∙ ap (λ (r : Machine (List ℕ)). r.state) (StandsAfter-value m before stands)) ∙ ground)

  pub front_held : m.state ≡ Utf8 → (a : ℕ) × (more : List ℕ) × (m.accumulator ≡ a ∷ more)
  front_held within =
      let (bytes, is) = (StandsAfter-state m before stands).0 within in
      let some = holds_some bytes (subst IsOpen is (IsOpen-open_after nothing before tt)) in
      (some.0, some.1, held ∙ ap (λ o. (value_at o).accumulator) is ∙ some.2)
