-- Control sequences that are passed over: of the machine behind them the same counts as before.
use Rattle.std.proofs.Common.{◌≡◌, ℕ, ◌<◌, ◌⊎◌, arith, Bool, true, IsTrue, eqb, refl, List, length, [], ◌∷◌, ◌++◌, ⊎_elim, inl, inr, ap, sym, ◌∙◌, subst, append_assoc, length-append, Option}
use Rattle.std.proofs.lemmas.Bool.{cond_both}
use Rattle.anstyle_parse.specs.declared.state.definitions.State.{State}
use Rattle.anstyle_parse.specs.declared.state.definitions.State.TheVariants.{Anywhere, CsiEntry, CsiParam, Escape, Ground, Utf8}
use Rattle.anstyle_parse.specs.declared.state.definitions.Action.TheVariants.{CsiDispatch, Nop}
use Rattle.anstyle_parse.specs.declared.accumulator.Utf8Parser.{Utf8Parser}
use Rattle.anstyle_parse.specs.declared.parser.Parser.{Parser}
use Rattle.anstyle_parse.specs.Stream.Arguments.{max_fields}
use Rattle.anstyle_parse.specs.Stream.Bytes.{is_parameter, is_final, colon, semicolon}
use Rattle.anstyle_parse.specs.Stream.Call.{Call, csi_dispatch}
use Rattle.anstyle_parse.specs.Stream.Calls.{Continues}
use Rattle.anstyle_parse.specs.Stream.Items.{EachIs}
use Rattle.anstyle_parse.specs.Machine.Table.{◌by◌}
use Rattle.anstyle_parse.specs.Machine.Step.{Machine, AccumulatorStep, field_count, pushed, after_clear, after_param, with_last_field, exit_action, after_action, action_calls, step, step_calls, machine_after, machine_calls}
use Rattle.anstyle_parse.specs.Machine.Stands.{counted, counted_in, seen, Decodes}
use Rattle.anstyle_parse.specs.Views.Accumulator.{parser_after}
use Rattle.anstyle_parse.specs.Views.Parser.{machine_of, AreBelow, IsAfter}
use Rattle.anstyle_parse.specs.Views.Texts.{LeadsByTextTo}
use Rattle.anstyle_parse.specs.Views.Passing.{PassFields, BeginWithSequence, LeadsInEffectTo, PassesOver}
use Rattle.anstyle_parse.specs.Views.Stage.{stage}
use Rattle.anstyle_parse.proofs.Agreement.Whole.{StandsAfter-machine, Continues-machine}
use Rattle.anstyle_parse.proofs.Bytes.Passing.{EachIs-append}
use Rattle.anstyle_parse.proofs.Machine.Actions.{new_in}
use Rattle.anstyle_parse.proofs.Machine.Counted.{same_machine}
use Rattle.anstyle_parse.proofs.Machine.Runs.{change_at-final, step-by, step-parameter, step-escaped, step-introduced, calls-introduced}
use Rattle.anstyle_parse.proofs.Machine.Seen.{Seen-machine}

-- bytes of fields, one after another
pub PassFields-none : (bytes : List ℕ) → PassFields bytes bytes
PassFields-none bytes = record { fields = []; each = tt; joined = refl }

pub PassFields-more : (bytes rest left fields : List ℕ) → EachIs is_parameter fields → rest ≡ fields ++ left → PassFields bytes rest → PassFields bytes left
PassFields-more bytes rest left fields each joined passed = record {
  fields = passed.fields ++ fields;
  each = EachIs-append is_parameter passed.fields fields passed.each each;
  joined = passed.joined ∙ ap (λ l. passed.fields ++ l) joined ∙ sym (append_assoc passed.fields fields left);
}

-- with what stands around them
pub BeginWithSequence-fields : (bytes header rest left : List ℕ) (escape introducer final : ℕ) (begun : List ℕ)
    → bytes ≡ escape ∷ begun → escape ≡ 0x1B → begun ≡ introducer ∷ header → introducer ≡ 0x5B
    → PassFields header rest → rest ≡ final ∷ left → IsTrue (is_final final) → BeginWithSequence bytes left
BeginWithSequence-fields bytes header rest left escape introducer final begun first is second opens passed third ends = record {
  fields = passed.fields;
  each = passed.each;
  final = final;
  ends = ends;
  joined = first ∙ ap (λ b. b ∷ begun) is
      ∙ ap (λ l. 0x1B ∷ l) (second ∙ ap (λ b. b ∷ header) opens ∙ ap (λ l. 0x5B ∷ l) (passed.joined ∙ ap (λ l. passed.fields ++ l) third));
}

pub length-BeginWithSequence : (bytes left : List ℕ) → BeginWithSequence bytes left → length left < length bytes
length-BeginWithSequence bytes left begun =
    omega (arith, ap length begun.joined, length-append begun.fields (begun.final ∷ left))

module _ {A : Type 0} (adds : AccumulatorStep A) where
  -- The bytes lead back to the ground state, and on the way one control sequence is dispatched. The accumulator is as it was.
  record Ends (m : Machine A) (bytes left : List ℕ) : Type 0 where
    after : Machine A
    at : after.state ≡ Ground
    held : after.accumulator ≡ m.accumulator
    runs : machine_after adds bytes m ≡ machine_after adds left after
    groups : List (List ℕ)
    collected : List ℕ
    ignore : Bool
    final : ℕ
    calls : machine_calls adds bytes m ≡ csi_dispatch groups collected ignore final ∷ machine_calls adds left after

  held-last : (m : Machine A) → (with_last_field m).accumulator ≡ m.accumulator
  held-last m = cond_both (eqb (field_count m) max_fields) (record m { ignoring = true }) (pushed m) (λ (n : Machine A). n.accumulator ≡ m.accumulator) (λ _. refl) (λ _. refl)

  held-parameter : (b : ℕ) (m : Machine A) → (after_param b m).accumulator ≡ m.accumulator
  held-parameter b m =
      let Q : Machine A → Type 0 = λ n. n.accumulator ≡ m.accumulator in
      cond_both (eqb (field_count m) max_fields) _ _ Q (λ _. refl)
      (λ _. cond_both (eqb b semicolon) _ _ Q (λ _. refl)
      (λ _. cond_both (eqb b colon) _ _ Q (λ _. refl) (λ _. refl)))

  -- a header is left with no action
  exit-header : (state : State) → (state ≡ CsiEntry) ⊎ (state ≡ CsiParam) → exit_action state ≡ Nop
  exit-header state is = ⊎_elim (λ e. ap exit_action e) (λ e. ap exit_action e) is

  outside-header : (state : State) → (state ≡ CsiEntry) ⊎ (state ≡ CsiParam) → state ≡ Utf8 → ⊥
  outside-header state is inside = ⊎_elim (λ e. absurd (cc (e, inside))) (λ e. absurd (cc (e, inside))) is

  -- the final byte
  Ends-final : (m : Machine A) (b : ℕ) (left : List ℕ) → (m.state ≡ CsiEntry) ⊎ (m.state ≡ CsiParam) → IsTrue (is_final b) → Ends m (b ∷ left) left
  Ends-final m b left is final =
      let stepped = step-by adds m b (Ground by CsiDispatch) (outside-header m.state is) (change_at-final m.state b is final) in
      let still = exit-header m.state is in
      let last = with_last_field m in
      let behind : Machine A = record last { state = Ground } in
      let reached : step adds b m ≡ behind =
      stepped.0 ∙ ap (λ x. let r : Machine A = record (with_last_field (after_action adds x b m)) { state = Ground } in r) still in
      let called : step_calls adds b m ≡ action_calls adds CsiDispatch b m =
      stepped.1 ∙ ap (λ x. action_calls adds x b m ++ (action_calls adds CsiDispatch b (after_action adds x b m) ++ [])) still in
      record {
        after = behind;
        at = refl;
        held = held-last m;
        runs = ap (λ x. machine_after adds left x) reached;
        groups = _;
        collected = _;
        ignore = _;
        final = b;
        calls = ap (λ calls. calls ++ machine_calls adds left (step adds b m)) called ∙ ap (λ x. action_calls adds CsiDispatch b m ++ machine_calls adds left x) reached;
      }

  -- a byte of a field before
  Ends-byte : (m x : Machine A) (b : ℕ) (bytes left : List ℕ) → step adds b m ≡ x → step_calls adds b m ≡ [] → x.accumulator ≡ m.accumulator → Ends x bytes left → Ends m (b ∷ bytes) left
  Ends-byte m x b bytes left reached none held ends = record {
    after = ends.after;
    at = ends.at;
    held = ends.held ∙ held;
    runs = ap (λ y. machine_after adds bytes y) reached ∙ ends.runs;
    groups = ends.groups;
    collected = ends.collected;
    ignore = ends.ignore;
    final = ends.final;
    calls = ap (λ calls. calls ++ machine_calls adds bytes (step adds b m)) none ∙ ap (λ y. machine_calls adds bytes y) reached ∙ ends.calls;
  }

  Ends-fields : (fields : List ℕ) (m : Machine A) (b : ℕ) (left : List ℕ) → (m.state ≡ CsiEntry) ⊎ (m.state ≡ CsiParam)
      → EachIs is_parameter fields → IsTrue (is_final b) → Ends m (fields ++ b ∷ left) left
  Ends-fields [] m b left is each final = Ends-final m b left is final
  Ends-fields (a ∷ fields) m b left is each final =
      let stepped = step-parameter adds a m is each.0 in
      let x : Machine A = record (after_param a m) { state = CsiParam } in
      Ends-byte m x a (fields ++ b ∷ left) left stepped.0 stepped.1 (held-parameter a m) (Ends-fields fields x b left (inr refl) each.1 final)

  -- from ESC on
  Ends-sequence : (fields : List ℕ) (m : Machine A) (b : ℕ) (left : List ℕ) → m.state ≡ Ground
      → EachIs is_parameter fields → IsTrue (is_final b) → Ends m (0x1B ∷ 0x5B ∷ fields ++ b ∷ left) left
  Ends-sequence fields m b left ground each final =
      let escaped = step-escaped adds m ground in
      let none = calls-introduced adds m ground in
      let x : Machine A = record (after_clear m) { state = Escape } in
      let y : Machine A = record (after_clear m) { state = CsiEntry } in
      Ends-byte m x 0x1B (0x5B ∷ fields ++ b ∷ left) left escaped none.0 refl
      (Ends-byte x y 0x5B (fields ++ b ∷ left) left
      (ap (λ z. step adds 0x5B z) (sym escaped) ∙ step-introduced adds m ground)
      (ap (λ z. step_calls adds 0x5B z) (sym escaped) ∙ none.1) refl
      (Ends-fields fields y b left (inl refl) each final))

  -- what counts in the ground state
  counted-ground : (m : Machine A) → m.state ≡ Ground → counted m ≡ new_in Ground m.accumulator
  counted-ground m ground = ap (λ s. counted_in s m) ground ∙ ap (λ s. new_in s m.accumulator) ground

  -- so a sequence can be left out
  pub passed-sequence : (m : Machine A) (bytes left : List ℕ) → m.state ≡ Ground → BeginWithSequence bytes left
      → (groups : List (List ℕ)) × (collected : List ℕ) × (ignore : Bool) × (final : ℕ)
      × (counted (machine_after adds left m) ≡ counted (machine_after adds bytes m))
      × (machine_calls adds bytes m ≡ csi_dispatch groups collected ignore final ∷ machine_calls adds left m)
  passed-sequence m bytes left ground begun =
      let ends = Ends-sequence begun.fields m begun.final left ground begun.each begun.ends in
      let alike : counted m ≡ counted ends.after =
      counted-ground m ground ∙ ap (λ a. new_in Ground a) (sym ends.held) ∙ sym (counted-ground ends.after ends.at) in
      let further = same_machine adds left m ends.after alike in (
        ends.groups,
        ends.collected,
        ends.ignore,
        ends.final,
        further.0 ∙ ap counted (sym ends.runs) ∙ ap (λ l. counted (machine_after adds l m)) (sym begun.joined),
        ap (λ l. machine_calls adds l m) begun.joined ∙ ends.calls
            ∙ ap (λ calls. csi_dispatch ends.groups ends.collected ends.ignore ends.final ∷ calls) (sym further.1),
      )

-- what counts of a machine as it is seen
counted_in-seen : {A : Type 0} (front : A → List ℕ) (state : State) (m : Machine A) → counted_in state (seen front m) ≡ seen front (counted_in state m)
counted_in-seen front Anywhere m = refl
counted_in-seen front state m = refl

module _ {C : Type 0} (front : C → List ℕ) (takes : C → ℕ → Type 0) (add : C → ℕ → C × Option ℕ) (adds : AccumulatorStep C) (decodes : Decodes C front takes add adds)
    (old : Parser C) (bytes : List ℕ) (below : AreBelow 256 bytes) (before : List ℕ) (stands : IsAfter front old before) where
  -- a parser of which the same counts as after the bytes stands after them
  pub IsAfter-counted : (new : Parser C) → counted (machine_of new) ≡ counted (machine_after adds bytes (machine_of old)) → IsAfter front new (before ++ bytes)
  IsAfter-counted new same =
      let there = machine_after adds bytes (machine_of old) in
      counted_in-seen front new.state (machine_of new)
      ∙ ap (seen front) same
      ∙ sym (counted_in-seen front there.state there)
      ∙ ap counted (Seen-machine front takes add adds decodes bytes below (machine_of old)).0
      ∙ StandsAfter-machine (seen front (machine_of old)) before bytes stands

  -- and its calls continue those of the bytes before
  pub Continues-calls : Continues before bytes (machine_calls adds bytes (machine_of old))
  Continues-calls =
      subst (Continues before bytes) (sym (Seen-machine front takes add adds decodes bytes below (machine_of old)).1)
      (Continues-machine (seen front (machine_of old)) before bytes stands)

module _ {P : Type 0} (receives : P → List Call → P → Type 0) where
  -- what leads by texts does so in effect
  pub LeadsInEffectTo-text : {p q : Parser Utf8Parser} {a b : P} {xs ys : List ℕ} → LeadsByTextTo receives (stage p a xs) (stage q b ys) → LeadsInEffectTo receives (stage p a xs) (stage q b ys)
  LeadsInEffectTo-text led = record { same = ap counted led.machine; made = led.made; joined = led.joined; received = led.received }

  -- and so does what comes after it
  pub LeadsInEffectTo-trans : ((old middle new : P) (calls more : List Call) → receives old calls middle → receives middle more new → receives old (calls ++ more) new)
      → {p q r : Parser Utf8Parser} {a b c : P} {xs ys zs : List ℕ}
      → LeadsInEffectTo receives (stage p a xs) (stage q b ys) → LeadsInEffectTo receives (stage q b ys) (stage r c zs) → LeadsInEffectTo receives (stage p a xs) (stage r c zs)
  LeadsInEffectTo-trans join {a = a} {b = b} {c = c} first second = record {
    same = second.same ∙ first.same;
    made = first.made ++ second.made;
    joined = first.joined ∙ ap (λ calls. first.made ++ calls) second.joined ∙ sym (append_assoc first.made second.made _);
    received = join a b c first.made second.made first.received second.received;
  }

  -- a control sequence that leaves the performer as it is
  pub LeadsInEffectTo-sequence : (p : Parser Utf8Parser) (a : P) (xs left : List ℕ) → p.state ≡ Ground → BeginWithSequence xs left
      → PassesOver receives a
      → LeadsInEffectTo receives (stage p a xs) (stage p a left)
  LeadsInEffectTo-sequence p a xs left ground begun passes =
      let (groups, collected, ignore, final, same, calls) = passed-sequence parser_after (machine_of p) xs left ground begun in
      record {
        same = same;
        made = csi_dispatch groups collected ignore final ∷ [];
        joined = calls;
        received = passes groups collected ignore final;
      }
