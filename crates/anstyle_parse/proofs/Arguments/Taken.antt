-- The bytes of fields, taken at once.
use Rattle.std.proofs.Common.{◌≡◌, ◌≢◌, ℕ, zero, suc, take, drop, ◌<◌, ◌≤◌, Bool, true, false, IsTrue, eqb, List, [], ◌∷◌, ◌++◌, length, ◌+◌, ◌-◌, ◌*◌, refl, sym, ap, subst, ◌∙◌, arith, length-append, append-nil, ◌⊎◌, ⊎_elim, inl, inr}
use Rattle.std.specs.Prelude.{fold, nat_le, ⊤}
use Rattle.std.proofs.lemmas.Bool.{and_parts, and_from, leb-true, le-leb, ne_eqb, cond-false}
use Rattle.anstyle_parse.specs.declared.state.definitions.State.{State}
use Rattle.anstyle_parse.specs.declared.state.definitions.State.TheVariants.{CsiEntry, CsiParam}
use Rattle.anstyle_parse.specs.Stream.Bytes.{is_within, is_parameter, colon, semicolon}
use Rattle.anstyle_parse.specs.Stream.Arguments.{max_field, max_fields}
use Rattle.anstyle_parse.specs.Stream.Items.{EachIs}
use Rattle.anstyle_parse.specs.Machine.Step.{Machine, AccumulatorStep, field_count, after_param, step, machine_after, machine_calls}
use Rattle.anstyle_parse.specs.declared.parser.Parser.{Parser}
use Rattle.anstyle_parse.specs.Views.Header.{heading_of}
use Rattle.anstyle_parse.specs.Views.Parser.{machine_of, CanTakeAll}
use Rattle.anstyle_parse.specs.Views.Runs.{LeadsQuietlyTo}
use Rattle.anstyle_parse.specs.Views.Fields.{number_with, TakesDigits, TakesFields}
use Rattle.anstyle_parse.proofs.Machine.Actions.{with_header_of, with_parameter_by, with_parameter-with_header}
use Rattle.anstyle_parse.proofs.Machine.Runs.{state-with_parameter, step-field, step-parameter}
use Rattle.anstyle_parse.proofs.Arguments.Stored.{AreBelow-later}

pub digit-bounds : (b : ℕ) → IsTrue (is_within 0x30 0x39 b) → (0x30 ≤ b) × (b ≤ 0x39)
unfolding is_within
digit-bounds b digit =
    let ends = and_parts (nat_le 0x30 b) (nat_le b 0x39) digit in
    (leb-true 0x30 b ends.0, leb-true b 0x39 ends.1)

is_parameter-digit : (b : ℕ) → IsTrue (is_within 0x30 0x39 b) → IsTrue (is_parameter b)
unfolding is_within is_parameter
is_parameter-digit b digit =
    let ends = digit-bounds b digit in
    and_from (nat_le 0x30 b) (nat_le b 0x3B) (le-leb 0x30 b ends.0) (le-leb b 0x3B (omega (arith, ends.1)))

-- digits, one after another
pub TakesDigits-none : (number : ℕ) (bytes : List ℕ) → TakesDigits number bytes number bytes
TakesDigits-none number bytes = record { digits = []; whole = refl; each = tt; taken = refl }

pub TakesDigits-digit : (number b new : ℕ) (bytes left : List ℕ) → IsTrue (is_within 0x30 0x39 b)
    → TakesDigits (number_with number b) bytes new left → TakesDigits number (b ∷ bytes) new left
TakesDigits-digit number b new bytes left digit takes = record {
  digits = b ∷ takes.digits;
  whole = ap (λ l. b ∷ l) takes.whole;
  each = (digit, takes.each);
  taken = takes.taken;
}

-- the same, where the number does not reach the greatest one
pub TakesDigits-next : (number b value new : ℕ) (bytes left : List ℕ) → IsTrue (is_within 0x30 0x39 b)
    → value ≡ number * 10 + (b - 0x30) → value ≤ max_field → TakesDigits value bytes new left → TakesDigits number (b ∷ bytes) new left
TakesDigits-next number b value new bytes left digit is fits takes =
    let same : value ≡ number_with number b = omega (arith, is, fits) in
    TakesDigits-digit number b new bytes left digit (subst (λ n. TakesDigits n bytes new left) same takes)

-- and up to three, by what each stands for
module _ (a b c : ℕ) (left : List ℕ) (one ones last value : ℕ)
    (a_is : IsTrue (is_within 0x30 0x39 a) → one ≡ a - 0x30) (b_is : IsTrue (is_within 0x30 0x39 b) → ones ≡ b - 0x30) (c_is : IsTrue (is_within 0x30 0x39 c) → last ≡ c - 0x30) where
  pub TakesDigits-few : (count : ℕ) → count ≤ 3 → EachIs (λ x. is_within 0x30 0x39 x) (take count (a ∷ b ∷ c ∷ []))
      → (count ≡ 0 → value ≡ 0) → (count ≡ 1 → value ≡ one) → (count ≡ 2 → value ≡ one * 10 + ones) → (count ≡ 3 → value ≡ (one * 10 + ones) * 10 + last)
      → TakesDigits 0 (a ∷ b ∷ c ∷ left) value (drop count (a ∷ b ∷ c ∷ left))
  TakesDigits-few zero few each none first second third =
      subst (λ v. TakesDigits 0 (a ∷ b ∷ c ∷ left) v (a ∷ b ∷ c ∷ left)) (sym (none refl)) (TakesDigits-none 0 (a ∷ b ∷ c ∷ left))
  TakesDigits-few (suc zero) few each none first second third =
      let ends = digit-bounds a each.0 in
      TakesDigits-next 0 a value value (b ∷ c ∷ left) (b ∷ c ∷ left) each.0 (omega (arith, first refl, a_is each.0)) (omega (arith, first refl, a_is each.0, ends.1))
      (TakesDigits-none value (b ∷ c ∷ left))
  TakesDigits-few (suc (suc zero)) few each none first second third =
      let ends = digit-bounds a each.0 in
      let more = digit-bounds b each.1.0 in
      TakesDigits-next 0 a one value (b ∷ c ∷ left) (c ∷ left) each.0 (omega (arith, a_is each.0)) (omega (arith, a_is each.0, ends.1))
      (TakesDigits-next one b value value (c ∷ left) (c ∷ left) each.1.0 (omega (arith, second refl, b_is each.1.0))
      (omega (arith, second refl, a_is each.0, b_is each.1.0, ends.1, more.1)) (TakesDigits-none value (c ∷ left)))
  TakesDigits-few (suc (suc (suc zero))) few each none first second third =
      let ends = digit-bounds a each.0 in
      let more = digit-bounds b each.1.0 in
      let most = digit-bounds c each.1.1.0 in
      let two = one * 10 + ones in
      TakesDigits-next 0 a one value (b ∷ c ∷ left) left each.0 (omega (arith, a_is each.0)) (omega (arith, a_is each.0, ends.1))
      (TakesDigits-next one b two value (c ∷ left) left each.1.0 (omega (arith, b_is each.1.0)) (omega (arith, a_is each.0, b_is each.1.0, ends.1, more.1))
      (TakesDigits-next two c value value left left each.1.1.0 (omega (arith, third refl, c_is each.1.1.0))
      (omega (arith, third refl, a_is each.0, b_is each.1.0, c_is each.1.1.0, ends.1, more.1, most.1)) (TakesDigits-none value left)))
  TakesDigits-few (suc (suc (suc (suc n)))) few each none first second third = absurd (omega (arith, few))

pub TakesDigits-length : (number new : ℕ) (bytes left : List ℕ) → TakesDigits number bytes new left → length left ≤ length bytes
TakesDigits-length number new bytes left takes = omega (arith, ap length takes.whole, length-append takes.digits left)

-- and bytes of fields
pub TakesFields-none : (m : Machine ⊤) (bytes : List ℕ) → TakesFields m bytes m bytes
TakesFields-none m bytes = record { fields = []; whole = refl; each = tt; taken = refl }

pub TakesFields-length : (m new : Machine ⊤) (bytes left : List ℕ) → TakesFields m bytes new left → length left ≤ length bytes
TakesFields-length m new bytes left takes = omega (arith, ap length takes.whole, length-append takes.fields left)

pub TakesFields-byte : (m new : Machine ⊤) (b : ℕ) (bytes left : List ℕ) → IsTrue (is_parameter b)
    → TakesFields (after_param b m) bytes new left → TakesFields m (b ∷ bytes) new left
TakesFields-byte m new b bytes left parameter takes = record {
  fields = b ∷ takes.fields;
  whole = ap (λ l. b ∷ l) takes.whole;
  each = (parameter, takes.each);
  taken = takes.taken;
}

-- a header that has room takes a digit into its number
after_param-digit : {A : Type 0} (b : ℕ) (m : Machine A) → field_count m ≢ max_fields → IsTrue (is_within 0x30 0x39 b)
    → after_param b m ≡ record m { number = number_with m.number b }
after_param-digit b m room digit =
    let ends = digit-bounds b digit in
    cond-false (eqb (field_count m) max_fields) _ _ (ne_eqb (field_count m) max_fields room)
    ∙ (cond-false (eqb b semicolon) _ _ (ne_eqb b semicolon (λ e. omega (arith, ends.1, e)))
    ∙ cond-false (eqb b colon) _ _ (ne_eqb b colon (λ e. omega (arith, ends.1, e))))

digits_of_field : (digits rest left : List ℕ) (m new : Machine ⊤) → field_count m ≢ max_fields → EachIs (λ b. is_within 0x30 0x39 b) digits
    → TakesFields (record m { number = fold number_with m.number digits }) rest new left → TakesFields m (digits ++ rest) new left
digits_of_field [] rest left m new room each takes = takes
digits_of_field (b ∷ digits) rest left m new room each takes =
    let more : Machine ⊤ = record m { number = number_with m.number b } in
    let others = digits_of_field digits rest left more new room each.1 takes in
    TakesFields-byte m new b (digits ++ rest) left (is_parameter-digit b each.0)
    (subst (λ x. TakesFields x (digits ++ rest) new left) (sym (after_param-digit b m room each.0)) others)

pub TakesFields-digits : (m new : Machine ⊤) (bytes behind left : List ℕ) (number : ℕ) → field_count m ≢ max_fields → TakesDigits m.number bytes number behind
    → TakesFields (record m { number = number }) behind new left → TakesFields m bytes new left
TakesFields-digits m new bytes behind left number room digits takes =
    let S : ℕ → Type 0 = λ n. TakesFields (record m { number = n }) behind new left in
    subst (λ l. TakesFields m l new left) (sym digits.whole)
    (digits_of_field digits.digits behind left m new room digits.each (subst S digits.taken takes))

-- what they make of a header they make of a machine with that header
abbrev fields_after : {A : Type 0} → Machine A → List ℕ → Machine A
fields_after m fields = fold (λ x b. after_param b x) m fields

pub fields-with_header : {A B : Type 0} (fields : List ℕ) (part : Machine A) (m : Machine B)
    → with_header_of (fields_after part fields) m ≡ fields_after (with_header_of part m) fields
fields-with_header [] part m = refl
fields-with_header (b ∷ fields) part m =
    fields-with_header fields (after_param b part) m ∙ ap (λ x. fields_after x fields) (sym (with_parameter-with_header b part m))

-- a field's byte reads and writes no state
after_param-at : {A : Type 0} (full ends_group ends_field : Bool) (b : ℕ) (m : Machine A) (s : State)
    → with_parameter_by full ends_group ends_field b (record m { state = s }) ≡ record (with_parameter_by full ends_group ends_field b m) { state = s }
after_param-at true ends_group ends_field b m s = refl
after_param-at false true ends_field b m s = refl
after_param-at false false true b m s = refl
after_param-at false false false b m s = refl

module _ {A : Type 0} (adds : AccumulatorStep A) where
  fields_run : (fields left : List ℕ) (m : Machine A) → m.state ≡ CsiParam → EachIs is_parameter fields
      → (machine_after adds left (fields_after m fields) ≡ machine_after adds (fields ++ left) m)
      × (machine_calls adds left (fields_after m fields) ≡ machine_calls adds (fields ++ left) m)
  fields_run [] left m is each = (refl, refl)
  fields_run (b ∷ fields) left m is each =
      let stepped = step-field adds b m is each.0 in
      let further = fields_run fields left (after_param b m) (state-with_parameter b m ∙ is) each.1 in (
        further.0 ∙ ap (λ x. machine_after adds (fields ++ left) x) (sym stepped.0),
        further.1 ∙ ap (λ x. machine_calls adds (fields ++ left) x) (sym stepped.0)
            ∙ sym (ap (λ calls. calls ++ machine_calls adds (fields ++ left) (step adds b m)) stepped.1),
      )

  -- some bytes of fields, at the start of a header or further on
  pub header_run : (b : ℕ) (fields left : List ℕ) (m : Machine A) → (m.state ≡ CsiEntry) ⊎ (m.state ≡ CsiParam) → EachIs is_parameter (b ∷ fields)
      → (machine_after adds left (fields_after (record m { state = CsiParam }) (b ∷ fields)) ≡ machine_after adds (b ∷ fields ++ left) m)
      × (machine_calls adds left (fields_after (record m { state = CsiParam }) (b ∷ fields)) ≡ machine_calls adds (b ∷ fields ++ left) m)
  header_run b fields left m is each =
      let stepped = step-parameter adds b m is each.0 in
      let begun : Machine A = after_param b (record m { state = CsiParam }) in
      let same : step adds b m ≡ begun =
      stepped.0 ∙ sym (after_param-at (eqb (field_count m) max_fields) (eqb b semicolon) (eqb b colon) b m CsiParam) in
      let at : begun.state ≡ CsiParam = state-with_parameter b (record m { state = CsiParam }) in
      let further = fields_run fields left begun at each.1 in (
        further.0 ∙ ap (λ x. machine_after adds (fields ++ left) x) (sym same),
        further.1 ∙ ap (λ x. machine_calls adds (fields ++ left) x) (sym same)
            ∙ sym (ap (λ calls. calls ++ machine_calls adds (fields ++ left) (step adds b m)) stepped.1),
      )

-- what stands behind them can be taken in the header
pub CanTakeAll-in_header : {C : Type 0} (takes : C → ℕ → Type 0) (old new : Parser C) (fields left : List ℕ)
    → new.state ≡ CsiParam → CanTakeAll takes old (fields ++ left) → CanTakeAll takes new left
CanTakeAll-in_header takes old new fields left is can =
    ⊎_elim (λ all. inl all) (λ ascii. inr ((λ inside. absurd (cc (is, inside))), AreBelow-later 0x80 fields left ascii.1)) can

-- So a parser that takes some bytes of fields at once makes no call, and stands in a header that has a field.
module _ {C : Type 0} (takes : C → ℕ → Type 0) (adds : AccumulatorStep C) (old new : Parser C) (bytes left : List ℕ)
    (header : (old.state ≡ CsiEntry) ⊎ (old.state ≡ CsiParam)) (can : CanTakeAll takes old bytes)
    (is : machine_of new ≡ with_header_of (heading_of new.header) (record (machine_of old) { state = CsiParam }))
    (some : length left < length bytes) where
  led_by : (fields : List ℕ) → bytes ≡ fields ++ left → EachIs is_parameter fields
      → heading_of new.header ≡ fold (λ m b. after_param b m) (heading_of old.header) fields → LeadsQuietlyTo takes adds is_parameter old bytes new left
  led_by [] whole each taken = absurd (omega (arith, some, ap length whole))
  led_by (b ∷ fields) whole each taken =
      let m = machine_of old in
      let at : Machine C = record m { state = CsiParam } in
      let ends : machine_of new ≡ fields_after at (b ∷ fields) =
      is ∙ (ap (λ h. with_header_of h at) taken ∙ fields-with_header (b ∷ fields) (heading_of old.header) at) in
      let run = header_run adds b fields [] m header each in
      let all = append-nil (b ∷ fields) in
      record {
        passed = b ∷ fields;
        joined = whole;
        each = each;
        machine = ends ∙ (run.0 ∙ ap (λ l. machine_after adds l m) all);
        none = sym (run.1 ∙ ap (λ l. machine_calls adds l m) all);
        can = CanTakeAll-in_header takes old new (b ∷ fields) left (ap (λ (x : Machine C). x.state) is) (subst (CanTakeAll takes old) whole can);
      }

  pub LeadsQuietlyTo-fields : TakesFields (heading_of old.header) bytes (heading_of new.header) left → LeadsQuietlyTo takes adds is_parameter old bytes new left
  LeadsQuietlyTo-fields fields = led_by fields.fields fields.whole fields.each fields.taken
