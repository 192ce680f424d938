-- What is read of a log: which bytes are read as they are, and what is read of bytes one after another.
use Rattle.std.proofs.Common.{◌≡◌, ℕ, ◌<◌, arith, Bool, IsTrue, true, false, eqb, eqb-true, refl, List, [], ◌∷◌, ◌++◌, ap, sym, ◌∙◌, append_assoc}
use Rattle.std.specs.Prelude.{◌&&◌, ⊤}
use Rattle.std.proofs.lemmas.Bool.{and_left, and_right, cond-true, cond-false, cond_both, false_from_ne_true, false≢true, or_from}
use Rattle.anstyle_parse.specs.declared.state.definitions.State.{State}
use Rattle.anstyle_parse.specs.declared.state.definitions.State.TheVariants.{Anywhere, Ground, Utf8}
use Rattle.anstyle_parse.specs.Stream.Bytes.{is_within, bell, string_terminator}
use Rattle.anstyle_parse.specs.Stream.Characters.{is_lead}
use Rattle.anstyle_parse.specs.Stream.Items.{EachIs}
use Rattle.anstyle_parse.specs.Machine.Step.{Machine, AccumulatorStep, step, machine_after}
use Rattle.anstyle_parse.specs.Machine.Stands.{counted, counted_in}
use Rattle.anstyle_parse.specs.Machine.AsRead.{is_stray, is_at_ground, is_in_ignored_string, is_in_terminated_string, replacement_text, string_end, heard, read_for, read_from}
use Rattle.anstyle_parse.proofs.Agreement.Whole.{machine_after-append}
use Rattle.anstyle_parse.proofs.Characters.Encoding.{within_parts}
use Rattle.anstyle_parse.proofs.Machine.Counted.{counted_in-state, same_machine}

-- a byte that is no stray one: one below 80, and one that begins a character
not_stray-low : (b : ℕ) → b < 0x80 → is_stray b ≡ false
unfolding is_stray
not_stray-low b low =
    or_from (is_within 0x80 0xC1 b) (is_within 0xF5 0xFF b)
    (false_from_ne_true (is_within 0x80 0xC1 b) (λ h. let ends = within_parts 0x80 0xC1 b h in omega (arith, ends.0)))
    (false_from_ne_true (is_within 0xF5 0xFF b) (λ h. let ends = within_parts 0xF5 0xFF b h in omega (arith, ends.0)))

not_stray-lead : (b : ℕ) → IsTrue (is_lead b) → is_stray b ≡ false
unfolding is_stray is_lead
not_stray-lead b lead =
    let bounds = within_parts 0xC2 0xF4 b lead in
    or_from (is_within 0x80 0xC1 b) (is_within 0xF5 0xFF b)
    (false_from_ne_true (is_within 0x80 0xC1 b) (λ h. let ends = within_parts 0x80 0xC1 b h in omega (arith, ends.1, bounds.0)))
    (false_from_ne_true (is_within 0xF5 0xFF b) (λ h. let ends = within_parts 0xF5 0xFF b h in omega (arith, ends.0, bounds.1)))

not_bell : (b : ℕ) → (b ≡ 7 → ⊥) → eqb b bell ≡ false
not_bell b other = false_from_ne_true (eqb b bell) (λ h. other (eqb-true b bell h))

lead_no_bell : (b : ℕ) → IsTrue (is_lead b) → b ≡ 7 → ⊥
unfolding is_lead
lead_no_bell b lead bell = let bounds = within_parts 0xC2 0xF4 b lead in omega (arith, bounds.0, bell)

-- which bytes are heard as they are
heard-same : (b : ℕ) → (b ≡ 0x9C → ⊥) → heard b ≡ b
unfolding heard
heard-same b other = cond-false (eqb b string_terminator) 0x9D b (false_from_ne_true (eqb b string_terminator) (λ h. other (eqb-true b string_terminator h)))

heard-not_stray : (b : ℕ) → is_stray b ≡ false → heard b ≡ b
unfolding is_stray is_within
heard-not_stray b kept = heard-same b (λ h. false≢true (sym kept ∙ ap is_stray h))

-- what is heard is heard as it is
pub heard-again : (b : ℕ) → heard (heard b) ≡ heard b
unfolding heard
heard-again b = cond_both (eqb b string_terminator) 0x9D b (λ n. heard n ≡ n) (λ is. refl) (λ other. cond-false (eqb b string_terminator) 0x9D b other)

-- and BEL alone is heard as BEL
pub heard-bell : (b : ℕ) → eqb (heard b) bell ≡ eqb b bell
unfolding heard
heard-bell b =
    cond_both (eqb b string_terminator) 0x9D b (λ n. eqb n bell ≡ eqb b bell)
    (λ is. sym (ap (λ n. eqb n bell) (eqb-true b string_terminator is))) (λ other. refl)

-- in such a string no byte is handled in the ground state
pub string-elsewhere : {A : Type 0} (taken : AccumulatorStep A) (state : State) (value : A) (b : ℕ) → is_in_terminated_string state ≡ true → is_at_ground taken state value b ≡ false
string-elsewhere taken Ground value b e = absurd (false≢true e)
string-elsewhere taken Utf8 value b e = absurd (false≢true e)
string-elsewhere taken state value b e = refl

module _ {A : Type 0} (taken : AccumulatorStep A) where
  -- what is read for a byte, in the four cases
  module _ (state : State) (value : A) (b : ℕ) where
    pub read_for-stray : (is_at_ground taken state value b && is_stray b) ≡ true → read_for taken state value b ≡ replacement_text
    read_for-stray is = cond-true _ _ _ is

    pub read_for-end : (is_at_ground taken state value b && is_stray b) ≡ false → (is_in_ignored_string state && eqb b bell) ≡ true
        → read_for taken state value b ≡ string_end
    read_for-end other is = cond-false _ _ _ other ∙ cond-true _ _ _ is

    pub read_for-text : (is_at_ground taken state value b && is_stray b) ≡ false → (is_in_ignored_string state && eqb b bell) ≡ false
        → is_in_terminated_string state ≡ true → read_for taken state value b ≡ heard b ∷ []
    read_for-text other another is = cond-false _ _ _ other ∙ cond-false _ _ _ another ∙ cond-true _ _ _ is

    pub read_for-other : (is_at_ground taken state value b && is_stray b) ≡ false → (is_in_ignored_string state && eqb b bell) ≡ false
        → is_in_terminated_string state ≡ false → read_for taken state value b ≡ b ∷ []
    read_for-other other another outside = cond-false _ _ _ other ∙ cond-false _ _ _ another ∙ cond-false _ _ _ outside

    -- in a string or not
    read_for-same : (is_at_ground taken state value b && is_stray b) ≡ false → (is_in_ignored_string state && eqb b bell) ≡ false
        → heard b ≡ b → read_for taken state value b ≡ b ∷ []
    read_for-same other another same =
        cond-false _ _ _ other ∙ cond-false _ _ _ another
        ∙ cond_both {A = List ℕ} (is_in_terminated_string state) (heard b ∷ []) (b ∷ []) (λ l. l ≡ b ∷ []) (λ is. ap (λ n. n ∷ []) same) (λ outside. refl)

    -- but for 9C
    pub read_for-heard : (is_at_ground taken state value b && is_stray b) ≡ false → (is_in_ignored_string state && eqb b bell) ≡ false
        → (is_in_terminated_string state && eqb b string_terminator) ≡ false → read_for taken state value b ≡ b ∷ []
    unfolding heard
    read_for-heard other another further =
        cond-false _ _ _ other ∙ cond-false _ _ _ another
        ∙ cond_both {A = List ℕ} (is_in_terminated_string state) (heard b ∷ []) (b ∷ []) (λ l. l ≡ b ∷ [])
        (λ is. ap (λ n. n ∷ []) (cond-false (eqb b string_terminator) 0x9D b (sym (ap (λ t. t && eqb b string_terminator) is) ∙ further)))
        (λ outside. refl)

    -- by the byte alone
    pub read_for-plain : is_stray b ≡ false → (b ≡ 7 → ⊥) → read_for taken state value b ≡ b ∷ []
    read_for-plain kept other =
        read_for-same (and_right (is_at_ground taken state value b) (is_stray b) kept)
        (and_right (is_in_ignored_string state) (eqb b bell) (not_bell b other)) (heard-not_stray b kept)

    pub read_for-low : b < 0x80 → (b ≡ 7 → ⊥) → read_for taken state value b ≡ b ∷ []
    read_for-low low other = read_for-plain (not_stray-low b low) other

    pub read_for-no_string : b < 0x80 → is_in_ignored_string state ≡ false → read_for taken state value b ≡ b ∷ []
    read_for-no_string low another =
        read_for-same (and_right (is_at_ground taken state value b) (is_stray b) (not_stray-low b low))
        (and_left (is_in_ignored_string state) (eqb b bell) another) (heard-same b (λ h. omega (arith, h)))

    pub read_for-lead : IsTrue (is_lead b) → read_for taken state value b ≡ b ∷ []
    read_for-lead lead = read_for-plain (not_stray-lead b lead) (lead_no_bell b lead)

    -- by the state alone
    pub read_for-in : is_at_ground taken state value b ≡ false → is_in_ignored_string state ≡ false → is_in_terminated_string state ≡ false
        → read_for taken state value b ≡ b ∷ []
    read_for-in outside another elsewhere =
        read_for-other (and_left (is_at_ground taken state value b) (is_stray b) outside) (and_left (is_in_ignored_string state) (eqb b bell) another) elsewhere

  -- From this machine these bytes are read as they are, whatever follows.
  unfoldable pub AreReadAsTheyAre : Machine A → List ℕ → Type 0
  AreReadAsTheyAre m bytes = (further : List ℕ) → read_from taken m (bytes ++ further) ≡ bytes ++ read_from taken (machine_after taken bytes m) further

  pub as_they_are-none : (m : Machine A) → AreReadAsTheyAre m []
  unfolding AreReadAsTheyAre
  as_they_are-none m further = refl

  pub as_they_are-byte : (m : Machine A) (b : ℕ) → read_for taken m.state m.accumulator b ≡ b ∷ [] → AreReadAsTheyAre m (b ∷ [])
  unfolding AreReadAsTheyAre
  as_they_are-byte m b is further = ap (λ read. read ++ read_from taken (machine_after taken read m) further) is

  pub as_they_are-more : (m : Machine A) (b : ℕ) (bytes : List ℕ) → read_for taken m.state m.accumulator b ≡ b ∷ []
      → AreReadAsTheyAre (step taken b m) bytes → AreReadAsTheyAre m (b ∷ bytes)
  unfolding AreReadAsTheyAre
  as_they_are-more m b bytes is others further =
      ap (λ read. read ++ read_from taken (machine_after taken read m) (bytes ++ further)) is ∙ ap (λ l. b ∷ l) (others further)

  pub as_they_are-append : (m : Machine A) (xs ys : List ℕ) → AreReadAsTheyAre m xs → AreReadAsTheyAre (machine_after taken xs m) ys → AreReadAsTheyAre m (xs ++ ys)
  unfolding AreReadAsTheyAre
  as_they_are-append m xs ys first second further =
      ap (read_from taken m) (append_assoc xs ys further)
      ∙ first (ys ++ further)
      ∙ ap (λ l. xs ++ l) (second further ∙ ap (λ x. ys ++ read_from taken x further) (sym (machine_after-append taken xs ys m)))
      ∙ sym (append_assoc xs ys (read_from taken (machine_after taken (xs ++ ys) m) further))

  -- bytes that pass a test, from a machine of which something holds that they keep
  pub as_they_are-each : (Holds : Machine A → Type 0) (test : ℕ → Bool)
      → ((m : Machine A) (b : ℕ) → Holds m → IsTrue (test b) → (read_for taken m.state m.accumulator b ≡ b ∷ []) × Holds (step taken b m))
      → (m : Machine A) (bytes : List ℕ) → Holds m → EachIs test bytes → AreReadAsTheyAre m bytes
  as_they_are-each Holds test one m [] holds each = as_they_are-none m
  as_they_are-each Holds test one m (b ∷ bytes) holds each =
      let first = one m b holds each.0 in
      as_they_are-more m b bytes first.0 (as_they_are-each Holds test one (step taken b m) bytes first.1 each.1)

  -- bytes that are read as they are wherever they stand
  pub as_they_are-plain : (test : ℕ → Bool) → ((b : ℕ) → IsTrue (test b) → (b < 0x80) × (b ≡ 7 → ⊥))
      → (m : Machine A) (bytes : List ℕ) → EachIs test bytes → AreReadAsTheyAre m bytes
  as_they_are-plain test plain m bytes each =
      as_they_are-each (λ r. ⊤) test
      (λ r b holds passes. let is = plain b passes in (read_for-low r.state r.accumulator b is.0 is.1, tt)) m bytes tt each

  -- what is read of bytes and of more
  pub read_from-append : (m : Machine A) (xs ys : List ℕ)
      → read_from taken m (xs ++ ys) ≡ read_from taken m xs ++ read_from taken (machine_after taken (read_from taken m xs) m) ys
  read_from-append m [] ys = refl
  read_from-append m (b ∷ xs) ys =
      let read = read_for taken m.state m.accumulator b in
      let next = machine_after taken read m in
      let others = read_from taken next xs in
      ap (λ l. read ++ l) (read_from-append next xs ys)
      ∙ sym (append_assoc read others (read_from taken (machine_after taken others next) ys))
      ∙ ap (λ x. (read ++ others) ++ read_from taken x ys) (sym (machine_after-append taken read others m))

-- the state and the accumulator count
accumulator-counted_in : {A : Type 0} (state : State) (m : Machine A) → (counted_in state m).accumulator ≡ m.accumulator
accumulator-counted_in Anywhere m = refl
accumulator-counted_in state m = refl

-- so machines of which the same counts read the same
pub read_from-counted : {A : Type 0} (taken : AccumulatorStep A) (m n : Machine A) → counted m ≡ counted n → (bytes : List ℕ) → read_from taken m bytes ≡ read_from taken n bytes
read_from-counted taken m n same [] = refl
read_from-counted {A = A} taken m n same (b ∷ bytes) =
    let states : m.state ≡ n.state = sym (counted_in-state m.state m) ∙ ap (λ (r : Machine A). r.state) same ∙ counted_in-state n.state n in
    let values : m.accumulator ≡ n.accumulator =
    sym (accumulator-counted_in m.state m) ∙ ap (λ (r : Machine A). r.accumulator) same ∙ accumulator-counted_in n.state n in
    let read = read_for taken m.state m.accumulator b in
    let reads : read ≡ read_for taken n.state n.accumulator b =
    ap (λ s. read_for taken s m.accumulator b) states ∙ ap (λ value. read_for taken n.state value b) values in
    ap (λ l. read ++ l)
    (read_from-counted taken (machine_after taken read m) (machine_after taken read n) (same_machine taken read m n same).0 bytes)
    ∙ ap (λ l. l ++ read_from taken (machine_after taken l n) bytes) reads
