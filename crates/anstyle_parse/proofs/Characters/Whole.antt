-- A whole well-formed sequence, given to the decoder of UTF-8 byte by byte.
use Rattle.std.proofs.Common.{◌≡◌, ℕ, ◌<◌, ◌≤◌, IsTrue, false, List, [], ◌∷◌, ◌++◌, length, Option, None, Some, refl, ap, sym, ◌∙◌, subst, inl, inr, arith, append_assoc}
use Rattle.std.specs.Prelude.{nat_lt, nat_le, IfSome}
use Rattle.std.proofs.lemmas.Bool.{cond-true, cond-false, and_from, and_parts, leb-true, le-ltb, false≢true}
use Rattle.std.proofs.Math.Bool.{and-true, and-false, or-false}
use Rattle.anstyle_parse.specs.Stream.Bytes.{is_within}
use Rattle.anstyle_parse.specs.declared.utf8.Front.{Front}
use Rattle.anstyle_parse.specs.declared.utf8.Taken.{Taken}
use Rattle.anstyle_parse.specs.declared.utf8.Taken.TheVariants.{More, Char}
use Rattle.anstyle_parse.specs.declared.accumulator.Utf8Parser.{Utf8Parser}
use Rattle.anstyle_parse.specs.declared.utf8.Front.TheVariants.{Empty}
use Rattle.anstyle_parse.specs.Stream.Characters.{is_well_formed, is_proper_front, is_lead, character_of, BeginWithWhole}
use Rattle.anstyle_parse.specs.Machine.Decoder.{started, continued, decoded}
use Rattle.anstyle_parse.specs.Views.Front.{front_with, is_front_of}
use Rattle.anstyle_parse.specs.Views.Accumulator.{parser_after}
use Rattle.anstyle_parse.specs.Views.DecodingProof.{length-proper_front-lt, bytes_of-front_with}
use Rattle.anstyle_parse.specs.Machine.Step.{Completes, IsWhole}
use Rattle.anstyle_parse.proofs.Characters.Decoder.{is_well_formed-two, is_well_formed-three, is_well_formed-four}
use Rattle.anstyle_parse.proofs.Characters.Table.{is_lead-front, is_front-well_formed, is_well_formed-nil, is_well_formed-proper, is_proper_front-before, is_proper_front-lead}

holding : List ℕ → Utf8Parser
holding front = record { decoder = front_with front }

-- a byte that completes a character, and one that goes on with it
continued-whole : (bytes : List ℕ) → IsTrue (is_well_formed bytes) → continued bytes ≡ ([], Char (character_of bytes))
continued-whole bytes whole = cond-true (is_well_formed bytes) _ _ whole

continued-proper : (bytes : List ℕ) → IsTrue (is_proper_front bytes) → continued bytes ≡ (bytes, More)
continued-proper bytes proper =
    cond-false (is_well_formed bytes) _ _ (is_well_formed-proper bytes proper) ∙ cond-true (is_proper_front bytes) _ _ proper

-- the answer to a byte after a front
after_front : (a : ℕ) (x : List ℕ) (b : ℕ) → length (a ∷ x) < 4
    → parser_after (holding (a ∷ x)) b ≡ (holding (continued (a ∷ (x ++ b ∷ []))).0, (continued (a ∷ (x ++ b ∷ []))).1)
unfolding holding
after_front a x b short =
    ap (λ (front : List ℕ). (holding (decoded front b).0, (decoded front b).1)) (bytes_of-front_with (a ∷ x) short)

completes : (a : ℕ) (x : List ℕ) (b : ℕ) (more left : List ℕ) → IsTrue (is_proper_front (a ∷ x)) → IsTrue (is_well_formed (a ∷ (x ++ b ∷ more)))
    → Completes parser_after (holding []) (holding (a ∷ x)) (b ∷ (more ++ left)) (character_of (a ∷ (x ++ b ∷ more))) left
completes a x b [] left proper whole =
    inl (
      after_front a x b (length-proper_front-lt (a ∷ x) proper)
          ∙ ap (λ (step : List ℕ × Taken). (holding step.0, step.1)) (continued-whole (a ∷ (x ++ b ∷ [])) whole),
      refl,
    )
completes a x b (d ∷ more) left proper whole =
    let joined : x ++ b ∷ (d ∷ more) ≡ (x ++ b ∷ []) ++ d ∷ more = sym (append_assoc x (b ∷ []) (d ∷ more)) in
    let Q : List ℕ → Type 0 = λ l. IsTrue (is_well_formed (a ∷ l)) in
    let whole_there = subst Q joined whole in
    let proper_there = is_proper_front-before a (x ++ b ∷ []) d more whole_there in
    let after = after_front a x b (length-proper_front-lt (a ∷ x) proper)
    ∙ ap (λ (step : List ℕ × Taken). (holding step.0, step.1)) (continued-proper (a ∷ (x ++ b ∷ [])) proper_there) in
    let further = completes a (x ++ b ∷ []) d more left proper_there whole_there in
    let R : Utf8Parser → Type 0 = λ now. Completes parser_after (holding []) now (d ∷ (more ++ left)) (character_of (a ∷ (x ++ b ∷ (d ∷ more)))) left in
    let S : List ℕ → Type 0 = λ l. Completes parser_after (holding []) (holding (a ∷ (x ++ b ∷ []))) (d ∷ (more ++ left)) (character_of (a ∷ l)) left in
    inr (ap (λ (step : Utf8Parser × Taken). step.1) after, subst R (sym (ap (λ (step : Utf8Parser × Taken). step.0) after)) (subst S (sym joined) further))

-- a lead byte begins a front
started-lead : (a : ℕ) → IsTrue (is_lead a) → started a ≡ (a ∷ [], More)
unfolding is_lead is_within
started-lead a lead =
    let high : 0xC2 ≤ a = leb-true 0xC2 a (and_parts (nat_le 0xC2 a) (nat_le a 0xF4) lead).0 in
    cond-false (nat_lt a 0x80) _ _ (le-ltb a 0x80 (omega arith)) ∙ cond-true (is_lead a) _ _ lead

-- from the lead byte on
IsWhole-sequence : (a b : ℕ) (more left : List ℕ) → IsTrue (is_well_formed (a ∷ (b ∷ more)))
    → IsWhole parser_after (holding []) a (b ∷ (more ++ left)) (character_of (a ∷ (b ∷ more))) left
unfolding holding
IsWhole-sequence a b more left whole =
    let lead = is_lead-front a (b ∷ more) (is_front-well_formed (a ∷ (b ∷ more)) whole) in
    let after : parser_after (holding []) a ≡ (holding (a ∷ []), More) =
    ap (λ (step : List ℕ × Taken). (holding step.0, step.1)) (started-lead a lead) in
    let Q : Utf8Parser → Type 0 = λ now. Completes parser_after (holding []) now (b ∷ (more ++ left)) (character_of (a ∷ (b ∷ more))) left in (
      lead,
      ap (λ (step : Utf8Parser × Taken). step.1) after,
      subst Q (sym (ap (λ (step : Utf8Parser × Taken). step.0) after))
          (completes a [] b more left (is_proper_front-lead a lead) whole),
    )

is_well_formed-one : (a : ℕ) → is_well_formed (a ∷ []) ≡ false
unfolding is_well_formed
is_well_formed-one a = simp (and-true, and-false, or-false)

begins_at : (whole : List ℕ) (first : ℕ) (behind : List ℕ) (left : List ℕ) → IsTrue (is_well_formed whole) → first ∷ behind ≡ whole ++ left
    → IsWhole parser_after (holding []) first behind (character_of whole) left
begins_at [] first behind left well_formed joined = absurd (false≢true (sym is_well_formed-nil ∙ well_formed))
begins_at (a ∷ []) first behind left well_formed joined = absurd (false≢true (sym (is_well_formed-one a) ∙ well_formed))
begins_at (a ∷ b ∷ more) first behind left well_formed joined =
    let Q : ℕ → Type 0 = λ x. IsWhole parser_after (holding []) x behind (character_of (a ∷ (b ∷ more))) left in
    let R : List ℕ → Type 0 = λ x. IsWhole parser_after (holding []) a x (character_of (a ∷ (b ∷ more))) left in
    let same_first : a ≡ first = cc in
    let same_rest : b ∷ (more ++ left) ≡ behind = cc in
    subst Q same_first (subst R same_rest (IsWhole-sequence a b more left well_formed))

-- what begins with a whole sequence is one for the decoder that holds nothing
pub IsWhole-begins : (parser : Utf8Parser) (first : ℕ) (behind : List ℕ) (c : ℕ) (left : List ℕ) → parser.decoder ≡ Empty
    → BeginWithWhole (first ∷ behind) c left → IsWhole parser_after parser first behind c left
unfolding holding
IsWhole-begins parser first behind c left empty begins =
    let Q : Utf8Parser → Type 0 = λ value. IsWhole parser_after value first behind c left in
    let R : ℕ → Type 0 = λ x. IsWhole parser_after (holding []) first behind x left in
    subst Q (ap (λ (front : Front). let r : Utf8Parser = record { decoder = front } in r) (sym empty))
    (subst R (sym begins.2) (begins_at begins.0 first behind left begins.1 begins.3))

pub IfSome-weaker : {X : Type 0} (P Q : X → Type 0) (answer : Option X) → ((x : X) → P x → Q x) → IfSome answer P → IfSome answer Q
IfSome-weaker P Q None weaker holds = tt
IfSome-weaker P Q (Some x) weaker holds = weaker x holds

-- the tests of the bytes, one after another
module _ (a b : ℕ) (left : List ℕ) where
  pub begin_two : IsTrue (is_front_of 2 (a ∷ b ∷ [])) → BeginWithWhole (a ∷ (b ∷ left)) (character_of (a ∷ b ∷ [])) left
  begin_two front = (a ∷ b ∷ [], is_well_formed-two a b ∙ front, refl, refl)

  pub begin_three : (c : ℕ) → IsTrue (is_front_of 3 (a ∷ b ∷ [])) → IsTrue (is_within 0x80 0xBF c)
      → BeginWithWhole (a ∷ (b ∷ (c ∷ left))) (character_of (a ∷ b ∷ c ∷ [])) left
  begin_three c front third = (a ∷ b ∷ c ∷ [], is_well_formed-three a b c ∙ and_from _ _ front third, refl, refl)

  pub begin_four : (c d : ℕ) → IsTrue (is_front_of 4 (a ∷ b ∷ [])) → IsTrue (is_within 0x80 0xBF c) → IsTrue (is_within 0x80 0xBF d)
      → BeginWithWhole (a ∷ (b ∷ (c ∷ (d ∷ left)))) (character_of (a ∷ b ∷ c ∷ d ∷ [])) left
  begin_four c d front third fourth = (a ∷ b ∷ c ∷ d ∷ [], is_well_formed-four a b c d ∙ and_from _ _ front (and_from _ _ third fourth), refl, refl)
