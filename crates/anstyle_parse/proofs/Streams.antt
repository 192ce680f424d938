-- What the public calls say of streams, from what they say of the machine.
use Rattle.std.specs.Bool.{OnFalse}
use Rattle.std.proofs.Common.{◌≡◌, Bool, true, false, IsTrue, refl, ◌<◌, ℕ, List, [], ◌∷◌, ◌++◌, ⊎_elim, inl, inr, sym, ap, ◌∙◌, subst, arith, get_or, Option}
use Rattle.std.proofs.lemmas.List.{get_or_default}
use Rattle.std.proofs.lemmas.List.Elements.{recursion_from_All}
use Rattle.anstyle_parse.specs.declared.state.definitions.State.{State}
use Rattle.anstyle_parse.specs.declared.state.definitions.State.TheVariants.{Utf8}
use Rattle.anstyle_parse.specs.declared.parser.Parser.{Parser}
use Rattle.anstyle_parse.specs.Stream.Call.{Call}
use Rattle.anstyle_parse.specs.Stream.Calls.{Continues}
use Rattle.anstyle_parse.specs.Machine.Step.{Machine, AccumulatorStep, step, machine_after, machine_calls}
use Rattle.anstyle_parse.specs.Machine.Stands.{StandsAfter, seen, unseen, Decodes}
use Rattle.anstyle_parse.specs.Views.Parser.{machine_of, CanTake, CanTakeAll, ReachesAccumulator, AreBelow, IsAfter, IsAfterAscii}
use Rattle.anstyle_parse.proofs.Agreement.Whole.{StandsAfter-machine, Continues-machine}
use Rattle.anstyle_parse.proofs.Machine.Seen.{Seen-machine}
use Rattle.anstyle_parse.proofs.Machine.Unseen.{Unseen-step, Unseen-machine, StandsAfter-outside, reached-outside}

-- the bytes of a slice are below 256
pub bytes_below : (bytes : List ℕ) → ((i : ℕ) → get_or bytes i 0 < 256) → AreBelow 256 bytes
bytes_below bytes fits = recursion_from_All (λ b. b < 256) bytes (λ k d lt. omega (arith, fits k, get_or_default bytes k d 0 lt))

pub AreBelow-append : (limit : ℕ) (xs ys : List ℕ) → AreBelow limit xs → AreBelow limit ys → AreBelow limit (xs ++ ys)
AreBelow-append limit [] ys first second = second
AreBelow-append limit (x ∷ xs) ys first second = (first.0, AreBelow-append limit xs ys first.1 second)

-- an accumulator that decodes takes every byte
pub CanTake-may : {C : Type 0} (front : C → List ℕ) (takes : C → ℕ → Type 0) (add : C → ℕ → C × Option ℕ) (adds : AccumulatorStep C) (decodes : Bool) → (IsTrue decodes → Decodes C front takes add adds)
    → (parser : Parser C) (b : ℕ) → b < 256 → OnFalse decodes (CanTake takes adds parser b) → CanTake takes adds parser b
CanTake-may front takes add adds true follows parser b small may =
    let all = (follows refl).takes_bytes in
    ((λ reaches. all parser.accumulator b small), (λ inside breaks reaches. all (adds parser.accumulator b).0 b small))
CanTake-may front takes add adds false follows parser b small may = may

pub CanTakeAll-may : {C : Type 0} (front : C → List ℕ) (takes : C → ℕ → Type 0) (add : C → ℕ → C × Option ℕ) (adds : AccumulatorStep C) (decodes : Bool) → (IsTrue decodes → Decodes C front takes add adds)
    → (parser : Parser C) (bytes : List ℕ) → OnFalse decodes (CanTakeAll takes parser bytes) → CanTakeAll takes parser bytes
CanTakeAll-may front takes add adds true follows parser bytes may = inl (λ value b small. (follows refl).takes_bytes value b small)
CanTakeAll-may front takes add adds false follows parser bytes may = may

module _ {C : Type 0} (takes : C → ℕ → Type 0) where
  -- the first of some bytes can be taken
  pub CanTake-first : (adds : AccumulatorStep C) (parser : Parser C) (b : ℕ) (bytes : List ℕ) → b < 256 → CanTakeAll takes parser (b ∷ bytes) → CanTake takes adds parser b
  CanTake-first adds parser b bytes small can =
      ⊎_elim
      (λ all. ((λ reaches. all parser.accumulator b small), (λ inside breaks reaches. all (adds parser.accumulator b).0 b small)))
      (λ ascii. reached-outside (λ value. takes value b) adds parser.state parser.accumulator b ascii.1.0 ascii.0)
      can

  -- and where no byte reaches it
  pub CanTake-in : (adds : AccumulatorStep C) (parser : Parser C) (state : State) (b : ℕ) → parser.state ≡ state → (ReachesAccumulator state b → ⊥) → CanTake takes adds parser b
  CanTake-in adds parser state b is unreached = (
    (λ reaches. absurd (unreached (subst (λ s. ReachesAccumulator s b) is reaches))),
    (λ inside breaks reaches. absurd (unreached (subst (λ s. ReachesAccumulator s b) (sym inside ∙ is) tt))),
  )

  -- and then the others
  pub CanTakeAll-rest : (adds : AccumulatorStep C) (old new : Parser C) (b : ℕ) (bytes : List ℕ) → machine_of new ≡ step adds b (machine_of old)
      → CanTakeAll takes old (b ∷ bytes) → CanTakeAll takes new bytes
  CanTakeAll-rest adds old new b bytes stepped can =
      ⊎_elim
      (λ all. inl all)
      (λ ascii. inr ((λ inside. (Unseen-step adds b ascii.1.0 (machine_of old) ascii.0).2 (sym (ap (λ (m : Machine C). m.state) stepped) ∙ inside)), ascii.1.1))
      can

module _ {C : Type 0} (front : C → List ℕ) (takes : C → ℕ → Type 0) (add : C → ℕ → C × Option ℕ) (adds : AccumulatorStep C) (decodes : Decodes C front takes add adds)
    (old new : Parser C) (bytes : List ℕ) (below : AreBelow 256 bytes) (taken : machine_of new ≡ machine_after adds bytes (machine_of old))
    (before : List ℕ) (stands : IsAfter front old before) where
  pub IsAfter-taken : IsAfter front new (before ++ bytes)
  IsAfter-taken =
      let Q : Machine (List ℕ) → Type 0 = λ m. StandsAfter m (before ++ bytes) in
      subst Q (sym (ap (seen front) taken ∙ (Seen-machine front takes add adds decodes bytes below (machine_of old)).0))
      (StandsAfter-machine (seen front (machine_of old)) before bytes stands)

  pub Continues-taken : Continues before bytes (machine_calls adds bytes (machine_of old))
  Continues-taken =
      let Q : List Call → Type 0 = λ calls. Continues before bytes calls in
      subst Q (sym (Seen-machine front takes add adds decodes bytes below (machine_of old)).1) (Continues-machine (seen front (machine_of old)) before bytes stands)

module _ {C : Type 0} (adds : AccumulatorStep C)
    (old new : Parser C) (bytes : List ℕ) (below : AreBelow 0x80 bytes) (taken : machine_of new ≡ machine_after adds bytes (machine_of old))
    (before : List ℕ) (stands : IsAfterAscii old before) where
  outside : old.state ≡ Utf8 → ⊥
  outside = StandsAfter-outside (unseen (machine_of old)) before stands.0 stands.1

  pub IsAfterAscii-taken : IsAfterAscii new (before ++ bytes)
  IsAfterAscii-taken =
      let Q : Machine (List ℕ) → Type 0 = λ m. StandsAfter m (before ++ bytes) in (
        AreBelow-append 0x80 before bytes stands.0 below,
        subst Q (sym (ap unseen taken ∙ (Unseen-machine adds bytes below (machine_of old) outside).0))
            (StandsAfter-machine (unseen (machine_of old)) before bytes stands.1),
      )

  pub Continues-ascii : Continues before bytes (machine_calls adds bytes (machine_of old))
  Continues-ascii =
      let Q : List Call → Type 0 = λ calls. Continues before bytes calls in
      subst Q (sym (Unseen-machine adds bytes below (machine_of old) outside).1) (Continues-machine (unseen (machine_of old)) before bytes stands.1)
