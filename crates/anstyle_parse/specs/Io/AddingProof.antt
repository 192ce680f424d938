-- No definition, but proofs: the language wants those of a trait's laws among the specs.
-- Texts handed to an output one after another are one text, and so are those of a list of calls.
use Rattle.std.specs.List.{flat_map}
use Rattle.std.proofs.Common.{◌≡◌, ℕ, List, [], ◌∷◌, ◌++◌, Option, None, Some, Result, Err, ◌⊎◌, inl, inr, refl, sym, ap, ◌∙◌, subst, append_assoc, append-nil}
use Rattle.std.proofs.lemmas.Grind.{flat_map-append}
use Rattle.std.proofs.KnownBytes.{Appends-nil, Appends-trans}
use Rattle.std.specs.Prelude.{MatchOption}
use Rattle.std.specs.Io.KnownBytes.{Keeps, Appends}
use Rattle.anstyle_parse.specs.declared.io.Fault.{Fault}
use Rattle.anstyle_parse.specs.declared.io.Fault.TheVariants.{Write}
use Rattle.anstyle_parse.specs.declared.io.devices.Sink.{Ghosts as SinkOf}
use Rattle.anstyle_parse.specs.declared.io.output.Output.{Output}
use Rattle.anstyle_parse.specs.declared.canon.writer.CanonWriter.{CanonWriter}
use Rattle.anstyle_parse.specs.Stream.Call.{Call, Goes}
use Rattle.anstyle_parse.specs.Stream.Canon.{call_text, canon}
use Rattle.anstyle_parse.specs.Stream.Texts.{FollowsCalls}
use Rattle.anstyle_parse.specs.Views.CanonWriter.{output_of}
use Rattle.anstyle_parse.specs.Io.Output.{writer_in, fault_in, AddsAll, AddsPrefix, Adds, AddsTexts, Flushes}

-- what becomes of a text, and how an output ends, by the fault that is kept
abbrev pub AddsAt : {W : Type 0} → Option Fault → SinkOf W → List ℕ → Output W → Output W → Type 0
AddsAt fault sink text old new =
    MatchOption fault (AddsAll sink text old new ⊎ AddsPrefix sink text old new) (λ _. new ≡ old)

abbrev pub FinishesAt : {W T : Type 0} → Option Fault → SinkOf W → W → W → Result T Fault → Type 0
FinishesAt fault sink old new answer =
    MatchOption fault (Keeps (sink.contents old) (sink.contents new) × Flushes sink answer old new)
    (λ kept. (new ≡ old) × (answer ≡ Err kept))

-- a list that is empty with another after it is empty
prefix_nil : (xs ys : List ℕ) → xs ++ ys ≡ [] → xs ≡ []
prefix_nil [] ys e = refl
prefix_nil (x ∷ xs) ys e = cc

module _ {W : Type 0} (sink : SinkOf W) where
  Adds-nil_at : (fault : Option Fault) (a : Output W) → fault_in a ≡ fault → AddsAt fault sink [] a a
  Adds-nil_at (Some fault) a kept = refl
  Adds-nil_at None a kept =
      inl (record { written = Appends-nil (sink.contents (writer_in a)); no_fault = kept; not_failed = refl })

  -- where a fault is kept, nothing changes
  pub Adds-stopped : (fault : Fault) (t : List ℕ) (a b : Output W) → fault_in a ≡ Some fault → Adds sink t a b → b ≡ a
  Adds-stopped fault t a b kept added = subst (λ f. AddsAt f sink t a b) kept added

  -- no text changes nothing
  pub Adds-nil : (a : Output W) → Adds sink [] a a
  Adds-nil a = Adds-nil_at (fault_in a) a refl

  -- all of a text, and then what becomes of a further one
  AddsAll-append : (t u : List ℕ) (a b c : Output W)
      → AddsAll sink t a b → AddsAt None sink u b c → AddsAt None sink (t ++ u) a c
  AddsAll-append t u a b c first (inl second) = inl (record {
    written = Appends-trans _ _ _ _ _ first.written second.written;
    no_fault = second.no_fault;
    not_failed = second.not_failed ∙ first.not_failed;
  })
  AddsAll-append t u a b c first (inr second) = inr (record {
    prefix = t ++ second.prefix;
    rest = second.rest;
    joined = ap (λ l. t ++ l) second.joined ∙ sym (append_assoc t second.prefix second.rest);
    proper = second.proper;
    written = Appends-trans _ _ _ _ _ first.written second.written;
    fault = second.fault;
    failed = second.failed;
    was_a_write = second.was_a_write;
  })

  -- after a prefix nothing follows
  AddsPrefix-append : (t u : List ℕ) (a b c : Output W) → AddsPrefix sink t a b → c ≡ b → AddsAt None sink (t ++ u) a c
  AddsPrefix-append t u a b c first same = inr (record {
    prefix = first.prefix;
    rest = first.rest ++ u;
    joined = ap (λ l. l ++ u) first.joined ∙ append_assoc first.prefix first.rest u;
    proper = λ none. first.proper (prefix_nil first.rest u none);
    written =
        subst (λ (o : Output W). Appends (sink.contents (writer_in a)) (sink.contents (writer_in o)) first.prefix)
        (sym same) first.written;
    fault = ap fault_in same ∙ first.fault;
    failed = ap (λ o. sink.has_failed (writer_in o)) same ∙ first.failed;
    was_a_write = subst (λ (o : Output W). sink.failed_as (writer_in o) Write) (sym same) first.was_a_write;
  })

  -- the same by the fault that was kept before both
  module _ (t u : List ℕ) (a b c : Output W) (second : Adds sink u b c) where
    Adds-append_at : (fault : Option Fault) → fault_in a ≡ fault → AddsAt fault sink t a b
        → AddsAt fault sink (t ++ u) a c
    Adds-append_at (Some fault) kept same = Adds-stopped fault u b c (ap fault_in same ∙ kept) second ∙ same
    Adds-append_at None kept (inl first) =
        AddsAll-append t u a b c first (subst (λ f. AddsAt f sink u b c) first.no_fault second)
    Adds-append_at None kept (inr first) =
        AddsPrefix-append t u a b c first (Adds-stopped _ u b c first.fault second)

  -- a text and then a further one are both, joined
  pub Adds-append : (t u : List ℕ) (a b c : Output W) → Adds sink t a b → Adds sink u b c → Adds sink (t ++ u) a c
  Adds-append t u a b c first second = Adds-append_at t u a b c second (fault_in a) refl first

  -- What a list of calls adds: a performer, seen as its output, that adds the text of each
  -- call adds the texts of all, joined.
  pub Adds-calls : {P : Type 0} (output_of : P → Output W) (text : Call → List ℕ) (calls : List Call) (a b : P)
      → Goes (λ old call new. Adds sink (text call) (output_of old) (output_of new)) a calls b
      → Adds sink (flat_map text calls) (output_of a) (output_of b)
  Adds-calls output_of text [] a b same =
      subst (λ o. Adds sink [] (output_of a) (output_of o)) (sym same) (Adds-nil (output_of a))
  Adds-calls output_of text (call ∷ calls) a b (mid, first, others) =
      Adds-append (text call) (flat_map text calls) (output_of a) (output_of mid) (output_of b)
      first (Adds-calls output_of text calls mid b others)

  -- the laws of a performer that adds the text of each call
  module _ {P : Type 0} (output_of : P → Output W) (text : Call → List ℕ) where
    AddsTexts-none : (performer : P) → AddsTexts sink output_of text performer [] performer
    AddsTexts-none performer = Adds-nil (output_of performer)

    AddsTexts-one : (old : P) (call : Call) (new : P) → Adds sink (text call) (output_of old) (output_of new)
        → AddsTexts sink output_of text old (call ∷ []) new
    AddsTexts-one old call new added =
        subst (λ t. Adds sink t (output_of old) (output_of new)) (sym (append-nil (text call))) added

    AddsTexts-more : (old middle new : P) (calls more : List Call)
        → AddsTexts sink output_of text old calls middle → AddsTexts sink output_of text middle more new
        → AddsTexts sink output_of text old (calls ++ more) new
    AddsTexts-more old middle new calls more first second =
        subst (λ t. Adds sink t (output_of old) (output_of new)) (sym (flat_map-append text calls more))
        (Adds-append (flat_map text calls) (flat_map text more)
        (output_of old) (output_of middle) (output_of new) first second)

    pub AddsTexts-follows : FollowsCalls (λ old call new. Adds sink (text call) (output_of old) (output_of new)) (AddsTexts sink output_of text)
    AddsTexts-follows = record { none = AddsTexts-none; one = AddsTexts-one; more = AddsTexts-more }

-- the texts of calls, joined, are their canonical text
texts-call_text : (calls : List Call) → flat_map call_text calls ≡ canon calls
texts-call_text [] = refl
texts-call_text (call ∷ calls) = ap (λ t. call_text call ++ t) (texts-call_text calls)

-- what a canonical writer adds by a list of calls is their canonical text
pub Adds-canon : {W : Type 0} (sink : SinkOf W) (calls : List Call) (old new : CanonWriter W)
    → Goes (λ a call b. Adds sink (call_text call) (output_of a) (output_of b)) old calls new
    → Adds sink (canon calls) (output_of old) (output_of new)
Adds-canon sink calls old new goes =
    subst (λ t. Adds sink t (output_of old) (output_of new)) (texts-call_text calls)
    (Adds-calls sink output_of call_text calls old new goes)
