-- Texts handed to an output one after another are one text.
use Rattle.std.proofs.Common.{◌≡◌, ℕ, ◌+◌, ◌/◌, ◌%◌, ◌^◌, ◌<◌, ◌≤◌, Bool, false, refl, List, [], ◌∷◌, ◌++◌, Option, None, Some, is_some, Result, Ok, Err, inl, inr, sym, ap, ◌∙◌, subst, arith, take, drop, take-append-drop}
use Rattle.std.specs.Prelude.{decimal, ◌≢◌, IsTrue}
use Rattle.std.proofs.lemmas.Fmt.{decimal_step, decimal_digit}
use Rattle.std.proofs.KnownBytes.{Appends-nil, Appends-kept}
use Rattle.std.specs.Io.KnownBytes.{Keeps, Appends}
use Rattle.anstyle_parse.specs.declared.io.Fault.{Fault}
use Rattle.anstyle_parse.specs.declared.io.Fault.TheVariants.{Read, Write, Flush}
use Rattle.anstyle_parse.specs.declared.io.devices.Sink.{Ghosts as SinkOf}
use Rattle.anstyle_parse.specs.declared.io.output.Output.{Output}
use Rattle.anstyle_parse.specs.Io.AddingProof.{AddsAt, FinishesAt}
pub use Rattle.anstyle_parse.specs.Io.AddingProof.{Adds-stopped, Adds-nil, Adds-append, Adds-calls}
use Rattle.anstyle_parse.specs.Io.Output.{writer_in, fault_in, Adds, Flushes, Finishes, Writes, Causes}

-- an option that holds nothing is None
pub None-from_is_some : {T : Type 0} (o : Option T) → is_some o ≡ false → o ≡ None
None-from_is_some None e = refl
None-from_is_some (Some x) e = cc

module _ {W : Type 0} (sink : SinkOf W) where
  -- three texts, one after another
  pub Adds-append3 : (t u v : List ℕ) (a b c d : Output W) → Adds sink t a b → Adds sink u b c → Adds sink v c d
      → Adds sink ((t ++ u) ++ v) a d
  Adds-append3 t u v a b c d first second third = Adds-append sink (t ++ u) v a c d (Adds-append sink t u a b c first second) third

  -- what one write took of a text, and then the rest
  pub Adds-taken : (text : List ℕ) (n : ℕ) (a b c : Output W) → fault_in a ≡ None → fault_in b ≡ None
      → Appends (sink.contents (writer_in a)) (sink.contents (writer_in b)) (take n text)
      → sink.has_failed (writer_in b) ≡ sink.has_failed (writer_in a) → Adds sink (drop n text) b c → Adds sink text a c
  Adds-taken text n a b c none none_after written same rest =
      let first : Adds sink (take n text) a b = subst (λ f. AddsAt f sink (take n text) a b) (sym none)
      (inl (record { written = written; no_fault = none_after; not_failed = same })) in
      subst (λ t. Adds sink t a c) (take-append-drop n text) (Adds-append sink (take n text) (drop n text) a b c first rest)

  -- a write of a text that failed
  pub Adds-failed : (text : List ℕ) (a b : Output W) → fault_in a ≡ None → text ≢ []
      → Keeps (sink.contents (writer_in a)) (sink.contents (writer_in b)) → fault_in b ≡ Some Write
      → IsTrue (sink.has_failed (writer_in b)) → sink.failed_as (writer_in b) Write → Adds sink text a b
  Adds-failed text a b none some kept fault failed was_a_write =
      subst (λ f. AddsAt f sink text a b) (sym none) (inr (record {
        prefix = [];
        rest = text;
        joined = refl;
        proper = some;
        written = Appends-kept _ _ _ _ (Appends-nil (sink.contents (writer_in a))) kept;
        fault = fault;
        failed = failed;
        was_a_write = was_a_write;
      }))

  -- a number of one digit
  pub Adds-decimal_digit : (n : ℕ) (a b : Output W) → n < 10 → Adds sink ((48 + n % 10) ∷ []) a b → Adds sink (decimal n) a b
  Adds-decimal_digit n a b small first =
      let same : n % 10 ≡ n = omega arith in
      subst (λ t. Adds sink t a b) (ap (λ k. (48 + k) ∷ []) same ∙ sym (decimal_digit n small)) first

  -- the digits before the last, and then the last
  pub Adds-decimal_step : (n : ℕ) (a b c : Output W) → 10 ≤ n → n < 2 ^ 64 → Adds sink (decimal (n / 10)) a b
      → Adds sink ((48 + n % 10) ∷ []) b c → Adds sink (decimal n) a c
  Adds-decimal_step n a b c large fits first last =
      subst (λ t. Adds sink t a c) (sym (decimal_step n large fits)) (Adds-append sink (decimal (n / 10)) ((48 + n % 10) ∷ []) a b c first last)

  -- a text is written, and then the writer is flushed
  Writes-flushed : {T : Type 0} (text : List ℕ) (before : Option (List ℕ)) (old new : W) (answer : Result T Fault) → Appends before (sink.contents old) text → Keeps (sink.contents old) (sink.contents new)
      → Flushes sink answer old new → Writes text before (sink.contents new) answer
  Writes-flushed text before old new (Ok value) written kept flushed = Appends-kept _ _ _ _ written kept
  Writes-flushed text before old new (Err Flush) written kept flushed = Appends-kept _ _ _ _ written kept
  Writes-flushed text before old new (Err Write) written kept flushed = cc flushed.0
  Writes-flushed text before old new (Err Read) written kept flushed = cc flushed.0

  Writes-finish_at : {T : Type 0} (text : List ℕ) (a b : Output W) (new : W) (answer : Result T Fault) → AddsAt None sink text a b → Finishes sink b new answer
      → Writes text (sink.contents (writer_in a)) (sink.contents new) answer
  Writes-finish_at {T} text a b new answer (inl all) finished =
      let Q : Option Fault → Type 0 = λ f. FinishesAt f sink (writer_in b) new answer in
      let flushed = subst Q all.no_fault finished in
      Writes-flushed text (sink.contents (writer_in a)) (writer_in b) new answer all.written flushed.0 flushed.1
  Writes-finish_at {T} text a b new answer (inr part) finished =
      let Q : Option Fault → Type 0 = λ f. FinishesAt f sink (writer_in b) new answer in
      let stopped = subst Q part.fault finished in
      let R : Result T Fault → Type 0 = λ r. Writes text (sink.contents (writer_in a)) (sink.contents new) r in
      subst R (sym stopped.1) (record {
        prefix = part.prefix;
        rest = part.rest;
        joined = part.joined;
        proper = part.proper;
        written = subst (λ w. Appends (sink.contents (writer_in a)) (sink.contents w) part.prefix) (sym stopped.0) part.written;
      })

  -- What stands written when an output with no fault got a text and has ended.
  pub Writes-finish : {T : Type 0} (text : List ℕ) (a b : Output W) (new : W) (answer : Result T Fault) → fault_in a ≡ None → Adds sink text a b → Finishes sink b new answer
      → Writes text (sink.contents (writer_in a)) (sink.contents new) answer
  Writes-finish text a b new answer none added finished =
      Writes-finish_at text a b new answer (subst (λ f. AddsAt f sink text a b) none added) finished

  Causes-flushed : {T : Type 0} (failed : Bool) (old new : W) (answer : Result T Fault) → sink.has_failed old ≡ failed → Flushes sink answer old new → Causes failed (sink.has_failed new) answer
  Causes-flushed failed old new (Ok value) same flushed = flushed ∙ same
  Causes-flushed failed old new (Err fault) same flushed = flushed.1

  Causes-finish_at : {T : Type 0} (text : List ℕ) (a b : Output W) (new : W) (answer : Result T Fault) → AddsAt None sink text a b → Finishes sink b new answer
      → Causes (sink.has_failed (writer_in a)) (sink.has_failed new) answer
  Causes-finish_at {T} text a b new answer (inl all) finished =
      let Q : Option Fault → Type 0 = λ f. FinishesAt f sink (writer_in b) new answer in
      Causes-flushed (sink.has_failed (writer_in a)) (writer_in b) new answer all.not_failed (subst Q all.no_fault finished).1
  Causes-finish_at {T} text a b new answer (inr part) finished =
      let Q : Option Fault → Type 0 = λ f. FinishesAt f sink (writer_in b) new answer in
      let stopped = subst Q part.fault finished in
      let R : Result T Fault → Type 0 = λ r. Causes (sink.has_failed (writer_in a)) (sink.has_failed new) r in
      subst R (sym stopped.1) (ap sink.has_failed stopped.0 ∙ part.failed)

  -- And why it ended as it did.
  pub Causes-finish : {T : Type 0} (text : List ℕ) (a b : Output W) (new : W) (answer : Result T Fault) → fault_in a ≡ None → Adds sink text a b → Finishes sink b new answer
      → Causes (sink.has_failed (writer_in a)) (sink.has_failed new) answer
  Causes-finish text a b new answer none added finished =
      Causes-finish_at text a b new answer (subst (λ f. AddsAt f sink text a b) none added) finished
