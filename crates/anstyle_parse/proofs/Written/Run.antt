-- What a run does, from what its performer received and how its output was finished.
use Rattle.std.proofs.Common.{◌≡◌, ℕ, ◌≤◌, Bool, true, false, List, [], ◌∷◌, ◌++◌, length, Option, None, Some, is_some, Result, Ok, Err, ◌⊎◌, inl, inr, ⊎_elim, IsTrue, refl, sym, ap, ◌∙◌, subst, append_assoc, append-nil}
use Rattle.std.specs.Io.KnownBytes.{Keeps, Appends, Consumes, IsAtEnd}
use Rattle.std.proofs.KnownBytes.{Appends-kept, Appends-trans, Consumes-nil}
use Rattle.anstyle_parse.specs.declared.io.Fault.{Fault}
use Rattle.anstyle_parse.specs.declared.io.Fault.TheVariants.{Read, Write, Flush}
use Rattle.anstyle_parse.specs.declared.io.devices.Sink.{Ghosts as SinkOf}
use Rattle.anstyle_parse.specs.declared.io.devices.Source.{Ghosts as SourceOf}
use Rattle.anstyle_parse.specs.declared.io.output.Output.{Output}
use Rattle.anstyle_parse.specs.declared.io.engine.Stop.{Stop}
use Rattle.anstyle_parse.specs.declared.io.engine.Stop.TheVariants.{AtEnd, AtFault, AtRead}
use Rattle.anstyle_parse.specs.Stream.Call.{Call}
use Rattle.anstyle_parse.specs.Stream.Calls.{AreCalls}
use Rattle.anstyle_parse.specs.Io.AddingProof.{AddsAt, FinishesAt}
use Rattle.anstyle_parse.specs.Io.Output.{writer_in, fault_in, AddsAll, Adds, Finishes}
use Rattle.anstyle_parse.proofs.Canonical.Items.{AreCalls-nil}
use Rattle.anstyle_parse.proofs.Written.Output.{Adds-append}
use Rattle.anstyle_parse.specs.Io.Run.{most_reads, StopsAs, WritesText, WritesEnded, Runs, RunsToEnding}

-- where no read failed, the reader is at its end or a fault is kept
pub StopsAs-no_read : (stop : Stop) (at_end : Type 0) (fault : Option Fault) (failed failed_after : Bool) (count : ℕ) → (stop ≡ AtEnd) ⊎ (stop ≡ AtFault)
    → StopsAs stop at_end fault failed failed_after count → (failed_after ≡ failed) × (fault ≡ None → at_end)
StopsAs-no_read AtEnd at_end fault failed failed_after count which stops = (stops.2, λ _. stops.0)
StopsAs-no_read AtFault at_end fault failed failed_after count which stops = (stops.1, λ none. absurd (let clash : false ≡ true = sym (ap is_some none) ∙ stops.0 in cc))
StopsAs-no_read AtRead at_end fault failed failed_after count which stops = absurd (⊎_elim (λ e. let clash : AtRead ≡ AtEnd = e in cc) (λ e. let clash : AtRead ≡ AtFault = e in cc) which)

module _ (R W T : Type 0) (source : SourceOf R) (sink : SinkOf W) where
  -- a text that is known to be the ending only where no fault is kept
  pub Adds-unless_stopped : (unwritten ending : List ℕ) (a b : Output W) → (fault_in a ≡ None → unwritten ≡ ending) → Adds sink unwritten a b → Adds sink ending a b
  Adds-unless_stopped unwritten ending a b same added = by_fault (fault_in a) refl
    where
      by_fault : (fault : Option Fault) → fault_in a ≡ fault → Adds sink ending a b
      by_fault None none = subst (λ t. Adds sink t a b) (same none) added
      by_fault (Some fault) some =
          subst (λ f. AddsAt f sink ending a b) (sym some) (subst (λ f. AddsAt f sink unwritten a b) some added)

  -- where a fault is kept, any text changes nothing
  Adds-stopped_any : (text : List ℕ) (a : Output W) → is_some (fault_in a) ≡ true → Adds sink text a a
  Adds-stopped_any text a stopped = by_fault (fault_in a) refl
    where
      by_fault : (fault : Option Fault) → fault_in a ≡ fault → Adds sink text a a
      by_fault None none = absurd (let clash : false ≡ true = sym (ap is_some none) ∙ stopped in cc)
      by_fault (Some fault) some = subst (λ f. AddsAt f sink text a a) (sym some) refl

  -- an output with no fault had none before
  pub Adds-no_fault : (text : List ℕ) (a b : Output W) → Adds sink text a b → fault_in b ≡ None → fault_in a ≡ None
  Adds-no_fault text a b added none = by_fault (fault_in a) refl
    where
      by_fault : (fault : Option Fault) → fault_in a ≡ fault → fault_in a ≡ None
      by_fault None e = e
      by_fault (Some fault) some = sym (ap fault_in (subst (λ f. AddsAt f sink text a b) some added)) ∙ none

  finished : (output : Output W) (writer : W) (answer : Result T Fault) (fault : Option Fault) → fault_in output ≡ fault → Finishes sink output writer answer
      → FinishesAt fault sink (writer_in output) writer answer
  finished output writer answer fault e f = subst (λ k. FinishesAt k sink (writer_in output) writer answer) e f

  -- no read failed: the text and its ending are written, or a proper prefix
  pub Runs-ended : (text ending : List Call → List ℕ) (reader reader_after : R) (start final : Output W) (writer_after : W) (answer : Result T Fault) (read : List ℕ) (calls : List Call)
      → Consumes (source.remaining reader) (source.remaining reader_after) read → AreCalls read calls → source.has_failed reader_after ≡ source.has_failed reader
      → (fault_in final ≡ None → IsTrue source.zero_is_end → IsAtEnd (source.remaining reader_after))
      → fault_in start ≡ None → Adds sink (text calls ++ ending calls) start final → Finishes sink final writer_after answer
      → RunsToEnding source sink text ending reader reader_after (writer_in start) (writer_after, answer)
  Runs-ended text ending reader reader_after start final writer_after answer read calls consumed are kept at_end none added finishes =
      by_added (subst (λ f. AddsAt f sink (text calls ++ ending calls) start final) none added)
    where
      Ran : Result T Fault → Type 0
      Ran a = RunsToEnding source sink text ending reader reader_after (writer_in start) (writer_after, a)

      all_written : AddsAll sink (text calls ++ ending calls) start final → (a : Result T Fault) → FinishesAt None sink (writer_in final) writer_after a → Ran a
      all_written all (Ok done) end = record {
        read = read;
        calls = calls;
        consumed = consumed;
        are_calls = are;
        written = Appends-kept _ _ _ _ all.written end.0;
        unread = at_end all.no_fault;
        causes = λ r w. (kept ∙ r, end.1 ∙ all.not_failed ∙ w);
      }
      all_written all (Err fault) end = subst (λ k. Ran (Err k)) (sym end.1.0) (record {
        read = read;
        calls = calls;
        consumed = consumed;
        are_calls = are;
        written = Appends-kept _ _ _ _ all.written end.0;
        unread = at_end all.no_fault;
        causes = λ r w. (kept ∙ r, end.1.1, end.1.2);
      })

      by_added : AddsAt None sink (text calls ++ ending calls) start final → Ran answer
      by_added (inl all) = all_written all answer (finished final writer_after answer None all.no_fault finishes)
      by_added (inr part) =
          let end = finished final writer_after answer (Some Write) part.fault finishes in
          subst Ran (sym end.1) (record {
            read = read;
            calls = calls;
            consumed = consumed;
            are_calls = are;
            written = record {
              prefix = part.prefix;
              rest = part.rest;
              joined = part.joined;
              proper = part.proper;
              written = subst (λ w. Appends (sink.contents (writer_in start)) (sink.contents w) part.prefix) (sym end.0) part.written;
            };
            unread = λ _. tt;
            causes = λ r w. (kept ∙ r, ap sink.has_failed end.0 ∙ part.failed, subst (λ w. sink.failed_as w Write) (sym end.0) part.was_a_write);
          })

  -- a read failed: the text is written, and its ending, or of that a proper prefix
  pub Runs-failed : (text ending : List Call → List ℕ) (reader reader_after : R) (start middle final : Output W) (writer_after : W) (answer : Result T Fault) (read : List ℕ) (calls : List Call)
      → Consumes (source.remaining reader) (source.remaining reader_after) read → AreCalls read calls → IsTrue (source.has_failed reader_after) ⊎ (most_reads ≤ length read)
      → fault_in start ≡ None → fault_in middle ≡ None → Adds sink (text calls) start middle → Adds sink (ending calls) middle final
      → Finishes sink final writer_after answer
      → RunsToEnding {T = T} source sink text ending reader reader_after (writer_in start) (writer_after, (Err Read))
  Runs-failed text ending reader reader_after start middle final writer_after answer read calls consumed are cause none unstopped first second finishes = record {
    read = read;
    calls = calls;
    consumed = consumed;
    are_calls = are;
    written = by_ending (subst (λ f. AddsAt f sink (ending calls) middle final) unstopped second);
    unread = λ _. tt;
    causes = λ r w. cause;
  }
    where
      text_written : AddsAt None sink (text calls) start middle → Appends (sink.contents (writer_in start)) (sink.contents (writer_in middle)) (text calls)
      text_written (inl all) = all.written
      text_written (inr part) = absurd (let clash : Some Write ≡ None = sym part.fault ∙ unstopped in cc)

      before : Appends (sink.contents (writer_in start)) (sink.contents (writer_in middle)) (text calls)
      before = text_written (subst (λ f. AddsAt f sink (text calls) start middle) none first)

      flushed : (a : Result T Fault) → FinishesAt None sink (writer_in final) writer_after a → Keeps (sink.contents (writer_in final)) (sink.contents writer_after)
      flushed a end = end.0

      by_ending : AddsAt None sink (ending calls) middle final
          → WritesEnded {T = T} (Err Read) (sink.has_failed writer_after) (sink.contents (writer_in start)) (sink.contents writer_after) (text calls) (ending calls)
      by_ending (inl all) =
          inl (Appends-kept _ _ _ _ (Appends-trans _ _ _ _ _ before all.written) (flushed answer (finished final writer_after answer None all.no_fault finishes)))
      by_ending (inr part) =
          let end = finished final writer_after answer (Some Write) part.fault finishes in
          let after = subst (λ w. Appends (sink.contents (writer_in middle)) (sink.contents w) part.prefix) (sym end.0) part.written in
          inr (
            record {
              prefix = part.prefix;
              rest = part.rest;
              joined = part.joined;
              proper = part.proper;
              written = Appends-trans _ _ _ _ _ before after;
            },
            ap sink.has_failed end.0 ∙ part.failed,
          )

  -- where a fault is kept, nothing becomes of a text
  Adds-stopped_same : (text : List ℕ) (a b : Output W) → is_some (fault_in a) ≡ true → Adds sink text a b → b ≡ a
  Adds-stopped_same text a b stopped added = by_fault (fault_in a) refl
    where
      by_fault : (fault : Option Fault) → fault_in a ≡ fault → b ≡ a
      by_fault None none = absurd (let clash : false ≡ true = sym (ap is_some none) ∙ stopped in cc)
      by_fault (Some fault) some = subst (λ f. AddsAt f sink text a b) some added

  -- the head of the text was not written whole: nothing is read, and no other text is written
  pub Runs-stopped : (text ending : List Call → List ℕ) (head more other : List ℕ) (reader : R) (start stopped final : Output W) (writer_after : W) (answer : Result T Fault)
      → text [] ≡ head ++ more → is_some (fault_in stopped) ≡ true → fault_in start ≡ None → Adds sink head start stopped → Adds sink other stopped final
      → Finishes sink final writer_after answer
      → RunsToEnding source sink text ending reader reader (writer_in start) (writer_after, answer)
  Runs-stopped text ending head more other reader start stopped final writer_after answer begins kept none added nothing finishes =
      Runs-ended text ending reader reader start stopped writer_after answer [] [] (Consumes-nil (source.remaining reader)) AreCalls-nil refl
      (λ clear. absurd (let clash : false ≡ true = sym (ap is_some clear) ∙ kept in cc)) none
      (subst (λ t. Adds sink t start stopped) (sym (append_assoc head more (ending [])) ∙ ap (λ t. t ++ ending []) (sym begins))
      (Adds-append sink head (more ++ ending []) start stopped stopped added (Adds-stopped_any (more ++ ending []) stopped kept)))
      (subst (λ output. Finishes sink output writer_after answer) (Adds-stopped_same other stopped final kept nothing) finishes)

  -- what is written of a text with no ending
  WritesText-ended : (answer : Result T Fault) (failed : Bool) (before after : Option (List ℕ)) (text ending : List ℕ) → ending ≡ [] → WritesEnded answer failed before after text ending → WritesText answer before after text
  WritesText-ended (Ok done) failed before after text ending none written = subst (Appends before after) (ap (λ e. text ++ e) none ∙ append-nil text) written
  WritesText-ended (Err Flush) failed before after text ending none written = subst (Appends before after) (ap (λ e. text ++ e) none ∙ append-nil text) written
  WritesText-ended (Err Write) failed before after text ending none written = subst (λ t. WritesText {T = T} (Err Write) before after t) (ap (λ e. text ++ e) none ∙ append-nil text) written
  WritesText-ended (Err Read) failed before after text ending none (inl written) = subst (Appends before after) (ap (λ e. text ++ e) none ∙ append-nil text) written
  WritesText-ended (Err Read) failed before after text ending none (inr (part, _)) = absurd (part.proper (after_nil part.prefix part.rest (sym part.joined ∙ none)))
    where
      after_nil : (xs ys : List ℕ) → xs ++ ys ≡ [] → ys ≡ []
      after_nil [] ys e = e
      after_nil (x ∷ xs) ys e = cc

  pub Runs-without_ending : (text ending : List Call → List ℕ) (reader reader_after : R) (writer : W) (result : W × Result T Fault) → ((calls : List Call) → ending calls ≡ [])
      → RunsToEnding source sink text ending reader reader_after writer result
      → Runs source sink text reader reader_after writer result
  Runs-without_ending text ending reader reader_after writer result none ran = record {
    read = ran.read;
    calls = ran.calls;
    consumed = ran.consumed;
    are_calls = ran.are_calls;
    written = WritesText-ended result.1 (sink.has_failed result.0) (sink.contents writer) (sink.contents result.0) (text ran.calls) (ending ran.calls) (none ran.calls) ran.written;
    unread = ran.unread;
    causes = ran.causes;
  }

  -- a text and an ending that are the same for all calls
  pub Runs-same : (text ending other_text other : List Call → List ℕ) (reader reader_after : R) (writer : W) (result : W × Result T Fault)
      → ((calls : List Call) → text calls ≡ other_text calls) → ((calls : List Call) → ending calls ≡ other calls)
      → RunsToEnding source sink text ending reader reader_after writer result
      → RunsToEnding source sink other_text other reader reader_after writer result
  Runs-same text ending other_text other reader reader_after writer result same_text same ran = record {
    read = ran.read;
    calls = ran.calls;
    consumed = ran.consumed;
    are_calls = ran.are_calls;
    written = subst (λ t. WritesEnded result.1 (sink.has_failed result.0) (sink.contents writer) (sink.contents result.0) t (other ran.calls)) (same_text ran.calls)
        (subst (λ e. WritesEnded result.1 (sink.has_failed result.0) (sink.contents writer) (sink.contents result.0) (text ran.calls) e) (same ran.calls) ran.written);
    unread = ran.unread;
    causes = ran.causes;
  }
