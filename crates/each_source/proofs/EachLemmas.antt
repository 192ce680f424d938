-- Sources that were read, one after another.
use Rattle.std.proofs.Common.{◌≡◌, ℕ, Bool, true, false, ◌&&◌, not, List, [], ◌∷◌, ◌++◌, Option, None, Some, Result, Ok, Err, is_err, ◌⊎◌, inl, inr, length, set, get_or, ◌<◌, refl, sym, ap, ◌∙◌, subst, arith, append_assoc}
use Rattle.std.specs.List.{flat_map}
use Rattle.std.specs.Io.KnownBytes.{Appends}
use Rattle.std.proofs.KnownBytes.{Appends-kept, Appends-trans}
use Rattle.anstyle_parse.specs.declared.io.Fault.{Fault}
use Rattle.anstyle_parse.specs.declared.io.Fault.TheVariants.{Read, Write, Flush}
use Rattle.anstyle_parse.specs.declared.io.devices.Sink.{Ghosts as SinkOf}
use Rattle.anstyle_parse.specs.declared.io.output.Output.{Output}
use Rattle.anstyle_parse.specs.Io.AddingProof.{AddsAt, FinishesAt}
use Rattle.anstyle_parse.specs.Io.Output.{writer_in, fault_in, Adds, Finishes, Writes, Causes}
use Rattle.anstyle_parse.specs.declared.io.devices.Source.{Ghosts as SourceOf}
use Rattle.each_source.specs.declared.Stopped.{Stopped}
use Rattle.each_source.specs.declared.Stopped.TheVariants.{NoMemory, Stuck, AtFault}
use Rattle.each_source.specs.Each.{Given, IsRead, IsFrontRead, IsBegun, AreRead, AreWhole, LacksMemory, WasHeld, AddsEach, Reaches, WritesEach, stopped_by}

module _ {R : Type 0} (source : SourceOf R) where
  -- what is known of sources that were read whole is known where less is
  pub IsRead-when : {A B : Type 0} (reader after : R) (given : Given) → (B → A) → IsRead source A reader after given → IsRead source B reader after given
  IsRead-when reader after given narrows is = record {
    at_end = is.at_end;
    consumed = is.consumed;
    are_calls = is.are_calls;
    ended = λ b. is.ended (narrows b);
  }

  -- and where none was begun
  pub AreRead-when : {A B : Type 0} (C : Type 0) (readers readers_after : List R) (given : List Given) → (B → A)
      → AreRead source A ⊥ readers readers_after given → AreRead source B C readers readers_after given
  AreRead-when C readers readers_after [] narrows (inl same) = inl same
  AreRead-when C readers readers_after [] narrows (inr begun) = absurd begun.0
  AreRead-when C [] readers_after (one ∷ others) narrows are = absurd are
  AreRead-when C (reader ∷ readers) [] (one ∷ others) narrows are = absurd are
  AreRead-when C (reader ∷ readers) (after ∷ readers_after) (one ∷ others) narrows are =
      (IsRead-when reader after one narrows are.0, AreRead-when C readers readers_after others narrows are.1)

  pub AreRead-narrow : {A B : Type 0} (C : Type 0) (readers readers_after : List R) (given : List Given) → (B → A)
      → AreRead source A C readers readers_after given → AreRead source B C readers readers_after given
  AreRead-narrow C readers readers_after [] narrows are = are
  AreRead-narrow C [] readers_after (one ∷ others) narrows are = absurd are
  AreRead-narrow C (reader ∷ readers) [] (one ∷ others) narrows are = absurd are
  AreRead-narrow C (reader ∷ readers) (after ∷ readers_after) (one ∷ others) narrows are =
      (IsRead-when reader after one narrows are.0, AreRead-narrow C readers readers_after others narrows are.1)

  -- the next source is read too
  AreRead-push : {A : Type 0} (readers readers_after : List R) (given : List Given) (more : Given) (d after : R)
      → length given < length readers_after → AreRead source A ⊥ readers readers_after given → IsRead source A (get_or readers_after (length given) d) after more
      → AreRead source A ⊥ readers (set readers_after (length given) after) (given ++ more ∷ [])
  AreRead-push {A = A} readers (reader ∷ readers_after) [] more d after below (inl same) is =
      subst (λ rs. AreRead source A ⊥ rs (after ∷ readers_after) (more ∷ [])) same (is, inl refl)
  AreRead-push {A = A} readers (reader ∷ readers_after) [] more d after below (inr begun) is = absurd begun.0
  AreRead-push {A = A} readers [] given more d after below are is = absurd (omega arith)
  AreRead-push [] (reader_after ∷ readers_after) (one ∷ others) more d after below are is = absurd are
  AreRead-push (reader ∷ readers) (reader_after ∷ readers_after) (one ∷ others) more d after below are is =
      (are.0, AreRead-push readers readers_after others more d after (omega arith) are.1 is)

  pub AreRead-push_at : {A : Type 0} (readers readers_after : List R) (given : List Given) (more : Given) (d reader after : R) (i : ℕ)
      → length given ≡ i → i < length readers_after → reader ≡ get_or readers_after i d → AreRead source A ⊥ readers readers_after given → IsRead source A reader after more
      → AreRead source A ⊥ readers (set readers_after i after) (given ++ more ∷ [])
  AreRead-push_at {A = A} readers readers_after given more d reader after i e below its are is =
      let there : length given < length readers_after = omega (arith, e, below) in
      let read = subst (λ k. IsRead source A (get_or readers_after k d) after more) (sym e) (subst (λ r. IsRead source A r after more) its is) in
      subst (λ k. AreRead source A ⊥ readers (set readers_after k after) (given ++ more ∷ [])) e
      (AreRead-push readers readers_after given more d after there are read)

  -- the next source is begun
  AreRead-begin : (A : Type 0) {B : Type 0} (readers readers_after : List R) (given : List Given) (d after : R) → B
      → length given < length readers_after → AreRead source A ⊥ readers readers_after given → IsFrontRead source (get_or readers_after (length given) d) after
      → AreRead source A B readers (set readers_after (length given) after) given
  AreRead-begin A {B = B} readers (reader ∷ readers_after) [] d after why below (inl same) is =
      inr (why, subst (λ rs. IsBegun source rs (after ∷ readers_after)) same (is, refl))
  AreRead-begin A readers (reader ∷ readers_after) [] d after why below (inr begun) is = absurd begun.0
  AreRead-begin A readers [] given d after why below are is = absurd (omega arith)
  AreRead-begin A [] (reader_after ∷ readers_after) (one ∷ others) d after why below are is = absurd are
  AreRead-begin A (reader ∷ readers) (reader_after ∷ readers_after) (one ∷ others) d after why below are is =
      (are.0, AreRead-begin A readers readers_after others d after why (omega arith) are.1 is)

  pub AreRead-begin_at : (A : Type 0) {B : Type 0} (readers readers_after : List R) (given : List Given) (d reader after : R) (i : ℕ) → B
      → length given ≡ i → i < length readers_after → reader ≡ get_or readers_after i d → AreRead source A ⊥ readers readers_after given
      → IsFrontRead source reader after
      → AreRead source A B readers (set readers_after i after) given
  AreRead-begin_at A {B = B} readers readers_after given d reader after i why e below its are is =
      let there : length given < length readers_after = omega (arith, e, below) in
      let read = subst (λ k. IsFrontRead source (get_or readers_after k d) after) (sym e) (subst (λ r. IsFrontRead source r after) its is) in
      subst (λ k. AreRead source A B readers (set readers_after k after) given) e
      (AreRead-begin A readers readers_after given d after why there are read)

module _ {W T : Type 0} (sink : SinkOf W) where
  -- a text that is written whole stays, however the output ends
  pub written_whole : (text : List ℕ) (start final : Output W) (new : W) (answer : Result T Fault) → fault_in start ≡ None → fault_in final ≡ None
      → Adds sink text start final → Finishes sink final new answer → Appends (sink.contents (writer_in start)) (sink.contents new) text
  written_whole text start final new answer none clear added finishes =
      by_added (subst (λ f. AddsAt f sink text start final) none added) (subst (λ f. FinishesAt f sink (writer_in final) new answer) clear finishes)
    where
      by_added : AddsAt None sink text start final → FinishesAt None sink (writer_in final) new answer → Appends (sink.contents (writer_in start)) (sink.contents new) text
      by_added (inl all) end = Appends-kept _ _ _ _ all.written end.0
      by_added (inr part) end = absurd (let clash : Some Write ≡ None = sym part.fault ∙ clear in cc)

  -- unless a write failed the output has no fault
  pub clear_or_written : (text : List ℕ) (start final : Output W) (new : W) (answer : Result T Fault) → fault_in start ≡ None
      → Adds sink text start final → Finishes sink final new answer → (answer ≡ Err Write) ⊎ (fault_in final ≡ None)
  clear_or_written text start final new answer none added finishes = by_added (subst (λ f. AddsAt f sink text start final) none added)
    where
      by_added : AddsAt None sink text start final → (answer ≡ Err Write) ⊎ (fault_in final ≡ None)
      by_added (inl all) = inr all.no_fault
      by_added (inr part) = let end = subst (λ f. FinishesAt f sink (writer_in final) new answer) part.fault finishes in inl end.1

  -- a run from what was read, what was written and why
  pub WritesEach-from : {R : Type 0} (source : SourceOf R) (text : Given → List ℕ) (head tail : List ℕ) (readers readers_after : List R) (writer new : W)
      (middle final : Output W) (answer : Result T Fault) (given : List Given) → (fault_in final ≡ None → fault_in middle ≡ None)
      → AreRead source (fault_in middle ≡ None) ⊥ readers readers_after given → (fault_in middle ≡ None → length given ≡ length readers)
      → (answer ≡ Err Write) ⊎ (fault_in final ≡ None) → Writes (head ++ (flat_map text given ++ tail)) (sink.contents writer) (sink.contents new) answer
      → Causes (sink.has_failed writer) (sink.has_failed new) answer
      → WritesEach source sink text (head, tail) readers readers_after writer (new, stopped_by answer)
  WritesEach-from source text head tail readers readers_after writer new middle final (Ok done) given before are all (inl e) written causes =
      absurd (let clash : Ok done ≡ Err Write = e in cc)
  WritesEach-from source text head tail readers readers_after writer new middle final (Ok done) given before are all (inr clear) written causes = record {
    given = given;
    are_read = AreRead-when source _ readers readers_after given (λ _. before clear) are;
    written = (written, all (before clear));
    causes = causes;
    held = tt;
  }
  WritesEach-from source text head tail readers readers_after writer new middle final (Err Flush) given before are all (inl e) written causes =
      absurd (let clash : Err Flush ≡ Err Write = e in cc)
  WritesEach-from source text head tail readers readers_after writer new middle final (Err Flush) given before are all (inr clear) written causes = record {
    given = given;
    are_read = AreRead-when source _ readers readers_after given (λ _. before clear) are;
    written = (written, all (before clear));
    causes = causes;
    held = tt;
  }
  WritesEach-from source text head tail readers readers_after writer new middle final (Err Write) given before are all which written causes = record {
    given = given;
    are_read = AreRead-when source _ readers readers_after given (λ never. absurd never) are;
    written = written;
    causes = causes;
    held = tt;
  }
  WritesEach-from source text head tail readers readers_after writer new middle final (Err Read) given before are all which written causes = absurd written

module _ {W : Type 0} (sink : SinkOf W) where
  -- with no fault after it a text is written whole
  pub whole_unless_fault : (text : List ℕ) (start final : Output W) → fault_in final ≡ None → Adds sink text start final
      → Appends (sink.contents (writer_in start)) (sink.contents (writer_in final)) text
  whole_unless_fault text start final clear added = by_fault (fault_in start) refl added
    where
      by_fault : (fault : Option Fault) → fault_in start ≡ fault → AddsAt fault sink text start final
          → Appends (sink.contents (writer_in start)) (sink.contents (writer_in final)) text
      by_fault None is (inl all) = all.written
      by_fault None is (inr part) = absurd (let clash : Some Write ≡ None = sym part.fault ∙ clear in cc)
      by_fault (Some fault) is same = absurd (let clash : Some fault ≡ None = sym is ∙ (ap fault_in (sym same) ∙ clear) in cc)

  -- a writer that held bytes back within a text did so within what another one is before it
  pub WasHeld-after : (before text : List ℕ) (writer next : W) → Appends (sink.contents writer) (sink.contents next) before
      → WasHeld sink text next → WasHeld sink (before ++ text) writer
  WasHeld-after before text writer next begun held = record {
    given = before ++ held.given;
    left = held.left;
    joined = ap (λ t. before ++ t) held.joined ∙ sym (append_assoc before held.given held.left);
    holder = held.holder;
    written = Appends-trans _ _ _ _ _ begun held.written;
    holds_back = held.holds_back;
  }

  -- the same where it came to an end before all sources: without memory, or stuck
  pub WritesEach-stopped : {R S : Type 0} (source : SourceOf R) (text : Given → List ℕ) (head tail : List ℕ) (readers readers_after : List R) (writer new : W)
      (first final : Output W) (answer : Result S Stopped) → is_err answer ≡ true
      → (added : AddsEach source sink text readers readers_after first final answer)
      → (fault_in final ≡ None → Appends (sink.contents writer) (sink.contents (writer_in first)) head)
      → (fault_in final ≡ None → Appends (sink.contents writer) (sink.contents new) (head ++ flat_map text added.given))
      → WritesEach source sink text (head, tail) readers readers_after writer (new, answer)
  WritesEach-stopped source text head tail readers readers_after writer new first final (Ok done) is added begun written =
      absurd (let clash : false ≡ true = is in cc)
  WritesEach-stopped source text head tail readers readers_after writer new first final (Err NoMemory) is added begun written = record {
    given = added.given;
    are_read = AreRead-narrow source _ readers readers_after added.given (λ _. (tt, added.reaches.0)) added.are_read;
    written = (written added.reaches.0, added.reaches.1);
    causes = tt;
    held = tt;
  }
  WritesEach-stopped source text head tail readers readers_after writer new first final (Err Stuck) is added begun written = record {
    given = added.given;
    are_read = AreRead-narrow source _ readers readers_after added.given (λ never. absurd never) added.are_read;
    written = (written added.reaches.0, added.reaches.1);
    causes = tt;
    held = WasHeld-after head (flat_map text added.given) writer (writer_in first) (begun added.reaches.0) added.held;
  }
  WritesEach-stopped source text head tail readers readers_after writer new first final (Err (AtFault fault)) is added begun written = absurd added.reaches

-- what is stuck with no fault is stuck, and so has no fault
pub not_stuck : (stuck clear : Bool) → (stuck && clear) ≡ false → clear ≡ true → stuck ≡ false
not_stuck false clear both is = refl
not_stuck true true both is = absurd (let clash : true ≡ false = both in cc)
not_stuck true false both is = absurd (let clash : false ≡ true = is in cc)

pub not_is : (clear : Bool) → not clear ≡ false → clear ≡ true
not_is true is = refl
not_is false is = absurd (let clash : true ≡ false = is in cc)

-- where no source was left out, all were read, and whole
pub reached_all : {T : Type 0} (answer : Result T Stopped) (fault : Option Fault) (read given : ℕ) → is_err answer ≡ false
    → Reaches answer fault read given → fault ≡ None → read ≡ given
reached_all (Ok done) fault read given is reaches = reaches
reached_all (Err stopped) fault read given is reaches = absurd (let clash : true ≡ false = is in cc)

pub whole_unless_stopped : {T : Type 0} (answer : Result T Stopped) → is_err answer ≡ false → AreWhole answer
whole_unless_stopped (Ok done) is = tt
whole_unless_stopped (Err stopped) is = absurd (let clash : true ≡ false = is in cc)

-- where no memory was wanting none is begun
pub AreRead-known : {R T A B : Type 0} (source : SourceOf R) (answer : Result T Stopped) (readers readers_after : List R) (given : List Given) → is_err answer ≡ false
    → (B → A) → AreRead source A (LacksMemory answer) readers readers_after given → AreRead source B ⊥ readers readers_after given
AreRead-known source (Ok done) readers readers_after given is narrows are = AreRead-narrow source _ readers readers_after given narrows are
AreRead-known source (Err stopped) readers readers_after given is narrows are = absurd (let clash : true ≡ false = is in cc)
