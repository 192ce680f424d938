-- What was added to a room that was empty, where it has room for all of it.
use Rattle.std.proofs.Common.{◌≡◌, ◌≢◌, ◌<◌, ◌≤◌, ℕ, List, [], ◌∷◌, ◌++◌, length, refl, ap, ◌∙◌, subst, arith, ⊎_elim, length-append}
use Rattle.std.specs.Prelude.{Option, None, Some, Result, Err, MatchOption, ◌⊎◌}
use Rattle.std.specs.Io.KnownBytes.{Keeps}
use Rattle.anstyle_parse.specs.declared.io.Fault.{Fault}
use Rattle.anstyle_parse.specs.declared.io.output.Output.{Output}
use Rattle.anstyle_parse.specs.Io.Output.{writer_in, fault_in, Adds, AddsAll, AddsPrefix, Flushes, Finishes}
use Rattle.ansi_answers.specs.declared.bytes.AnswerRoom.{AnswerRoom}
use Rattle.ansi_answers.specs.contracts.bytes.AnswerRoomSink.TheImpl.{ghosts}
use Rattle.ansi_answers.specs.Room.{bytes_in}
use Rattle.ansi_answers.specs.Text.{max_answer}

-- a list that is not empty has an element
some-of : (l : List ℕ) → l ≢ [] → 0 < length l
some-of [] some = absurd (some refl)
some-of (x ∷ l) some = omega arith

module _ (text : List ℕ) (start : AnswerRoom) (old new : Output AnswerRoom) (writer : writer_in old ≡ start) (empty : bytes_in start ≡ []) (no_fault : fault_in old ≡ None) (adds : Adds ghosts text old new) (fits : length text ≤ max_answer) where
  added : AddsAll ghosts text old new ⊎ AddsPrefix ghosts text old new
  added = subst (λ (fault : Option Fault). MatchOption fault (AddsAll ghosts text old new ⊎ AddsPrefix ghosts text old new) (λ _. new ≡ old)) no_fault adds

  -- its bytes after some were added
  grown : (more : List ℕ) → bytes_in (writer_in new) ≡ bytes_in (writer_in old) ++ more → bytes_in (writer_in new) ≡ more
  grown more joined = joined ∙ ap (λ (it : AnswerRoom). bytes_in it ++ more) writer ∙ ap (λ (l : List ℕ). l ++ more) empty

  -- it failed only if it was full
  whole : AddsAll ghosts text old new
  whole =
      ⊎_elim
      (λ (all : AddsAll ghosts text old new). all)
      (λ (part : AddsPrefix ghosts text old new).
      absurd (omega (
        arith,
        ap length part.joined,
        length-append part.prefix part.rest,
        ap length (grown part.prefix part.written),
        part.was_a_write,
        some-of part.rest part.proper,
        fits,
      )))
      added

  pub held-all : {T : Type 0} (room : AnswerRoom) (answer : Result T Fault) → Finishes ghosts new room answer → bytes_in room ≡ text
  held-all room answer finishes =
      let kept = subst (λ (fault : Option Fault). MatchOption fault (Keeps (Some (bytes_in (writer_in new))) (Some (bytes_in room)) × Flushes ghosts answer (writer_in new) room) (λ f. (room ≡ writer_in new) × (answer ≡ Err f))) whole.no_fault finishes in
      kept.0 ∙ grown text whole.written
