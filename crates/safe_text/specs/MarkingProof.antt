-- No definition, but proofs: the language wants those of a trait's laws among the specs.
-- Calls that a writer with marks takes one after another are one list of calls.
use Rattle.std.specs.Str.{encode_utf8_all}
use Rattle.std.proofs.Common.{◌≡◌, List, [], ◌∷◌, ◌++◌, refl, sym, ap, ap₂, ◌∙◌, subst, append_assoc, append-nil}
use Rattle.anstyle_parse.specs.declared.io.devices.Sink.{Ghosts as SinkOf}
use Rattle.anstyle_parse.specs.Stream.Call.{Call}
use Rattle.anstyle_parse.specs.Stream.Texts.{FollowsCalls}
use Rattle.safe_text.specs.declared.marking.MarkingWriter.{MarkingWriter}
use Rattle.safe_text.specs.Safe.{safe_from}
use Rattle.safe_text.specs.Decided.{decided_from, waiting, last_from}
use Rattle.safe_text.specs.Marks.{Hiding, hiding_after, marked_of, marked_from, hiding_from, closing, decided_marked, undecided_marked}
use Rattle.safe_text.specs.Writer.{before_in, held_in, Takes}
use Rattle.safe_text.specs.TakingProof.{held-waits, Takes-none, Takes-append}
use Rattle.safe_text.specs.MarkingWriter.{writer_in, hiding_in, text_from, all_from, ending_from, IsNewMarking, TakesMarked}

-- calls and then others
pub marked-append : (at : Hiding) (calls more : List Call) → marked_from at (calls ++ more) ≡ marked_from at calls ++ marked_from (hiding_from at calls) more
marked-append at [] more = refl
marked-append at (call ∷ calls) more =
    ap (λ l. marked_of call at ++ l) (marked-append (hiding_after call at) calls more)
    ∙ sym (append_assoc (marked_of call at) (marked_from (hiding_after call at) calls) (marked_from (hiding_from (hiding_after call at) calls) more))

pub hiding-append : (at : Hiding) (calls more : List Call) → hiding_from at (calls ++ more) ≡ hiding_from (hiding_from at calls) more
hiding-append at [] more = refl
hiding-append at (call ∷ calls) more = hiding-append (hiding_after call at) calls more

module _ {W : Type 0} (sink : SinkOf W) where
  pub TakesMarked-none : (performer : MarkingWriter W) → TakesMarked sink performer [] performer
  TakesMarked-none performer = record { taken = Takes-none sink (writer_in performer); hiding = refl }

  pub TakesMarked-more : (old middle new : MarkingWriter W) (calls more : List Call)
      → TakesMarked sink old calls middle → TakesMarked sink middle more new → TakesMarked sink old (calls ++ more) new
  TakesMarked-more old middle new calls more first second =
      let at : Hiding = hiding_in old in
      let then_taken : Takes sink (writer_in middle) (marked_from (hiding_from at calls) more) (writer_in new) =
      subst (λ h. Takes sink (writer_in middle) (marked_from h more) (writer_in new)) first.hiding second.taken in
      record {
        taken = subst (λ cs. Takes sink (writer_in old) cs (writer_in new)) (sym (marked-append at calls more))
            (Takes-append sink (writer_in old) (writer_in middle) (writer_in new) (marked_from at calls) (marked_from (hiding_from at calls) more) first.taken then_taken);
        hiding = second.hiding ∙ (ap (λ h. hiding_from h more) first.hiding ∙ sym (hiding-append at calls more));
      }

  -- what lists of calls do to it agrees with what each call means
  pub TakesMarked-follows : FollowsCalls (λ (old : MarkingWriter W) call new. TakesMarked sink old (call ∷ []) new) (TakesMarked sink)
  TakesMarked-follows = record { none = TakesMarked-none; one = λ _ _ _ taken. taken; more = TakesMarked-more }

  -- what is then to be written at the end
  pub ends-marked : (old : MarkingWriter W) (calls : List Call) (new : MarkingWriter W) → TakesMarked sink old calls new
      → ending_from new [] ≡ ending_from old calls
  ends-marked old calls new received =
      let writer = writer_in new in
      let at = held-waits writer.held (before_in writer) in
      let none : held_in writer ++ [] ≡ held_in writer = append-nil (held_in writer) in
      ap (λ l. encode_utf8_all (safe_from (last_from (before_in writer) l) (waiting l ++ closing (hiding_in new)))) none
      ∙ ap₂ (λ b h. encode_utf8_all (safe_from b (h ++ closing (hiding_in new)))) at.2 at.1
      ∙ ap₂ (λ b h. encode_utf8_all (safe_from b (h ++ closing (hiding_in new)))) received.taken.before received.taken.held
      ∙ ap (λ h. encode_utf8_all (safe_from (last_from (before_in (writer_in old)) (all_from old calls)) (waiting (all_from old calls) ++ closing h))) received.hiding

-- one that has received no call
pub marked-of_new : {W : Type 0} (performer : MarkingWriter W) → IsNewMarking performer → (calls : List Call) → text_from performer calls ≡ decided_marked calls
marked-of_new performer new calls =
    ap₂ (λ b h. encode_utf8_all (decided_from b (h ++ marked_from (hiding_in performer) calls))) new.writer.before new.writer.held
    ∙ ap (λ at. encode_utf8_all (decided_from 0 (marked_from at calls))) new.hiding

pub ending-of_new : {W : Type 0} (performer : MarkingWriter W) → IsNewMarking performer → (calls : List Call) → ending_from performer calls ≡ undecided_marked calls
ending-of_new performer new calls =
    ap₂ (λ b h. encode_utf8_all (safe_from (last_from b (h ++ marked_from (hiding_in performer) calls))
    (waiting (h ++ marked_from (hiding_in performer) calls) ++ closing (hiding_from (hiding_in performer) calls)))) new.writer.before new.writer.held
    ∙ ap (λ at. encode_utf8_all (safe_from (last_from 0 (marked_from at calls)) (waiting (marked_from at calls) ++ closing (hiding_from at calls)))) new.hiding
