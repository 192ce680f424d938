-- No definition, but proofs: the language wants those of a trait's laws among the specs.
-- Calls that a writer of HTML in blocks, or what is in them, takes one after another are one list of calls.
use Rattle.std.proofs.Common.{◌≡◌, Bool, List, [], ◌∷◌, ◌++◌, refl, sym, ap, ap₂, ◌∙◌, subst, append_assoc, append-nil}
use Rattle.anstyle_parse.specs.declared.io.devices.Sink.{Ghosts as SinkOf}
use Rattle.anstyle_parse.specs.Stream.Call.{Call}
use Rattle.anstyle_parse.specs.Stream.Texts.{FollowsCalls}
use Rattle.anstyle_parse.specs.Io.Output.{Adds}
use Rattle.anstyle_parse.proofs.Written.Output.{Adds-nil, Adds-append}
use Rattle.ansi_html.specs.declared.scheme.Styling.{Styling}
use Rattle.ansi_html.specs.declared.blocks.BlocksWriter.{BlocksWriter}
use Rattle.ansi_html.specs.Blocks.{Blocked, blocked_call, blocked_after, blocked_from, blocked_at_end, blocked_end}
use Rattle.ansi_html.specs.Blocker.{output_of, numbered_of, styling_of, blocked_of, text_from, ending_from, TakesCall, TakesCalls}

-- the HTML of two lists of calls, one after another, and where it stands at the end
module _ (numbered : Bool) where
  pub blocked_from-append : (styling : Styling) (calls more : List Call) (it : Blocked)
      → blocked_from numbered styling it (calls ++ more)
      ≡ blocked_from numbered styling it calls ++ blocked_from numbered styling (blocked_at_end numbered it calls) more
  blocked_from-append styling [] more it = refl
  blocked_from-append styling (call ∷ calls) more it =
      let text = blocked_call numbered styling it call in
      let after = blocked_after numbered call it in
      ap (λ t. text ++ t) (blocked_from-append styling calls more after)
      ∙ sym (append_assoc text (blocked_from numbered styling after calls) (blocked_from numbered styling (blocked_at_end numbered after calls) more))

  pub blocked_at_end-append : (calls more : List Call) (it : Blocked)
      → blocked_at_end numbered it (calls ++ more) ≡ blocked_at_end numbered (blocked_at_end numbered it calls) more
  blocked_at_end-append [] more it = refl
  blocked_at_end-append (call ∷ calls) more it = blocked_at_end-append calls more (blocked_after numbered call it)

module _ {W : Type 0} (sink : SinkOf W) where
  pub TakesCalls-none : (performer : BlocksWriter W) → TakesCalls sink performer [] performer
  TakesCalls-none performer = record { numbered = refl; styling = refl; standing = refl; added = Adds-nil sink (output_of performer) }

  pub TakesCalls-one : (old : BlocksWriter W) (call : Call) (new : BlocksWriter W) → TakesCall sink old call new → TakesCalls sink old (call ∷ []) new
  TakesCalls-one old call new takes = record {
    numbered = takes.numbered;
    styling = takes.styling;
    standing = takes.standing;
    added = subst (λ t. Adds sink t (output_of old) (output_of new))
        (sym (append-nil (blocked_call (numbered_of old) (styling_of old) (blocked_of old) call))) takes.added;
  }

  pub TakesCalls-more : (old middle new : BlocksWriter W) (calls more : List Call) → TakesCalls sink old calls middle → TakesCalls sink middle more new → TakesCalls sink old (calls ++ more) new
  TakesCalls-more old middle new calls more first second =
      let numbered = numbered_of old in
      let styling = styling_of old in
      let it = blocked_of old in
      record {
        numbered = second.numbered ∙ first.numbered;
        styling = second.styling ∙ first.styling;
        standing = second.standing ∙ ap₂ (λ is at. blocked_at_end is at more) first.numbered first.standing ∙ sym (blocked_at_end-append numbered calls more it);
        added = subst (λ t. Adds sink t (output_of old) (output_of new))
            (ap (λ is. blocked_from numbered styling it calls ++ blocked_from is (styling_of middle) (blocked_of middle) more) first.numbered
            ∙ ap₂ (λ said after. blocked_from numbered styling it calls ++ blocked_from numbered said after more) first.styling first.standing
            ∙ sym (blocked_from-append numbered styling calls more it))
            (Adds-append sink (blocked_from numbered styling it calls) (text_from middle more) (output_of old) (output_of middle) (output_of new) first.added second.added);
      }

  -- what lists of calls do to it agrees with what each call means
  pub TakesCalls-follows : FollowsCalls (TakesCall sink) (TakesCalls sink)
  TakesCalls-follows = record { none = TakesCalls-none; one = TakesCalls-one; more = TakesCalls-more }

  -- what ends the elements that are open after the calls
  pub ending_from-taken : (old new : BlocksWriter W) (calls : List Call) → TakesCalls sink old calls new → ending_from new [] ≡ ending_from old calls
  ending_from-taken old new calls taken = ap₂ blocked_end taken.numbered taken.standing
