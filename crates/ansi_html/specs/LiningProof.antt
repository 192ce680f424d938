-- No definition, but proofs: the language wants those of a trait's laws among the specs.
-- Calls that a writer of HTML in lines takes one after another are one list of calls.
use Rattle.std.proofs.Common.{◌≡◌, List, [], ◌∷◌, ◌++◌, refl, sym, ap, ap₂, ◌∙◌, subst, append_assoc, append-nil}
use Rattle.anstyle_parse.specs.declared.io.devices.Sink.{Ghosts as SinkOf}
use Rattle.anstyle_parse.specs.Stream.Call.{Call}
use Rattle.anstyle_parse.specs.Stream.Texts.{FollowsCalls}
use Rattle.anstyle_parse.specs.Io.Output.{Adds}
use Rattle.anstyle_parse.proofs.Written.Output.{Adds-nil, Adds-append}
use Rattle.ansi_html.specs.declared.scheme.Styling.{Styling}
use Rattle.ansi_html.specs.declared.lines.LinesWriter.{LinesWriter}
use Rattle.ansi_html.specs.Lines.{Lined, lined_call, lined_after, lined_from, lined_at_end, lined_end}
use Rattle.ansi_html.specs.Liner.{output_of, styling_of, lined_of, text_from, ending_from, TakesCall, TakesCalls}

-- the HTML of two lists of calls, one after another, and where it stands at the end
pub lined_from-append : (styling : Styling) (calls more : List Call) (it : Lined)
    → lined_from styling it (calls ++ more) ≡ lined_from styling it calls ++ lined_from styling (lined_at_end it calls) more
lined_from-append styling [] more it = refl
lined_from-append styling (call ∷ calls) more it =
    let text = lined_call styling it call in
    let after = lined_after call it in
    ap (λ t. text ++ t) (lined_from-append styling calls more after)
    ∙ sym (append_assoc text (lined_from styling after calls) (lined_from styling (lined_at_end after calls) more))

pub lined_at_end-append : (calls more : List Call) (it : Lined) → lined_at_end it (calls ++ more) ≡ lined_at_end (lined_at_end it calls) more
lined_at_end-append [] more it = refl
lined_at_end-append (call ∷ calls) more it = lined_at_end-append calls more (lined_after call it)

module _ {W : Type 0} (sink : SinkOf W) where
  pub TakesCalls-none : (performer : LinesWriter W) → TakesCalls sink performer [] performer
  TakesCalls-none performer = record { styling = refl; standing = refl; added = Adds-nil sink (output_of performer) }

  pub TakesCalls-one : (old : LinesWriter W) (call : Call) (new : LinesWriter W) → TakesCall sink old call new → TakesCalls sink old (call ∷ []) new
  TakesCalls-one old call new takes = record {
    styling = takes.styling;
    standing = takes.standing;
    added = subst (λ t. Adds sink t (output_of old) (output_of new)) (sym (append-nil (lined_call (styling_of old) (lined_of old) call))) takes.added;
  }

  pub TakesCalls-more : (old middle new : LinesWriter W) (calls more : List Call) → TakesCalls sink old calls middle → TakesCalls sink middle more new → TakesCalls sink old (calls ++ more) new
  TakesCalls-more old middle new calls more first second =
      let styling = styling_of old in
      let it = lined_of old in
      record {
        styling = second.styling ∙ first.styling;
        standing = second.standing ∙ ap (λ at. lined_at_end at more) first.standing ∙ sym (lined_at_end-append calls more it);
        added = subst (λ t. Adds sink t (output_of old) (output_of new))
            (ap₂ (λ said after. lined_from styling it calls ++ lined_from said after more) first.styling first.standing ∙ sym (lined_from-append styling calls more it))
            (Adds-append sink (lined_from styling it calls) (text_from middle more) (output_of old) (output_of middle) (output_of new) first.added second.added);
      }

  -- what lists of calls do to it agrees with what each call means
  pub TakesCalls-follows : FollowsCalls (TakesCall sink) (TakesCalls sink)
  TakesCalls-follows = record { none = TakesCalls-none; one = TakesCalls-one; more = TakesCalls-more }

  -- what ends the elements that are open after the calls
  pub ending_from-taken : (old new : LinesWriter W) (calls : List Call) → TakesCalls sink old calls new → ending_from new [] ≡ ending_from old calls
  ending_from-taken old new calls taken = ap lined_end taken.standing
