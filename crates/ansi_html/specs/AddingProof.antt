-- No definition, but proofs: the language wants those of a trait's laws among the specs.
-- Calls that a writer of HTML takes one after another are one list of calls.
use Rattle.std.proofs.Common.{◌≡◌, List, [], ◌∷◌, ◌++◌, refl, sym, ap, ap₂, ◌∙◌, subst, append_assoc, append-nil}
use Rattle.anstyle_parse.specs.declared.io.devices.Sink.{Ghosts as SinkOf}
use Rattle.anstyle_parse.specs.Stream.Call.{Call}
use Rattle.anstyle_parse.specs.Stream.Texts.{FollowsCalls}
use Rattle.anstyle_parse.specs.Io.Output.{Adds}
use Rattle.anstyle_parse.proofs.Written.Output.{Adds-nil, Adds-append}
use Rattle.ansi_html.specs.declared.scheme.Styling.{Styling}
use Rattle.ansi_html.specs.declared.performer.HtmlWriter.{HtmlWriter}
use Rattle.ansi_html.specs.Html.{Standing, call_html, standing_after, html_from, standing_at_end, element_end}
use Rattle.ansi_html.specs.Writer.{output_of, styling_of, standing_of, text_from, ending_from, Takes, TakesAll}

-- the HTML of two lists of calls, one after another, and where it stands at the end
pub html_from-append : (styling : Styling) (calls more : List Call) (at : Standing)
    → html_from styling at (calls ++ more) ≡ html_from styling at calls ++ html_from styling (standing_at_end at calls) more
html_from-append styling [] more at = refl
html_from-append styling (call ∷ calls) more at =
    let text = call_html styling at call in
    let after = standing_after call at in
    ap (λ t. text ++ t) (html_from-append styling calls more after)
    ∙ sym (append_assoc text (html_from styling after calls) (html_from styling (standing_at_end after calls) more))

pub standing_at_end-append : (calls more : List Call) (at : Standing) → standing_at_end at (calls ++ more) ≡ standing_at_end (standing_at_end at calls) more
standing_at_end-append [] more at = refl
standing_at_end-append (call ∷ calls) more at = standing_at_end-append calls more (standing_after call at)

module _ {W : Type 0} (sink : SinkOf W) where
  pub TakesAll-none : (performer : HtmlWriter W) → TakesAll sink performer [] performer
  TakesAll-none performer = record { styling = refl; standing = refl; added = Adds-nil sink (output_of performer) }

  pub TakesAll-one : (old : HtmlWriter W) (call : Call) (new : HtmlWriter W) → Takes sink old call new → TakesAll sink old (call ∷ []) new
  TakesAll-one old call new takes = record {
    styling = takes.styling;
    standing = takes.standing;
    added = subst (λ t. Adds sink t (output_of old) (output_of new)) (sym (append-nil (call_html (styling_of old) (standing_of old) call))) takes.added;
  }

  pub TakesAll-more : (old middle new : HtmlWriter W) (calls more : List Call) → TakesAll sink old calls middle → TakesAll sink middle more new → TakesAll sink old (calls ++ more) new
  TakesAll-more old middle new calls more first second =
      let styling = styling_of old in
      let at = standing_of old in
      record {
        styling = second.styling ∙ first.styling;
        standing = second.standing ∙ ap (λ it. standing_at_end it more) first.standing ∙ sym (standing_at_end-append calls more at);
        added = subst (λ t. Adds sink t (output_of old) (output_of new))
            (ap₂ (λ it after. html_from styling at calls ++ html_from it after more) first.styling first.standing ∙ sym (html_from-append styling calls more at))
            (Adds-append sink (html_from styling at calls) (text_from middle more) (output_of old) (output_of middle) (output_of new) first.added second.added);
      }

  -- what lists of calls do to it agrees with what each call means
  pub TakesAll-follows : FollowsCalls (Takes sink) (TakesAll sink)
  TakesAll-follows = record { none = TakesAll-none; one = TakesAll-one; more = TakesAll-more }

  -- the end of the element that is open after the calls
  pub ending_from-taken : (old new : HtmlWriter W) (calls : List Call) → TakesAll sink old calls new → ending_from new [] ≡ ending_from old calls
  ending_from-taken old new calls taken = ap (λ at. element_end at.shown) taken.standing
