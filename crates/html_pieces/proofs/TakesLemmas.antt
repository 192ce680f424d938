-- Bytes that are taken, and then others.
use Rattle.std.proofs.Common.{◌≡◌, ◌+◌, ℕ, List, [], ◌++◌, take, drop, refl, sym, ap, ap₂, ◌∙◌, subst, arith, append-nil, append_assoc, length-drop}
use Rattle.stream_state.specs.Log.{StandsForLog}
use Rattle.stream_state.proofs.LogLemmas.{ContinuesLog-append, ContinuesLog-nil}
use Rattle.stream_state.proofs.LentLemmas.{both-front, both-behind, both-length}
use Rattle.ansi_html.specs.AddingProof.{html_from-append, standing_at_end-append}
use Rattle.ansi_html.specs.Html.{Standing, html_from, standing_at_end}
use Rattle.html_pieces.specs.declared.state.HtmlState.{HtmlState}
use Rattle.html_pieces.specs.State.{styling_in, standing_of}
use Rattle.html_pieces.specs.Feed.{Takes}

-- none
pub Takes-nil : (state : HtmlState) (room : List ℕ) → Takes state state [] room room 0
Takes-nil state room = record {
  calls = [];
  continues = λ before is. ContinuesLog-nil before;
  stream = λ before is. subst (λ l. StandsForLog state.stream l) (sym (append-nil before)) is;
  styling = refl;
  standing = refl;
  same_length = refl;
  written_fits = omega arith;
  html = refl;
  untouched = refl;
}

-- some, and then others, whose HTML goes to what is left of the room
module _ (old mid new : HtmlState) (piece more room between rest after : List ℕ) (written further : ℕ)
    (one : Takes old mid piece room between written) (two : Takes mid new more (drop written between) rest further)
    (whole : after ≡ take written between ++ rest) where
  html-both : take (written + further) after ≡ html_from (styling_in old) (standing_of old) (one.calls ++ two.calls)
  html-both =
      both-front room between rest after written further one.same_length one.written_fits whole ∙ ap₂ (λ (l r : List ℕ). l ++ r) one.html two.html
      ∙ ap₂ (λ styling (at : Standing). html_from (styling_in old) (standing_of old) one.calls ++ html_from styling at two.calls) one.styling one.standing
      ∙ sym (html_from-append (styling_in old) one.calls two.calls (standing_of old))

  pub Takes-append : Takes old new (piece ++ more) room after (written + further)
  Takes-append = record {
    calls = one.calls ++ two.calls;
    continues = λ before is. ContinuesLog-append before piece more one.calls two.calls (one.continues before is) (two.continues (before ++ piece) (one.stream before is));
    stream = λ before is. subst (λ l. StandsForLog new.stream l) (append_assoc before piece more) (two.stream (before ++ piece) (one.stream before is));
    styling = two.styling ∙ one.styling;
    standing = two.standing ∙ ap (λ (at : Standing). standing_at_end at two.calls) one.standing ∙ sym (standing_at_end-append one.calls two.calls (standing_of old));
    same_length = both-length room between rest after written further one.same_length one.written_fits whole two.same_length;
    written_fits = omega (arith, two.written_fits, length-drop written between, one.same_length, one.written_fits);
    html = html-both;
    untouched = both-behind room between rest after written further one.same_length one.written_fits whole two.untouched one.untouched;
  }
