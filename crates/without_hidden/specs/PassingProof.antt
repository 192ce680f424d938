-- No definition, but proofs: the language wants those of a trait's laws among the specs.
-- The calls that stay of lists, one after another.
use Rattle.std.proofs.Common.{◌≡◌, ℕ, Bool, true, false, List, [], ◌∷◌, ◌++◌, refl, sym, ap, ◌∙◌, subst, append_assoc}
use Rattle.std.specs.Prelude.{if◌then◌else◌}
use Rattle.anstyle_parse.specs.Stream.Call.{Call}
use Rattle.anstyle_parse.specs.Stream.Texts.{FollowsCalls}
use Rattle.ansi_style.specs.declared.style.Style.{Style}
use Rattle.ansi_style.specs.Style.{plain}
use Rattle.ansi_style.specs.Rendition.{style_after}
use Rattle.without_hidden.specs.declared.performer.WithoutHidden.{WithoutHidden}
use Rattle.without_hidden.specs.Hidden.{stays, without_hidden, style_from}
use Rattle.without_hidden.specs.Passing.{performer_in, style_in, HandsOnWhere, HandsOn, ReceivesShown, IsNewShown}

-- calls and then others
pub without-append : (style : Style) (calls more : List Call) → without_hidden style (calls ++ more) ≡ without_hidden style calls ++ without_hidden (style_from style calls) more
without-append style [] more = refl
without-append style (call ∷ calls) more =
    let first : List Call = if stays style call then call ∷ [] else [] in
    ap (λ l. first ++ l) (without-append (style_after call style) calls more)
    ∙ sym (append_assoc first (without_hidden (style_after call style) calls) (without_hidden (style_from (style_after call style) calls) more))

pub style-append : (style : Style) (calls more : List Call) → style_from style (calls ++ more) ≡ style_from (style_from style calls) more
style-append style [] more = refl
style-append style (call ∷ calls) more = style-append (style_after call style) calls more

module _ {P : Type 0} (means : P → Call → P → Type 0) (receives : P → List Call → P → Type 0) (follows : FollowsCalls means receives) where
  one-where : (t : Bool) (old : P) (call : Call) (new : P) → HandsOnWhere t means old call new → receives old ((if t then call ∷ [] else []) ++ []) new
  one-where true old call new is = follows.one old call new is
  one-where false old call new is = subst (λ (p : P). receives old [] p) (sym is) (follows.none old)

  pub shown-none : (it : WithoutHidden P) → ReceivesShown receives it [] it
  shown-none it = record { performer = follows.none (performer_in it); style = refl }

  shown-one : (old : WithoutHidden P) (call : Call) (new : WithoutHidden P) → HandsOn means old call new → ReceivesShown receives old (call ∷ []) new
  shown-one old call new is = record {
    performer = one-where (stays (style_in old) call) (performer_in old) call (performer_in new) is.performer;
    style = is.style;
  }

  pub shown-more : (old middle new : WithoutHidden P) (calls more : List Call) → ReceivesShown receives old calls middle → ReceivesShown receives middle more new
      → ReceivesShown receives old (calls ++ more) new
  shown-more old middle new calls more first second =
      let then_received : receives (performer_in middle) (without_hidden (style_from (style_in old) calls) more) (performer_in new) =
      subst (λ (s : Style). receives (performer_in middle) (without_hidden s more) (performer_in new)) first.style second.performer in
      record {
        performer = subst (λ (l : List Call). receives (performer_in old) l (performer_in new)) (sym (without-append (style_in old) calls more))
            (follows.more (performer_in old) (performer_in middle) (performer_in new) (without_hidden (style_in old) calls)
            (without_hidden (style_from (style_in old) calls) more) first.performer then_received);
        style = second.style ∙ (ap (λ (s : Style). style_from s more) first.style ∙ sym (style-append (style_in old) calls more));
      }

  -- what lists of calls do to it agrees with what each call means
  pub shown-follows : FollowsCalls (HandsOn means) (ReceivesShown receives)
  shown-follows = record { none = shown-none; one = shown-one; more = shown-more }

-- one that has received no call
pub of_new : {P : Type 0} (is_new : P → Type 0) (from : P → List Call → List ℕ) (text : List Call → List ℕ)
    → ((performer : P) → is_new performer → (calls : List Call) → from performer calls ≡ text calls)
    → (it : WithoutHidden P) → IsNewShown is_new it → (calls : List Call)
    → from (performer_in it) (without_hidden (style_in it) calls) ≡ text (without_hidden plain calls)
of_new is_new from text of it new calls =
    of (performer_in it) new.performer (without_hidden (style_in it) calls) ∙ ap (λ (s : Style). text (without_hidden s calls)) new.style
