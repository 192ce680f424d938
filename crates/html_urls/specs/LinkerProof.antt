-- No definition, but proofs: the language wants those of a trait's laws among the specs.
-- Calls that are taken one after another are one list of calls.
use Rattle.std.proofs.Common.{◌≡◌, ℕ, List, [], ◌∷◌, ◌++◌, refl, sym, ap, ap₂, ◌∙◌, subst, append_assoc, append-nil}
use Rattle.std.proofs.lemmas.List.{append_cancel_left}
use Rattle.anstyle_parse.specs.Stream.Call.{Call}
use Rattle.anstyle_parse.specs.Stream.Texts.{FollowsCalls}
use Rattle.html_urls.specs.declared.linking.Linking.{Linking}
use Rattle.html_urls.specs.Linked.{Standing, handed, standing_after, handed_from, standing_at_end, left_from}
use Rattle.html_urls.specs.Resumed.{Resumes}
use Rattle.html_urls.specs.Linker.{performer_in, standing_of, TakesCall, Takes, text_from, text_after, ending_from}

-- what is handed on by two lists of calls, one after another, and where they lead
pub handed_from-append : (at : Standing) (calls more : List Call)
    → handed_from at (calls ++ more) ≡ handed_from at calls ++ handed_from (standing_at_end at calls) more
handed_from-append at [] more = refl
handed_from-append at (call ∷ calls) more =
    let first = handed at call in
    let after = standing_after at call in
    ap (λ l. first ++ l) (handed_from-append after calls more)
    ∙ sym (append_assoc first (handed_from after calls) (handed_from (standing_at_end after calls) more))

pub standing_at_end-append : (at : Standing) (calls more : List Call)
    → standing_at_end at (calls ++ more) ≡ standing_at_end (standing_at_end at calls) more
standing_at_end-append at [] more = refl
standing_at_end-append at (call ∷ calls) more = standing_at_end-append (standing_after at call) calls more

module _ {P : Type 0} (receives : P → List Call → P → Type 0) where
  pub Takes-none : ((performer : P) → receives performer [] performer) → (linking : Linking P) → Takes receives linking [] linking
  Takes-none none linking = record { standing = refl; received = none (performer_in linking) }

  pub Takes-one : (old : Linking P) (call : Call) (new : Linking P) → TakesCall receives old call new → Takes receives old (call ∷ []) new
  Takes-one old call new takes = record {
    standing = takes.standing;
    received = subst (λ (l : List Call). receives (performer_in old) l (performer_in new)) (sym (append-nil (handed (standing_of old) call))) takes.received;
  }

  pub Takes-more : ((old middle new : P) (calls more : List Call) → receives old calls middle → receives middle more new → receives old (calls ++ more) new)
      → (old middle new : Linking P) (calls more : List Call) → Takes receives old calls middle → Takes receives middle more new
      → Takes receives old (calls ++ more) new
  Takes-more join old middle new calls more first second =
      let at = standing_of old in
      let then : List Call = handed_from (standing_at_end at calls) more in
      record {
        standing = second.standing ∙ ap (λ it. standing_at_end it more) first.standing ∙ sym (standing_at_end-append at calls more);
        received = subst (λ (l : List Call). receives (performer_in old) l (performer_in new)) (sym (handed_from-append at calls more))
            (join (performer_in old) (performer_in middle) (performer_in new) (handed_from at calls) then first.received
            (subst (λ (it : Standing). receives (performer_in middle) (handed_from it more) (performer_in new)) first.standing second.received));
      }

  -- what lists of calls do to it agrees with what each call means
  pub Takes-follows : (means : P → Call → P → Type 0) → FollowsCalls means receives → FollowsCalls (TakesCall receives) (Takes receives)
  Takes-follows means follows = record { none = Takes-none follows.none; one = Takes-one; more = Takes-more follows.more }

-- What is then still to be written is what was.
pub ends-taken : {P : Type 0} {receives : P → List Call → P → Type 0} {written : P → List Call → List ℕ}
    {after : P → (calls more : List Call) → List ℕ} {ending : P → List Call → List ℕ}
    → Resumes receives written after ending → ((performer : P) → receives performer [] performer)
    → (old : Linking P) (calls : List Call) (new : Linking P) → Takes receives old calls new
    → ending_from after ending new [] ≡ ending_from after ending old calls
ends-taken {after} {ending} goes_on none old calls new taken =
    let at = standing_of old in
    let made = handed_from at calls in
    let left = left_from at calls in
    let here = performer_in new in
    ap (λ it. after here [] (left_from it []) ++ ending here (left_from it [])) taken.standing
    ∙ ap₂ (λ text end. text ++ end)
    (sym (goes_on.same_text here [] here (none here) left) ∙ goes_on.same_text (performer_in old) made here taken.received left)
    (goes_on.same_ending (performer_in old) made here taken.received left)

module _ {P : Type 0} {receives : P → List Call → P → Type 0} {written : P → List Call → List ℕ} {after : P → (calls more : List Call) → List ℕ}
    {ending : P → List Call → List ℕ} (goes_on : Resumes receives written after ending) where
  -- what is written of calls in two steps, by one that received others before
  after-parts : (old : P) (calls : List Call) (new : P) → receives old calls new → (first second : List Call)
      → after new first second ≡ after old (calls ++ first) second
  after-parts old calls new received first second =
      let before = written old calls in
      let one = after old calls first in
      append_cancel_left (before ++ one) (after new first second) (after old (calls ++ first) second)
      (append_assoc before one (after new first second)
      ∙ ap (λ l. before ++ l) (ap (λ l. l ++ after new first second) (sym (goes_on.same_text old calls new received first))
      ∙ goes_on.joined new first second
      ∙ goes_on.same_text old calls new received (first ++ second))
      ∙ goes_on.joined old calls (first ++ second)
      ∙ ap (written old) (sym (append_assoc calls first second))
      ∙ sym (goes_on.joined old (calls ++ first) second)
      ∙ ap (λ l. l ++ after old (calls ++ first) second) (sym (goes_on.joined old calls first)))

  linking-text : (old : Linking P) (calls : List Call) (new : Linking P) → Takes receives old calls new → (more : List Call)
      → text_from written new more ≡ text_after after old calls more
  linking-text old calls new taken more =
      let made = handed_from (standing_of old) calls in
      goes_on.same_text (performer_in old) made (performer_in new) taken.received (handed_from (standing_of new) more)
      ∙ ap (λ it. after (performer_in old) made (handed_from it more)) taken.standing

  linking-ending : (old : Linking P) (calls : List Call) (new : Linking P) → Takes receives old calls new → (more : List Call)
      → ending_from after ending new more ≡ ending_from after ending old (calls ++ more)
  linking-ending old calls new taken more =
      let at = standing_of old in
      let here = performer_in old in
      let then = performer_in new in
      let made = handed_from at calls in
      let behind = standing_at_end at calls in
      let next = handed_from behind more in
      let left = left_from behind more in
      ap (λ it. after then (handed_from it more) (left_from it more) ++ ending then (handed_from it more ++ left_from it more)) taken.standing
      ∙ ap₂ (λ text end. text ++ end) (after-parts here made then taken.received next left)
      (goes_on.same_ending here made then taken.received (next ++ left) ∙ ap (ending here) (sym (append_assoc made next left)))
      ∙ ap₂ (λ l it. after here l (left_from it []) ++ ending here (l ++ left_from it [])) (sym (handed_from-append at calls more)) (sym (standing_at_end-append at calls more))

  linking-joined : (linking : Linking P) (calls more : List Call)
      → text_from written linking calls ++ text_after after linking calls more ≡ text_from written linking (calls ++ more)
  linking-joined linking calls more =
      let at = standing_of linking in
      goes_on.joined (performer_in linking) (handed_from at calls) (handed_from (standing_at_end at calls) more)
      ∙ ap (written (performer_in linking)) (sym (handed_from-append at calls more))

  -- it goes on as the performer that it hands on to
  pub linking-goes_on : Resumes (Takes receives) (text_from written) (text_after after) (ending_from after ending)
  linking-goes_on = record { same_text = linking-text; same_ending = linking-ending; joined = linking-joined }
