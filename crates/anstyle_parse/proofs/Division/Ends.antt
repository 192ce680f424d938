-- Where a list of bytes ends inside a character: its last item is the front that is open.
use Rattle.std.proofs.Common.{◌≡◌, ℕ, List, [], ◌∷◌, ◌++◌, refl, sym, ap, ◌∙◌, subst, append_assoc, append-nil, reverse, ◌↔◌}
use Rattle.std.proofs.lemmas.List.{reverse-append}
use Rattle.anstyle_parse.specs.declared.state.definitions.State.TheVariants.{Utf8}
use Rattle.anstyle_parse.specs.Stream.Items.{Item, begun, sequence, items_text, unfinished, MayPrecede, AreJoined, IsDivision}
use Rattle.anstyle_parse.specs.Machine.Step.{Machine}
use Rattle.anstyle_parse.specs.Machine.Stands.{StandsAfter, EndsInCharacter}
use Rattle.anstyle_parse.proofs.Division.Grow.{Open, nothing, front, inside, last_items, divide, open_after, done_items}
use Rattle.anstyle_parse.proofs.Division.Split.{divide-split, divide-append}
use Rattle.anstyle_parse.proofs.Division.Exists.{IsDivision-divide}
use Rattle.anstyle_parse.proofs.Division.Only.{IsDivision-only}
use Rattle.anstyle_parse.proofs.Agreement.Whole.{StandsAfter-state}

-- two lists of items that are the same have the same last item
same_last : (items others : List Item) (item other : Item) → items ++ item ∷ [] ≡ others ++ other ∷ [] → item ≡ other
same_last items others item other e =
    let turned = sym (reverse-append items (item ∷ [])) ∙ (ap reverse e ∙ reverse-append others (other ∷ [])) in cc

-- joined items: each may stand before those after it
MayPrecede-joined : (items : List Item) (item : Item) (others : List Item) → AreJoined (items ++ item ∷ others) → MayPrecede item (items_text others)
MayPrecede-joined [] item others joined = joined.0
MayPrecede-joined (first ∷ items) item others joined = MayPrecede-joined items item others joined.1

-- no whole item is the front of a character, since another byte may follow it
done_items-last : (before bytes : List ℕ) (items : List Item) → open_after nothing before ≡ nothing → done_items nothing before ≡ items ++ begun bytes ∷ [] → ⊥
done_items-last before bytes items none e =
    let others : List Item = divide nothing (0 ∷ []) in
    let split : divide nothing (before ++ 0 ∷ []) ≡ items ++ begun bytes ∷ others =
    divide-append nothing before (0 ∷ [])
    ∙ (ap (λ o. done_items nothing before ++ divide o (0 ∷ [])) none
    ∙ (ap (λ first. first ++ others) e ∙ append_assoc items (begun bytes ∷ []) others)) in
    let last : items_text others ≡ [] =
    MayPrecede-joined items (begun bytes) others (subst (λ all. AreJoined all) split (IsDivision-divide (before ++ 0 ∷ [])).joined) in
    let whole : items_text others ≡ 0 ∷ [] = (IsDivision-divide (0 ∷ [])).whole in
    cc

-- so an item at the end that is begun is the one that is open
open-last : (o : Open) (before bytes : List ℕ) (items : List Item) → open_after nothing before ≡ o
    → items ++ begun bytes ∷ [] ≡ done_items nothing before ++ last_items o → o ≡ front bytes
open-last nothing before bytes items is e = absurd (done_items-last before bytes items is (sym (e ∙ append-nil (done_items nothing before))))
open-last (front others) before bytes items is e =
    let same = same_last items (done_items nothing before) (begun bytes) (begun others) e in cc
open-last (inside body) before bytes items is e =
    let same = same_last items (done_items nothing before) (begun bytes) (sequence body unfinished) e in cc

-- A list of bytes ends inside a character if what is open after it is a front, and only then.
pub EndsInCharacter-open : (before : List ℕ) → ((bytes : List ℕ) × (open_after nothing before ≡ front bytes)) ↔ EndsInCharacter before
EndsInCharacter-open before = (
  (λ is. (
    done_items nothing before,
    is.0,
    subst (λ items. IsDivision items before)
        (divide-split nothing before ∙ ap (λ o. done_items nothing before ++ last_items o) is.1) (IsDivision-divide before),
  )),
  (λ ends. (
    ends.1,
    open-last (open_after nothing before) before ends.1 ends.0 refl
        (IsDivision-only (ends.0 ++ begun ends.1 ∷ []) before ends.2 ∙ divide-split nothing before),
  )),
)

-- A machine is inside a character if the bytes that it stands after end inside one, and only then.
pub EndsInCharacter-state : (m : Machine (List ℕ)) (before : List ℕ) → StandsAfter m before → (m.state ≡ Utf8) ↔ EndsInCharacter before
EndsInCharacter-state m before stands =
    let state = StandsAfter-state m before stands in
    let ends = EndsInCharacter-open before in
    ((λ e. ends.0 (state.0 e)), (λ e. state.1 (ends.1 e)))
