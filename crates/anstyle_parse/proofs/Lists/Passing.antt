-- Lists of bytes that all pass a test, and lists joined and split.
use Rattle.std.proofs.Common.{◌≡◌, ℕ, ◌<◌, Bool, true, false, not, ◌||◌, List, [], ◌∷◌, ◌++◌, map, All, refl, sym, ap, ◌∙◌, eqb, eq-eqb, append_assoc}
use Rattle.std.specs.List.{AllByRecursion, filter, join_with_byte, slice_split}
use Rattle.std.proofs.lemmas.Bool.{not-true, agree_below, agree_below_at, cond-true, cond-false, cond_both}
use Rattle.std.proofs.lemmas.List.Elements.{All-from_recursion}
use Rattle.std.proofs.lemmas.List.Splits.{slice_split_none, slice_split_at}
use Rattle.anstyle_parse.specs.Stream.Items.{EachIs}
use Rattle.anstyle_parse.proofs.Bytes.Passing.{EachIs-append}

or-second : (p q : Bool) → (not p || q) ≡ true → p ≡ true → q ≡ true
or-second true q e h = e
or-second false q e h = cc

-- one test implies another at each number below n; at a written-out n the premise computes
pub implied : (p q : ℕ → Bool) (n b : ℕ) → agree_below (λ x. not (p x) || q x) (λ x. true) n ≡ true → b < n → p b ≡ true → q b ≡ true
implied p q n b all below h = or-second (p b) (q b) (agree_below_at (λ x. not (p x) || q x) (λ x. true) n b all below) h

-- what holds of each element, and whatever follows from it
pub AllByRecursion-weaker : {X : Type 0} (P Q : X → Type 0) → ((x : X) → P x → Q x) → (xs : List X) → AllByRecursion P xs → AllByRecursion Q xs
AllByRecursion-weaker P Q step [] h = tt
AllByRecursion-weaker P Q step (x ∷ xs) h = (step x h.0, AllByRecursion-weaker P Q step xs h.1)

-- a filter passes what passes
pub EachIs-filter : (p : ℕ → Bool) (bytes : List ℕ) → EachIs p (filter p bytes)
EachIs-filter p [] = tt
EachIs-filter p (b ∷ bytes) =
    cond_both (p b) (b ∷ filter p bytes) (filter p bytes) (EachIs p) (λ e. (e, EachIs-filter p bytes)) (λ e. EachIs-filter p bytes)

-- where all pass, the filter keeps all
pub filter_all : (p : ℕ → Bool) (bytes : List ℕ) → EachIs p bytes → filter p bytes ≡ bytes
filter_all p [] h = refl
filter_all p (b ∷ bytes) h = cond-true (p b) (b ∷ filter p bytes) (filter p bytes) h.0 ∙ ap (λ l. b ∷ l) (filter_all p bytes h.1)

-- where none passes, it keeps none
pub filter_none : (p : ℕ → Bool) (bytes : List ℕ) → EachIs (λ b. not (p b)) bytes → filter p bytes ≡ []
filter_none p [] h = refl
filter_none p (b ∷ bytes) h = cond-false (p b) (b ∷ filter p bytes) (filter p bytes) (not-true (p b) h.0) ∙ filter_none p bytes h.1

-- no part has the byte
abbrev pub EachLacks : ℕ → List (List ℕ) → Type 0
EachLacks c parts = AllByRecursion (λ part. EachIs (λ b. not (eqb b c)) part) parts

All-lacks : (c : ℕ) (part : List ℕ) → EachIs (λ b. not (eqb b c)) part → All (λ b. eqb b c ≡ false) part
All-lacks c part h = All-from_recursion (λ b. eqb b c ≡ false) part (AllByRecursion-weaker (λ b. not (eqb b c) ≡ true) (λ b. eqb b c ≡ false) (λ b e. not-true (eqb b c) e) part h)

-- parts that lack the byte, joined by it and split at it, are the parts
pub slice_split-join_with_byte : (c : ℕ) (part : List ℕ) (parts : List (List ℕ)) → EachLacks c (part ∷ parts) → slice_split (λ b. eqb b c) (join_with_byte c (part ∷ parts)) ≡ part ∷ parts
slice_split-join_with_byte c part [] h = slice_split_none (λ b. eqb b c) part (All-lacks c part h.0)
slice_split-join_with_byte c part (next ∷ parts) h =
    slice_split_at (λ b. eqb b c) part c (join_with_byte c (next ∷ parts)) (All-lacks c part h.0) (eq-eqb c c refl)
    ∙ ap (λ l. part ∷ l) (slice_split-join_with_byte c next parts h.1)

-- one more part, which is empty, is one more byte between
pub join_with_byte-push_empty : (c : ℕ) (part : List ℕ) (parts : List (List ℕ)) → join_with_byte c (part ∷ (parts ++ [] ∷ [])) ≡ join_with_byte c (part ∷ parts) ++ c ∷ []
join_with_byte-push_empty c part [] = refl
join_with_byte-push_empty c part (next ∷ parts) =
    ap (λ l. part ++ c ∷ l) (join_with_byte-push_empty c next parts) ∙ sym (append_assoc part (c ∷ join_with_byte c (next ∷ parts)) (c ∷ []))

-- what holds of the parts and of the byte holds of the joined list
pub EachIs-join_with_byte : (test : ℕ → Bool) (c : ℕ) (parts : List (List ℕ)) → test c ≡ true → AllByRecursion (EachIs test) parts → EachIs test (join_with_byte c parts)
EachIs-join_with_byte test c [] e h = tt
EachIs-join_with_byte test c (part ∷ []) e h = h.0
EachIs-join_with_byte test c (part ∷ next ∷ parts) e h =
    EachIs-append test part (c ∷ join_with_byte c (next ∷ parts)) h.0 (e, EachIs-join_with_byte test c (next ∷ parts) e h.1)

-- what holds of each image holds of the mapped list
pub AllByRecursion-map : {X Y : Type 0} (P : Y → Type 0) (f : X → Y) (xs : List X) → AllByRecursion (λ x. P (f x)) xs → AllByRecursion P (map f xs)
AllByRecursion-map P f [] h = tt
AllByRecursion-map P f (x ∷ xs) h = (h.0, AllByRecursion-map P f xs h.1)
