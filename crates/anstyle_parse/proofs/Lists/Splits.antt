-- The parts that a split gives, where something stands before their first part.
use Rattle.std.proofs.Common.{◌≡◌, ℕ, ◌+◌, Bool, true, false, List, [], ◌∷◌, ◌++◌, length, refl, sym, ap, ◌∙◌, append_assoc, append-nil, length-append, All}
use Rattle.std.specs.List.{slice_split, onto_first, concat}
use Rattle.std.proofs.lemmas.List.Splits.{slice_split-cons_yes, slice_split-cons_no}
use Rattle.std.proofs.lemmas.List.Elements.{All-head, All-tail}
use Rattle.std.proofs.lemmas.List.Folds.{concat-append}

-- the list, put before the first of the parts
abbrev pub onto_front : {X : Type 0} → List X → List (List X) → List (List X)
onto_front front [] = front ∷ []
onto_front front (part ∷ parts) = (front ++ part) ∷ parts

-- an element put before the first part stands after what is put before it
pub onto_front-onto_first : {X : Type 0} (front : List X) (x : X) (parts : List (List X)) → onto_front front (onto_first x parts) ≡ onto_front (front ++ x ∷ []) parts
onto_front-onto_first front x [] = refl
onto_front-onto_first front x (part ∷ parts) = ap (λ list. list ∷ parts) (sym (append_assoc front (x ∷ []) part))

-- there is a first part
pub record Parts {X : Type 0} (parts : List (List X)) : Type 0 where
  pub head : List X
  pub tail : List (List X)
  pub is : parts ≡ head ∷ tail

Parts-onto_first : {X : Type 0} (x : X) (parts : List (List X)) → Parts (onto_first x parts)
Parts-onto_first x [] = record { head = x ∷ []; tail = []; is = refl }
Parts-onto_first x (part ∷ parts) = record { head = x ∷ part; tail = parts; is = refl }

Parts-step : {X : Type 0} (p : X → Bool) (x : X) (xs : List X) (b : Bool) → p x ≡ b → Parts (slice_split p (x ∷ xs))
Parts-step p x xs true e = record { head = []; tail = slice_split p xs; is = slice_split-cons_yes p x xs e }
Parts-step p x xs false e =
    let parts : Parts (onto_first x (slice_split p xs)) = Parts-onto_first x (slice_split p xs) in
    record { head = parts.head; tail = parts.tail; is = slice_split-cons_no p x xs e ∙ parts.is }

pub Parts-slice_split : {X : Type 0} (p : X → Bool) (xs : List X) → Parts (slice_split p xs)
Parts-slice_split p [] = record { head = []; tail = []; is = refl }
Parts-slice_split p (x ∷ xs) = Parts-step p x xs (p x) refl

-- nothing put before the first part changes nothing
pub onto_front-nil : {X : Type 0} (p : X → Bool) (xs : List X) → onto_front [] (slice_split p xs) ≡ slice_split p xs
onto_front-nil p xs = let parts : Parts (slice_split p xs) = Parts-slice_split p xs in ap (onto_front []) parts.is ∙ sym parts.is

-- elements of which none passes stand before the first part
pub slice_split-append : {X : Type 0} (p : X → Bool) (xs ys : List X) → All (λ x. p x ≡ false) xs → slice_split p (xs ++ ys) ≡ onto_front xs (slice_split p ys)
slice_split-append p [] ys none = sym (onto_front-nil p ys)
slice_split-append p (x ∷ xs) ys none =
    slice_split-cons_no p x (xs ++ ys) (All-head (λ y. p y ≡ false) x xs none)
    ∙ (ap (onto_first x) (slice_split-append p xs ys (All-tail (λ y. p y ≡ false) x xs none)) ∙ onto_first-onto_front x xs (slice_split p ys))
  where
    onto_first-onto_front : {X : Type 0} (x : X) (xs : List X) (parts : List (List X)) → onto_first x (onto_front xs parts) ≡ onto_front (x ∷ xs) parts
    onto_first-onto_front x xs [] = refl
    onto_first-onto_front x xs (part ∷ parts) = refl

-- one more part at the end adds its elements
pub length-concat_push : (parts : List (List ℕ)) (part : List ℕ) → length (concat (parts ++ part ∷ [])) ≡ length (concat parts) + length part
length-concat_push parts part =
    ap length (concat-append parts (part ∷ []) ∙ ap (λ list. concat parts ++ list) (append-nil part)) ∙ length-append (concat parts) part
