-- Lists that are joined by a byte, one after another.
use Rattle.std.proofs.Common.{◌≡◌, ℕ, Bool, true, false, List, [], ◌∷◌, ◌++◌, refl, sym, ap, ◌∙◌, append_assoc, append-nil}
use Rattle.std.specs.Prelude.{if◌then◌else◌}
use Rattle.std.specs.List.{join_with_byte}

-- the lists, each with the byte before it
abbrev pub behind : ℕ → List (List ℕ) → List ℕ
behind c [] = []
behind c (x ∷ xs) = c ∷ (x ++ behind c xs)

-- what is left of lists that are joined by the byte: all of them, or those after the first
abbrev pub joined_rest : Bool → ℕ → List (List ℕ) → List ℕ
joined_rest true c xs = join_with_byte c xs
joined_rest false c xs = behind c xs

join_with_byte-cons : (c : ℕ) (x : List ℕ) (xs : List (List ℕ)) → join_with_byte c (x ∷ xs) ≡ x ++ behind c xs
join_with_byte-cons c x [] = sym (append-nil x)
join_with_byte-cons c x (y ∷ xs) = ap (λ l. x ++ (c ∷ l)) (join_with_byte-cons c y xs)

-- the separator, where one is due, and the next list
pub joined_rest-cons : (is_first : Bool) (c : ℕ) (x : List ℕ) (xs : List (List ℕ)) → joined_rest is_first c (x ∷ xs) ≡ (if is_first then [] else c ∷ []) ++ (x ++ behind c xs)
joined_rest-cons true c x xs = join_with_byte-cons c x xs
joined_rest-cons false c x xs = refl

-- one list more of a join is done
pub joined_rest-more : (done whole : List ℕ) (is_first : Bool) (c : ℕ) (x : List ℕ) (left : List (List ℕ)) (rest : List (List ℕ)) → left ≡ x ∷ rest
    → done ++ joined_rest is_first c left ≡ whole → ((done ++ (if is_first then [] else c ∷ [])) ++ x) ++ behind c rest ≡ whole
joined_rest-more done whole is_first c x left rest e h =
    let separator = if is_first then [] else c ∷ [] in
    append_assoc (done ++ separator) x (behind c rest)
    ∙ append_assoc done separator (x ++ behind c rest)
    ∙ ap (λ l. done ++ l) (sym (joined_rest-cons is_first c x rest))
    ∙ ap (λ l. done ++ joined_rest is_first c l) (sym e)
    ∙ h

-- all lists of a join are done
pub joined_rest-none : (done whole : List ℕ) (is_first : Bool) (c : ℕ) (left : List (List ℕ)) → left ≡ [] → done ++ joined_rest is_first c left ≡ whole → done ≡ whole
joined_rest-none done whole is_first c left e h =
    sym (append-nil done) ∙ ap (λ l. done ++ l) (sym (none is_first)) ∙ ap (λ l. done ++ joined_rest is_first c l) (sym e) ∙ h
  where
    none : (b : Bool) → joined_rest b c [] ≡ []
    none true = refl
    none false = refl
