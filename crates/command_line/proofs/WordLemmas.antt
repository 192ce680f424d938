-- Lists of words that are looked through.
use Rattle.std.proofs.Common.{◌≡◌, ℕ, Bool, true, false, cond, ◌||◌, List, [], ◌∷◌, ◌++◌, map, Bor, codes, refl, sym, ap, ◌∙◌}
use Rattle.std.specs.Prelude.{◌≢◌, bytes_eq, Option, None, Some, option_map, option_copied}
use Rattle.std.proofs.lemmas.List.{append_cancel_right}
use Rattle.std.proofs.lemmas.Bool.Decides.{same_from_decides}
use Rattle.std.proofs.lemmas.Slice.Eq.{bytes_eq-Decides}
use Rattle.std.specs.Option.{option_or}
use Rattle.std.specs.List.{list_any, find}
use Rattle.command_line.specs.Options.{after_option, last_value, is_valued}

-- a test of what is shown of each
pub list_any-map : {A B : Type 0} (test : B → Bool) (shown : A → B) (xs : List A) → list_any test (map shown xs) ≡ list_any (λ x. test (shown x)) xs
list_any-map test shown [] = refl
list_any-map test shown (x ∷ xs) = ap (λ rest. test (shown x) || rest) (list_any-map test shown xs)

-- the first of which what is shown passes
pub find-map : {A B : Type 0} (test : B → Bool) (shown : A → B) (xs : List A)
    → find test (map shown xs) ≡ option_map shown (find (λ x. test (shown x)) xs)
find-map test shown [] = refl
find-map test shown (x ∷ xs) = first_or (test (shown x)) shown x (find test (map shown xs)) (find (λ y. test (shown y)) xs) (find-map test shown xs)
  where
    first_or : {A B : Type 0} (passes : Bool) (shown : A → B) (x : A) (others : Option B) (rest : Option A) → others ≡ option_map shown rest
        → cond passes (Some (shown x)) others ≡ option_map shown (cond passes (Some x) rest)
    first_or true shown x others rest same = refl
    first_or false shown x others rest same = same

option_or-none : {A : Type 0} (o : Option A) → option_or o None ≡ o
option_or-none None = refl
option_or-none (Some x) = refl

option_or-assoc : {A : Type 0} (o p q : Option A) → option_or (option_or o p) q ≡ option_or o (option_or p q)
option_or-assoc None p q = refl
option_or-assoc (Some x) p q = refl

-- what the references of two options are to
pub option_copied-or : {A : Type 0} (o p : Option (Bor A)) → option_copied (option_or o p) ≡ option_or (option_copied o) (option_copied p)
option_copied-or None p = refl
option_copied-or (Some x) p = refl

-- one word more
pub last_value-push : (option : List ℕ) (words : List (List ℕ)) (word : List ℕ)
    → last_value option (words ++ word ∷ []) ≡ option_or (after_option option word) (last_value option words)
last_value-push option [] word = sym (option_or-none (after_option option word))
last_value-push option (first ∷ words) word =
    ap (λ o. option_or o (after_option option first)) (last_value-push option words word)
    ∙ option_or-assoc (after_option option word) (last_value option words) (after_option option first)

-- an option is a word and =, where what stands before its = is that word
pub valued-some : (word option name : List ℕ) → option ≡ name ++ 0x3D ∷ [] → bytes_eq name word ≡ is_valued word option
valued-some word option name is =
    let both = bytes_eq-Decides option (word ++ codes "=") in
    same_from_decides (bytes_eq name word) (bytes_eq option (word ++ codes "=")) (bytes_eq-Decides name word)
    ((λ e. append_cancel_right name word (0x3D ∷ []) (sym is ∙ both.0 e)), (λ same. both.1 (is ∙ ap (λ w. w ++ 0x3D ∷ []) same)))

-- and none where it has no = at its end
pub valued-none : (word option : List ℕ) → ((front : List ℕ) → option ≢ front ++ 0x3D ∷ []) → false ≡ is_valued word option
valued-none word option lacks = by_case (bytes_eq option (word ++ codes "=")) refl
  where
    by_case : (same : Bool) → bytes_eq option (word ++ codes "=") ≡ same → false ≡ same
    by_case true e = absurd (lacks word ((bytes_eq-Decides option (word ++ codes "=")).0 e))
    by_case false e = refl
