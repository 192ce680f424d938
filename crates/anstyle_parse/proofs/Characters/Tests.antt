-- The tests for the prefixes of a character agree with the words: some bytes after them make
-- a well-formed sequence.
use Rattle.std.proofs.Common.{◌≡◌, ◌≢◌, ◌≤◌, ℕ, suc, Bool, true, ◌&&◌, leb, List, [], ◌∷◌, ◌++◌, length, IsTrue, ◌↔◌, ⊎_elim, refl, sym, ap, ◌∙◌, append-nil, arith}
use Rattle.std.specs.Prelude.{◌==◌}
use Rattle.std.specs.List.{list_any, list_all}
use Rattle.std.proofs.lemmas.Bool.{false≢true, and_parts, and_from, or_cases, or_left, or_right, eq-eqb, both_ways}
use Rattle.std.proofs.lemmas.Bool.Decides.{nat_tests}
use Rattle.anstyle_parse.specs.Stream.Bytes.{is_within, Span}
use Rattle.anstyle_parse.specs.Stream.Characters.{rows, begins, is_well_formed, is_proper_front, IsFront, IsProperFront}
use Rattle.anstyle_parse.proofs.Characters.Table.{is_front, is_front-well_formed, is_front-proper, is_front-prefix, is_proper_front-before, is_proper_front-nil, is_well_formed-proper}

-- A list with an element that passes one test has one that passes another with some value, if
-- that holds of each element.
list_any-witness : {X W : Type 0} (fits p : X → Bool) (q : W → X → Bool)
    → ((x : X) → fits x ≡ true → p x ≡ true → (w : W) × (q w x ≡ true))
    → (xs : List X) → list_all fits xs ≡ true → list_any p xs ≡ true → (w : W) × (list_any (q w) xs ≡ true)
list_any-witness fits p q give [] f e = absurd (false≢true e)
list_any-witness fits p q give (x ∷ xs) f e =
    let fs = and_parts (fits x) (list_all fits xs) f in
    ⊎_elim
    (λ here. let w = give x fs.0 here in (w.0, or_left (q w.0 x) (list_any (q w.0) xs) w.1))
    (λ there. let w = list_any-witness fits p q give xs fs.1 there in (w.0, or_right (q w.0 x) (list_any (q w.0) xs) w.1))
    (or_cases (p x) (list_any p xs) e)

-- some byte may stand at the place
abbrev is_inhabited : Span → Bool
is_inhabited place = leb place.first place.last

-- a whole row
abbrev fills : List ℕ → List Span → Bool
fills bytes row = begins row bytes && length bytes == length row

-- the first byte of each place that is left makes a prefix whole
fills-first : (row : List Span) (x : List ℕ) → list_all is_inhabited row ≡ true → begins row x ≡ true
    → (rest : List ℕ) × (begins row (x ++ rest) ≡ true) × (length (x ++ rest) ≡ length row)
unfolding is_within
fills-first [] [] f e = ([], refl, refl)
fills-first [] (b ∷ x) f e = absurd (false≢true e)
fills-first (place ∷ row) [] f e =
    let fs = and_parts (is_inhabited place) (list_all is_inhabited row) f in
    let others = fills-first row [] fs.1 refl in
    (place.first ∷ others.0, and_from _ _ (grind (arith, nat_tests)) others.1, ap suc others.2)
fills-first (place ∷ row) (b ∷ x) f e =
    let fs = and_parts (is_inhabited place) (list_all is_inhabited row) f in
    let es = and_parts (is_within place.first place.last b) (begins row x) e in
    let others = fills-first row x fs.1 es.1 in
    (others.0, and_from (is_within place.first place.last b) (begins row (x ++ others.0)) es.0 others.1, ap suc others.2)

-- a list that passes the test for a prefix is one
IsFront-from_test : (bytes : List ℕ) → IsTrue (is_front bytes) → IsFront bytes
unfolding is_front is_well_formed
IsFront-from_test bytes =
    list_any-witness (list_all is_inhabited) (λ row. begins row bytes) (λ rest row. fills (bytes ++ rest) row)
    (λ row f e.
    let w = fills-first row bytes f e in
    (w.0, and_from _ _ w.1 (eq-eqb (length (bytes ++ w.0)) (length row) w.2)))
    rows refl

-- The test for a prefix agrees with the words.
pub IsFront-test : (bytes : List ℕ) → IsTrue (is_front bytes) ↔ IsFront bytes
IsFront-test bytes =
    (IsFront-from_test bytes, λ is. is_front-prefix bytes is.0 (is_front-well_formed (bytes ++ is.0) is.1))

-- a list that passes the test for a proper prefix is one
IsProperFront-from_test : (bytes : List ℕ) → IsTrue (is_proper_front bytes) → IsProperFront bytes
IsProperFront-from_test bytes h =
    let is = IsFront-from_test bytes (is_front-proper bytes h) in
    record {
      begun = λ e. both_ways (is_proper_front bytes) (ap is_proper_front e ∙ is_proper_front-nil) h;
      rest = is.0;
      proper = λ e. both_ways (is_well_formed bytes) (is_well_formed-proper bytes h)
          (ap is_well_formed (sym (append-nil bytes) ∙ ap (λ rest. bytes ++ rest) (sym e)) ∙ is.1);
      whole = is.1;
    }

-- and the other way round
test-from_IsProperFront : (bytes rest : List ℕ) → bytes ≢ [] → rest ≢ []
    → IsTrue (is_well_formed (bytes ++ rest)) → IsTrue (is_proper_front bytes)
test-from_IsProperFront [] rest begun proper whole = absurd (begun refl)
test-from_IsProperFront (a ∷ x) [] begun proper whole = absurd (proper refl)
test-from_IsProperFront (a ∷ x) (b ∷ rest) begun proper whole = is_proper_front-before a x b rest whole

-- a proper prefix has a byte
pub length-IsProperFront : (bytes : List ℕ) → IsProperFront bytes → 1 ≤ length bytes
length-IsProperFront [] is = absurd (is.begun refl)
length-IsProperFront (a ∷ x) is = omega arith

-- The test for a proper prefix agrees with the words.
pub IsProperFront-test : (bytes : List ℕ) → IsTrue (is_proper_front bytes) ↔ IsProperFront bytes
IsProperFront-test bytes =
    (IsProperFront-from_test bytes, λ is. test-from_IsProperFront bytes is.rest is.begun is.proper is.whole)
