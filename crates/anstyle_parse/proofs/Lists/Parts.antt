-- Parts of lists: fronts, and the parts at which a list is split.
use Rattle.std.proofs.Common.{◌≡◌, ℕ, zero, suc, ◌+◌, ◌-◌, ◌<◌, ◌≤◌, Bool, true, not, ◌&&◌, List, [], ◌∷◌, ◌++◌, length, take, refl, sym, ap, ◌∙◌, eqb, arith, length-append, length-take}
use Rattle.std.specs.List.{AllByRecursion, slice_split, onto_first, join_with_byte, filter}
use Rattle.std.proofs.lemmas.Bool.{and_from, not_from_false, cond_both}
use Rattle.std.proofs.lemmas.List.Splits.{length-slice_split, join_with_byte-slice_split}
use Rattle.anstyle_parse.specs.Stream.Items.{EachIs}

-- what holds of each holds of each of a front
pub AllByRecursion-take : {X : Type 0} (P : X → Type 0) (n : ℕ) (xs : List X) → AllByRecursion P xs → AllByRecursion P (take n xs)
AllByRecursion-take P zero xs h = tt
AllByRecursion-take P (suc n) [] h = tt
AllByRecursion-take P (suc n) (x ∷ xs) h = (h.0, AllByRecursion-take P n xs h.1)

take-zero : {X : Type 0} (n : ℕ) (xs : List X) → n ≡ 0 → take n xs ≡ []
take-zero zero xs e = refl
take-zero (suc n) xs e = absurd (omega arith)

-- a front of two joined lists
pub take-append : {X : Type 0} (n m : ℕ) (xs ys : List X) → m ≡ n - length xs → take n (xs ++ ys) ≡ take n xs ++ take m ys
take-append zero m xs ys e = sym (take-zero m ys (omega arith))
take-append (suc n) m [] ys e = let same : suc n ≡ m = omega arith in ap (λ k. take k ys) same
take-append (suc n) m (x ∷ xs) ys e = ap (λ l. x ∷ l) (take-append n m xs ys (omega arith))

-- a front of n has no more than n
pub length-take_le : {X : Type 0} (n : ℕ) (xs : List X) → length (take n xs) ≤ n
length-take_le n xs = omega (arith, length-take n xs)

-- one more byte at the head of the first part
onto_first-each : (q : ℕ → Bool) (b : ℕ) (parts : List (List ℕ)) → q b ≡ true → AllByRecursion (EachIs q) parts → AllByRecursion (EachIs q) (onto_first b parts)
onto_first-each q b [] e h = ((e, tt), tt)
onto_first-each q b (part ∷ parts) e h = ((e, h.0), h.1)

-- the parts have what the list has, and lack the byte at which it is split
pub slice_split-each : (test : ℕ → Bool) (c : ℕ) (bytes : List ℕ) → EachIs test bytes → AllByRecursion (EachIs (λ b. test b && not (eqb b c))) (slice_split (λ b. eqb b c) bytes)
slice_split-each test c [] h = (tt, tt)
slice_split-each test c (b ∷ bytes) h =
    cond_both (eqb b c) ([] ∷ slice_split (λ x. eqb x c) bytes) (onto_first b (slice_split (λ x. eqb x c) bytes)) (AllByRecursion (EachIs (λ x. test x && not (eqb x c))))
    (λ e. (tt, slice_split-each test c bytes h.1))
    (λ e. onto_first-each (λ x. test x && not (eqb x c)) b (slice_split (λ x. eqb x c) bytes) (and_from (test b) (not (eqb b c)) h.0 (not_from_false (eqb b c) e)) (slice_split-each test c bytes h.1))

-- there is a part
pub slice_split-some : (test : ℕ → Bool) (bytes : List ℕ) → 0 < length (slice_split test bytes)
slice_split-some test bytes = omega (arith, length-slice_split test bytes)

length-onto_first : (b : ℕ) (parts : List (List ℕ)) → length (onto_first b parts) ≤ suc (length parts)
length-onto_first b [] = omega arith
length-onto_first b (part ∷ parts) = omega arith

-- there is at most one more part than there are bytes
pub length-slice_split_le : (test : ℕ → Bool) (bytes : List ℕ) → length (slice_split test bytes) ≤ suc (length bytes)
length-slice_split_le test [] = omega arith
length-slice_split_le test (b ∷ bytes) =
    cond_both (test b) ([] ∷ slice_split test bytes) (onto_first b (slice_split test bytes)) (λ parts. length parts ≤ suc (suc (length bytes)))
    (λ e. omega (arith, length-slice_split_le test bytes))
    (λ e. omega (arith, length-onto_first b (slice_split test bytes), length-slice_split_le test bytes))

-- the bytes of the parts, and one more for each
abbrev pub spaced : List (List ℕ) → ℕ
spaced [] = 0
spaced (part ∷ parts) = suc (length part + spaced parts)

-- joined parts are one byte short of that
pub length-join_with_byte : (c : ℕ) (part : List ℕ) (parts : List (List ℕ)) → suc (length (join_with_byte c (part ∷ parts))) ≡ spaced (part ∷ parts)
length-join_with_byte c part [] = omega arith
length-join_with_byte c part (next ∷ parts) = omega (arith, length-append part (c ∷ join_with_byte c (next ∷ parts)), length-join_with_byte c next parts)

-- at most that, also where there is no part
pub length-join_with_byte_le : (c : ℕ) (parts : List (List ℕ)) → length (join_with_byte c parts) ≤ spaced parts
length-join_with_byte_le c [] = omega arith
length-join_with_byte_le c (part ∷ parts) = omega (arith, length-join_with_byte c part parts)

spaced-some : (c : ℕ) (parts : List (List ℕ)) → 0 < length parts → spaced parts ≡ suc (length (join_with_byte c parts))
spaced-some c [] some = absurd (omega arith)
spaced-some c (part ∷ parts) some = sym (length-join_with_byte c part parts)

-- the parts of a list, so counted, are one more than its bytes
pub spaced-slice_split : (c : ℕ) (bytes : List ℕ) → spaced (slice_split (λ b. eqb b c) bytes) ≡ suc (length bytes)
spaced-slice_split c bytes =
    spaced-some c (slice_split (λ b. eqb b c) bytes) (slice_split-some (λ b. eqb b c) bytes)
    ∙ ap (λ l. suc (length l)) (join_with_byte-slice_split c bytes)

-- a filter leaves no more
pub length-filter_le : (p : ℕ → Bool) (bytes : List ℕ) → length (filter p bytes) ≤ length bytes
length-filter_le p [] = omega arith
length-filter_le p (b ∷ bytes) =
    cond_both (p b) (b ∷ filter p bytes) (filter p bytes) (λ l. length l ≤ suc (length bytes))
    (λ e. omega (arith, length-filter_le p bytes)) (λ e. omega (arith, length-filter_le p bytes))
