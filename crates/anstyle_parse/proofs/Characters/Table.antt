-- Facts on the table of well-formed UTF-8: whole sequences, their prefixes, their first bytes.
use Rattle.std.proofs.Common.{◌≡◌, ℕ, suc, ◌<◌, ◌≤◌, Bool, true, false, ◌&&◌, leb, List, [], ◌∷◌, ◌++◌, length, IsTrue, ◌⊎◌, inl, inr, ⊎_elim, refl, sym, ◌∙◌, length-append, arith}
use Rattle.std.specs.Prelude.{nat_lt, if◌then◌else◌, ◌==◌}
use Rattle.std.specs.List.{list_any, list_all, AllByRecursion}
use Rattle.std.proofs.lemmas.Bool.{agree_below_at, false≢true, and_parts, and_from, or_cases, or_left, or_right, leb-true, ltb-true, eqb-true, lt-ltb, eq-eqb, cases_eq, false_from_ne_true}
use Rattle.std.proofs.lemmas.Bool.Decides.{nat_tests}
use Rattle.anstyle_parse.specs.Stream.Bytes.{is_within, Span, ◌‥◌}
use Rattle.anstyle_parse.specs.Stream.Characters.{rows, begins, is_well_formed, is_proper_front, is_lead}
use Rattle.anstyle_parse.specs.Stream.Items.{EachIs}

-- the bytes begin some row: the test for a prefix of a well-formed sequence
unfoldable pub is_front : List ℕ → Bool
is_front bytes = list_any (λ row. begins row bytes) rows

-- a test that some element passes, where each such element gives the same fact
pub from_some : {X : Type 0} (Fact : Type 0) (test : X → Bool) (Holds : X → Type 0) (xs : List X) → AllByRecursion Holds xs
    → ((x : X) → Holds x → test x ≡ true → Fact) → list_any test xs ≡ true → Fact
from_some Fact test Holds [] each give e = absurd (false≢true e)
from_some Fact test Holds (x ∷ xs) each give e =
    ⊎_elim (λ here. give x each.0 here) (λ there. from_some Fact test Holds xs each.1 give there) (or_cases (test x) (list_any test xs) e)

-- a weaker test is passed too
pub list_any-weaker : {X : Type 0} (p q : X → Bool) → ((x : X) → p x ≡ true → q x ≡ true) → (xs : List X) → list_any p xs ≡ true → list_any q xs ≡ true
list_any-weaker p q weaker [] e = e
list_any-weaker p q weaker (x ∷ xs) e =
    ⊎_elim (λ here. or_left (q x) (list_any q xs) (weaker x here))
    (λ there. or_right (q x) (list_any q xs) (list_any-weaker p q weaker xs there)) (or_cases (p x) (list_any p xs) e)

-- one of two tests is passed, if each element that passes the first passes one of them
list_any-either : {X : Type 0} (p q r : X → Bool) → ((x : X) → p x ≡ true → (q x ≡ true) ⊎ (r x ≡ true)) → (xs : List X) → list_any p xs ≡ true
    → (list_any q xs ≡ true) ⊎ (list_any r xs ≡ true)
list_any-either p q r split [] e = inl e
list_any-either p q r split (x ∷ xs) e =
    ⊎_elim
    (λ here. ⊎_elim (λ y. inl (or_left (q x) (list_any q xs) y)) (λ y. inr (or_left (r x) (list_any r xs) y)) (split x here))
    (λ there. ⊎_elim (λ y. inl (or_right (q x) (list_any q xs) y)) (λ y. inr (or_right (r x) (list_any r xs) y)) (list_any-either p q r split xs there))
    (or_cases (p x) (list_any p xs) e)

-- a prefix of what stands in a row stands in it
begins-prefix : (row : List Span) (x y : List ℕ) → begins row (x ++ y) ≡ true → begins row x ≡ true
begins-prefix row [] y e = refl
begins-prefix [] (b ∷ x) y e = e
begins-prefix (place ∷ row) (b ∷ x) y e =
    let parts = and_parts (is_within place.first place.last b) (begins row (x ++ y)) e in
    and_from (is_within place.first place.last b) (begins row x) parts.0 (begins-prefix row x y parts.1)

-- and is no longer than the row
begins-length : (row : List Span) (x : List ℕ) → begins row x ≡ true → length x ≤ length row
begins-length row [] e = omega arith
begins-length [] (b ∷ x) e = absurd (false≢true e)
begins-length (place ∷ row) (b ∷ x) e =
    let shorter : length x ≤ length row = begins-length row x (and_parts (is_within place.first place.last b) (begins row x) e).1 in
    omega arith

-- how many bytes a character has, by its first byte
abbrev pub character_length : ℕ → ℕ
character_length a = if nat_lt a 0xE0 then 2 else if nat_lt a 0xF0 then 3 else 4

-- what a row says of the bytes that begin it: the first byte, and that the others go on
abbrev pub RowSays : List Span → Type 0
RowSays row = (a : ℕ) (x : List ℕ) → begins row (a ∷ x) ≡ true
    → (is_lead a ≡ true) × (length row ≡ character_length a) × EachIs (is_within 0x80 0xBF) x

-- a place after the first takes a byte 80..BF
abbrev goes_on : Span → Bool
goes_on place = leb 0x80 place.first && leb place.last 0xBF

-- what such a place takes
is_within-goes_on : (place : Span) (b : ℕ) → goes_on place ≡ true → is_within place.first place.last b ≡ true → is_within 0x80 0xBF b ≡ true
unfolding is_within
is_within-goes_on place b g e = grind (arith, nat_tests)

-- what stands in such places
begins-goes_on : (row : List Span) (x : List ℕ) → list_all goes_on row ≡ true → begins row x ≡ true → EachIs (is_within 0x80 0xBF) x
begins-goes_on row [] g e = tt
begins-goes_on [] (b ∷ x) g e = absurd (false≢true e)
begins-goes_on (place ∷ row) (b ∷ x) g e =
    let gs = and_parts (goes_on place) (list_all goes_on row) g in
    let es = and_parts (is_within place.first place.last b) (begins row x) e in
    (is_within-goes_on place b gs.0 es.0, begins-goes_on row x gs.1 es.1)

-- a row says so, if its first place does and the others go on
row_says : (low high : ℕ) (rest : List Span)
    → ((a : ℕ) → is_within low high a ≡ true → (is_lead a ≡ true) × (suc (length rest) ≡ character_length a))
    → list_all goes_on rest ≡ true → RowSays (low ‥ high ∷ rest)
row_says low high rest says g a x e =
    let parts = and_parts (is_within low high a) (begins rest x) e in
    let first = says a parts.0 in
    (first.0, first.1, begins-goes_on rest x g parts.1)

-- the eight rows do
rows_say : AllByRecursion RowSays rows
unfolding is_within is_lead
rows_say = (
  row_says 0xC2 0xDF _ (λ a h. grind (arith, nat_tests)) refl,
  (
    row_says 0xE0 0xE0 _ (λ a h. grind (arith, nat_tests)) refl,
    (
      row_says 0xE1 0xEC _ (λ a h. grind (arith, nat_tests)) refl,
      (
        row_says 0xED 0xED _ (λ a h. grind (arith, nat_tests)) refl,
        (
          row_says 0xEE 0xEF _ (λ a h. grind (arith, nat_tests)) refl,
          (
            row_says 0xF0 0xF0 _ (λ a h. grind (arith, nat_tests)) refl,
            (
              row_says 0xF1 0xF3 _ (λ a h. grind (arith, nat_tests)) refl,
              (
                row_says 0xF4 0xF4 _ (λ a h. grind (arith, nat_tests)) refl,
                tt,
              ),
            ),
          ),
        ),
      ),
    ),
  ),
)

-- what the rows say of a list that begins one of them
front_says : (a : ℕ) (x : List ℕ) → is_front (a ∷ x) ≡ true → (is_lead a ≡ true) × EachIs (is_within 0x80 0xBF) x
unfolding is_front
front_says a x = from_some ((is_lead a ≡ true) × EachIs (is_within 0x80 0xBF) x) (λ row. begins row (a ∷ x)) RowSays rows rows_say
    (λ row says e. ((says a x e).0, (says a x e).2))

-- a test that a row passes for a proper prefix
abbrev goes_beyond : List ℕ → List Span → Bool
goes_beyond x row = begins row x && nat_lt (length x) (length row)

-- some row goes on after a proper prefix
proper_front-some : (x : List ℕ) → is_proper_front x ≡ true → list_any (goes_beyond x) rows ≡ true
unfolding is_proper_front
proper_front-some x h = (and_parts (nat_lt 0 (length x)) (list_any (goes_beyond x) rows) h).1

-- a list after which a row goes on is a proper prefix, unless it is empty
proper_front-from_some : (a : ℕ) (x : List ℕ) → list_any (goes_beyond (a ∷ x)) rows ≡ true → is_proper_front (a ∷ x) ≡ true
unfolding is_proper_front
proper_front-from_some a x h =
    and_from (nat_lt 0 (length (a ∷ x))) (list_any (goes_beyond (a ∷ x)) rows) (lt-ltb 0 (length (a ∷ x)) (omega arith)) h

-- a prefix starts with a lead byte, and goes on with bytes 80..BF
pub is_lead-front : (a : ℕ) (x : List ℕ) → IsTrue (is_front (a ∷ x)) → IsTrue (is_lead a)
is_lead-front a x h = (front_says a x h).0

-- the bytes of a prefix after the first
pub EachIs-front : (a : ℕ) (x : List ℕ) → IsTrue (is_front (a ∷ x)) → EachIs (is_within 0x80 0xBF) x
EachIs-front a x h = (front_says a x h).1

-- a whole is a prefix
pub is_front-well_formed : (x : List ℕ) → IsTrue (is_well_formed x) → IsTrue (is_front x)
unfolding is_front is_well_formed
is_front-well_formed x = list_any-weaker (λ row. begins row x && length x == length row) (λ row. begins row x)
    (λ row e. (and_parts (begins row x) (length x == length row) e).0) rows

-- a proper prefix is a prefix
pub is_front-proper : (x : List ℕ) → IsTrue (is_proper_front x) → IsTrue (is_front x)
unfolding is_front
is_front-proper x h = list_any-weaker (goes_beyond x) (λ row. begins row x)
    (λ row e. (and_parts (begins row x) (nat_lt (length x) (length row)) e).0) rows (proper_front-some x h)

-- a prefix of a prefix
pub is_front-prefix : (x y : List ℕ) → IsTrue (is_front (x ++ y)) → IsTrue (is_front x)
unfolding is_front
is_front-prefix x y = list_any-weaker (λ row. begins row (x ++ y)) (λ row. begins row x) (λ row e. begins-prefix row x y e) rows

-- a prefix is whole or proper
pub front_cases : (a : ℕ) (x : List ℕ) → IsTrue (is_front (a ∷ x)) → IsTrue (is_well_formed (a ∷ x)) ⊎ IsTrue (is_proper_front (a ∷ x))
unfolding is_front is_well_formed
front_cases a x h = ⊎_elim (λ whole. inl whole) (λ part. inr (proper_front-from_some a x part))
    (list_any-either (λ row. begins row (a ∷ x)) (λ row. begins row (a ∷ x) && length (a ∷ x) == length row) (goes_beyond (a ∷ x))
    (λ row e. let shorter : length (a ∷ x) ≤ length row = begins-length row (a ∷ x) e in
    ⊎_elim (λ same. inl (and_from (begins row (a ∷ x)) (length (a ∷ x) == length row) e (eq-eqb (length (a ∷ x)) (length row) same)))
    (λ other. inr (and_from (begins row (a ∷ x)) (nat_lt (length (a ∷ x)) (length row)) e (lt-ltb (length (a ∷ x)) (length row) (omega arith))))
    (cases_eq (length (a ∷ x)) (length row)))
    rows h)

-- the length of a whole, and of a proper prefix
pub length-well_formed : (a : ℕ) (x : List ℕ) → IsTrue (is_well_formed (a ∷ x)) → length (a ∷ x) ≡ character_length a
unfolding is_well_formed
length-well_formed a x = from_some (length (a ∷ x) ≡ character_length a) (λ row. begins row (a ∷ x) && length (a ∷ x) == length row) RowSays rows rows_say
    (λ row says e. let parts = and_parts (begins row (a ∷ x)) (length (a ∷ x) == length row) e in
    eqb-true (length (a ∷ x)) (length row) parts.1 ∙ (says a x parts.0).1)

-- a proper prefix is shorter
pub length-proper_front : (a : ℕ) (x : List ℕ) → IsTrue (is_proper_front (a ∷ x)) → length (a ∷ x) < character_length a
length-proper_front a x h = from_some (length (a ∷ x) < character_length a) (goes_beyond (a ∷ x)) RowSays rows rows_say
    (λ row says e. let parts = and_parts (begins row (a ∷ x)) (nat_lt (length (a ∷ x)) (length row)) e in
    let below : length (a ∷ x) < length row = ltb-true (length (a ∷ x)) (length row) parts.1 in
    let same : length row ≡ character_length a = (says a x parts.0).1 in
    omega arith)
    (proper_front-some (a ∷ x) h)

-- the empty list is neither
pub is_well_formed-nil : is_well_formed [] ≡ false
unfolding is_well_formed
is_well_formed-nil = refl

-- and no proper prefix
pub is_proper_front-nil : is_proper_front [] ≡ false
unfolding is_proper_front
is_proper_front-nil = refl

-- a proper prefix is not whole
pub is_well_formed-proper : (x : List ℕ) → IsTrue (is_proper_front x) → is_well_formed x ≡ false
is_well_formed-proper [] h = is_well_formed-nil
is_well_formed-proper (a ∷ x) h = false_from_ne_true (is_well_formed (a ∷ x)) (λ w.
    let whole : length (a ∷ x) ≡ character_length a = length-well_formed a x w in
    let part : length (a ∷ x) < character_length a = length-proper_front a x h in
    absurd (omega arith))

-- a row that goes on after a list goes on after each prefix of it
goes_beyond-from : (row : List Span) (x y : List ℕ) → begins row (x ++ y) ≡ true → length x < length row → goes_beyond x row ≡ true
goes_beyond-from row x y e below = and_from (begins row x) (nat_lt (length x) (length row)) (begins-prefix row x y e) (lt-ltb (length x) (length row) below)

-- what stands before the rest of a proper prefix, or before the last bytes of a whole
pub is_proper_front-prefix : (a : ℕ) (x y : List ℕ) → IsTrue (is_proper_front (a ∷ (x ++ y))) → IsTrue (is_proper_front (a ∷ x))
is_proper_front-prefix a x y h = proper_front-from_some a x (list_any-weaker (goes_beyond (a ∷ (x ++ y))) (goes_beyond (a ∷ x))
    (λ row e.
    let parts = and_parts (begins row (a ∷ (x ++ y))) (nat_lt (length (a ∷ (x ++ y))) (length row)) e in
    let below : suc (length (x ++ y)) < length row = ltb-true (length (a ∷ (x ++ y))) (length row) parts.1 in
    goes_beyond-from row (a ∷ x) y parts.0 (omega (arith, length-append x y)))
    rows (proper_front-some (a ∷ (x ++ y)) h))

-- a whole without its last bytes
pub is_proper_front-before : (a : ℕ) (x : List ℕ) (b : ℕ) (y : List ℕ) → IsTrue (is_well_formed (a ∷ (x ++ b ∷ y))) → IsTrue (is_proper_front (a ∷ x))
unfolding is_well_formed
is_proper_front-before a x b y h = proper_front-from_some a x (list_any-weaker
    (λ row. begins row (a ∷ (x ++ b ∷ y)) && length (a ∷ (x ++ b ∷ y)) == length row) (goes_beyond (a ∷ x))
    (λ row e.
    let parts = and_parts (begins row (a ∷ (x ++ b ∷ y))) (length (a ∷ (x ++ b ∷ y)) == length row) e in
    let whole : suc (length (x ++ b ∷ y)) ≡ length row = eqb-true (length (a ∷ (x ++ b ∷ y))) (length row) parts.1 in
    goes_beyond-from row (a ∷ x) (b ∷ y) parts.0 (omega (arith, length-append x (b ∷ y))))
    rows h)

-- a lead byte alone is a proper prefix
pub is_proper_front-lead : (b : ℕ) → IsTrue (is_lead b) → IsTrue (is_proper_front (b ∷ []))
unfolding is_lead is_within is_proper_front
is_proper_front-lead b h =
    let low : 0xC2 ≤ b = leb-true 0xC2 b (and_parts (leb 0xC2 b) (leb b 0xF4) h).0 in
    let high : b ≤ 0xF4 = leb-true b 0xF4 (and_parts (leb 0xC2 b) (leb b 0xF4) h).1 in
    let same : is_lead b ≡ (is_lead b && is_proper_front (b ∷ [])) =
    agree_below_at is_lead (λ n. is_lead n && is_proper_front (n ∷ [])) 256 b refl (omega arith) in
    (and_parts (is_lead b) (is_proper_front (b ∷ [])) (sym same ∙ h)).1
