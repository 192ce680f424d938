-- The parts of an operating system command, joined and read back.
use Rattle.std.proofs.Common.{◌≡◌, ℕ, zero, suc, ◌+◌, ◌-◌, ◌<◌, ◌≤◌, ⊎_elim, true, not, List, [], ◌∷◌, ◌++◌, length, take, refl, ap, ◌∙◌, eqb, arith, length-append, take_all, zero-add}
use Rattle.std.specs.List.{AllByRecursion, concat, join_with_byte, slice_split}
use Rattle.std.proofs.lemmas.Bool.{not-true, and_parts, cond-false, cases_lt}
use Rattle.anstyle_parse.specs.Stream.Bytes.{is_within, is_escape, is_cancel, semicolon, bell}
use Rattle.anstyle_parse.specs.Stream.Arguments.{is_kept, through_stored, parts_of, max_osc_bytes, max_osc_parts}
use Rattle.anstyle_parse.specs.Stream.Items.{EachIs, is_text_byte}
use Rattle.anstyle_parse.specs.Laws.Lawful.{is_stored, last_part, AreParts}
use Rattle.anstyle_parse.proofs.Bytes.Passing.{EachIs-weaker}
use Rattle.anstyle_parse.proofs.Lists.Passing.{implied, AllByRecursion-weaker, filter_all, slice_split-join_with_byte, EachIs-join_with_byte}
use Rattle.anstyle_parse.proofs.Characters.Encoding.{within_parts}

-- what is stored is kept, and no separator
pub stored-kept : (b : ℕ) → is_stored b ≡ true → is_kept b ≡ true
unfolding is_stored
stored-kept b e = (and_parts (is_kept b) (not (eqb b semicolon)) e).0

pub stored-no_semicolon : (b : ℕ) → is_stored b ≡ true → not (eqb b semicolon) ≡ true
unfolding is_stored
stored-no_semicolon b e = (and_parts (is_kept b) (not (eqb b semicolon)) e).1

-- what is kept is a byte, and can stand in the text
pub kept-below : (b : ℕ) → is_kept b ≡ true → b < 256
unfolding is_kept
kept-below b e = omega (arith, (within_parts 0x20 0xFF b e).1)

pub kept-text : (b : ℕ) → is_kept b ≡ true → is_text_byte bell b ≡ true
unfolding is_kept is_within is_text_byte is_escape is_cancel
kept-text b e = implied is_kept (is_text_byte bell) 256 b refl (kept-below b e) e

pub semicolon-kept : is_kept semicolon ≡ true
unfolding is_kept is_within
semicolon-kept = refl

-- a part within what is stored is stored whole
through_stored-part : (n : ℕ) (part : List ℕ) → EachIs is_stored part → length part ≤ n → through_stored n part ≡ part
through_stored-part n [] h few = refl
through_stored-part zero (b ∷ part) h few = absurd (omega arith)
through_stored-part (suc n) (b ∷ part) h few =
    ap (λ l. b ∷ l) (cond-false (eqb b semicolon) (through_stored (suc n) part) (through_stored n part) (not-true (eqb b semicolon) (stored-no_semicolon b h.0))
    ∙ through_stored-part n part h.1 (omega arith))

-- after a part and a separator, what is left of the store goes on
through_stored-append : (n k : ℕ) (part rest : List ℕ) → EachIs is_stored part → n ≡ length part + suc k → through_stored n (part ++ semicolon ∷ rest) ≡ part ++ semicolon ∷ through_stored (suc k) rest
through_stored-append zero k part rest h e = absurd (omega arith)
through_stored-append (suc n) k [] rest h e = ap (λ m. semicolon ∷ through_stored m rest) (e ∙ zero-add (suc k))
through_stored-append (suc n) k (b ∷ part) rest h e =
    ap (λ l. b ∷ l) (cond-false (eqb b semicolon) (through_stored (suc n) (part ++ semicolon ∷ rest)) (through_stored n (part ++ semicolon ∷ rest)) (not-true (eqb b semicolon) (stored-no_semicolon b h.0))
    ∙ through_stored-append n k part rest h.1 (omega arith))

-- the last part is one of the parts
pub length-last_part : (parts : List (List ℕ)) → length (last_part parts) ≤ length (concat parts)
length-last_part [] = omega arith
length-last_part (part ∷ []) = omega (arith, length-append part [])
length-last_part (part ∷ next ∷ parts) = omega (arith, length-append part (concat (next ∷ parts)), length-last_part (next ∷ parts))

-- joined parts within what is stored are stored whole
through_stored-join : (n : ℕ) (parts : List (List ℕ)) → AllByRecursion (EachIs is_stored) parts → length (concat parts) ≤ n → (length (concat parts) ≡ n → 0 < length (last_part parts))
    → through_stored n (join_with_byte semicolon parts) ≡ join_with_byte semicolon parts
through_stored-join n [] h few used = refl
through_stored-join n (part ∷ []) h few used = through_stored-part n part h.0 (omega (arith, length-append part []))
through_stored-join zero (part ∷ next ∷ parts) h few used =
    absurd (omega (arith, length-append part (concat (next ∷ parts)), length-last_part (next ∷ parts), used (omega arith)))
through_stored-join (suc n) (part ∷ next ∷ parts) h few used =
    let total = length-append part (concat (next ∷ parts)) in
    ⊎_elim
    (λ (all : length part < suc n).
    let left : ℕ = suc n - length part - 1 in
    let is : suc n ≡ length part + suc left = omega arith in
    through_stored-append (suc n) left part (join_with_byte semicolon (next ∷ parts)) h.0 is
    ∙ ap (λ l. part ++ semicolon ∷ l) (through_stored-join (suc left) (next ∷ parts) h.1 (omega (arith, total)) (λ e. used (omega (arith, total)))))
    (λ (short : suc n ≤ length part). absurd (omega (arith, total, length-last_part (next ∷ parts), used (omega (arith, total)))))
    (cases_lt (length part) (suc n))

-- joined parts are kept
pub kept-join : (parts : List (List ℕ)) → AllByRecursion (EachIs is_stored) parts → EachIs is_kept (join_with_byte semicolon parts)
kept-join parts h =
    EachIs-join_with_byte is_kept semicolon parts semicolon-kept
    (AllByRecursion-weaker (EachIs is_stored) (EachIs is_kept) (λ part k. EachIs-weaker is_stored is_kept stored-kept part k) parts h)

-- joined parts are the text of a command
pub parts-text : (parts : List (List ℕ)) → AreParts parts → EachIs (is_text_byte bell) (join_with_byte semicolon parts)
parts-text parts are = EachIs-weaker is_kept (is_text_byte bell) kept-text (join_with_byte semicolon parts) (kept-join parts are.bytes_are)

split-parts : (parts : List (List ℕ)) → 0 < length parts → AllByRecursion (EachIs is_stored) parts → slice_split (λ b. eqb b semicolon) (join_with_byte semicolon parts) ≡ parts
split-parts [] some h = absurd (omega arith)
split-parts (part ∷ parts) some h =
    slice_split-join_with_byte semicolon part parts
    (AllByRecursion-weaker (EachIs is_stored) (EachIs (λ b. not (eqb b semicolon))) (λ p k. EachIs-weaker is_stored (λ b. not (eqb b semicolon)) stored-no_semicolon p k) (part ∷ parts) h)

-- and the parts of that text are these parts
pub parts_of-join : (parts : List (List ℕ)) → AreParts parts → parts_of (join_with_byte semicolon parts) ≡ parts
unfolding parts_of
parts_of-join parts are =
    let cut = λ (l : List ℕ). take max_osc_parts (slice_split (λ b. eqb b semicolon) l) in
    ap (λ l. cut (through_stored max_osc_bytes l)) (filter_all is_kept (join_with_byte semicolon parts) (kept-join parts are.bytes_are))
    ∙ (ap cut (through_stored-join max_osc_bytes parts are.bytes_are are.bytes_fit are.last_used)
    ∙ (ap (take max_osc_parts) (split-parts parts are.some_part are.bytes_are) ∙ take_all max_osc_parts parts are.parts_fit))
