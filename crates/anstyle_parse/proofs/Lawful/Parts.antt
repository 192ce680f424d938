-- What an operating system command shows: parts that a parser's call can have.
use Rattle.std.proofs.Common.{◌≡◌, ℕ, zero, suc, ◌<◌, ◌≤◌, ◌⊎◌, inl, inr, ⊎_elim, Bool, true, false, not, ◌&&◌, cond, List, [], ◌∷◌, length, take, refl, sym, ap, ◌∙◌, subst, eqb, arith, length-append, length-take}
use Rattle.std.specs.List.{filter, concat, slice_split, onto_first}
use Rattle.std.proofs.lemmas.Bool.{cases_Bool, cond-true, cond-false, cond_both}
use Rattle.std.proofs.lemmas.List.Splits.{slice_split-cons_yes, slice_split-cons_no}
use Rattle.anstyle_parse.specs.Stream.Bytes.{semicolon}
use Rattle.anstyle_parse.specs.Stream.Arguments.{is_kept, through_stored, parts_of, max_osc_bytes, max_osc_parts}
use Rattle.anstyle_parse.specs.Stream.Items.{EachIs}
use Rattle.anstyle_parse.specs.Laws.Lawful.{is_stored, last_part, AreParts}
use Rattle.anstyle_parse.proofs.Lists.Passing.{EachIs-filter}
use Rattle.anstyle_parse.proofs.Canonical.Parts.{length-last_part}
use Rattle.anstyle_parse.proofs.Lists.Parts.{AllByRecursion-take, length-take_le, slice_split-each}

-- what is stored is of the text
EachIs-through_stored : (test : ℕ → Bool) (n : ℕ) (bytes : List ℕ) → EachIs test bytes → EachIs test (through_stored n bytes)
EachIs-through_stored test n [] h = tt
EachIs-through_stored test zero (b ∷ bytes) h = tt
EachIs-through_stored test (suc n) (b ∷ bytes) h = (
  h.0,
  cond_both (eqb b semicolon) (through_stored (suc n) bytes) (through_stored n bytes) (EachIs test)
      (λ e. EachIs-through_stored test (suc n) bytes h.1) (λ e. EachIs-through_stored test n bytes h.1),
)

-- the parts of what is stored
abbrev stored_parts : ℕ → List ℕ → List (List ℕ)
stored_parts n bytes = slice_split (λ b. eqb b semicolon) (through_stored n bytes)

stored_parts-separator : (n b : ℕ) (bytes : List ℕ) → eqb b semicolon ≡ true → stored_parts (suc n) (b ∷ bytes) ≡ [] ∷ stored_parts (suc n) bytes
stored_parts-separator n b bytes e =
    slice_split-cons_yes (λ x. eqb x semicolon) b (cond (eqb b semicolon) (through_stored (suc n) bytes) (through_stored n bytes)) e
    ∙ ap (λ l. [] ∷ slice_split (λ x. eqb x semicolon) l) (cond-true (eqb b semicolon) (through_stored (suc n) bytes) (through_stored n bytes) e)

stored_parts-byte : (n b : ℕ) (bytes : List ℕ) → eqb b semicolon ≡ false → stored_parts (suc n) (b ∷ bytes) ≡ onto_first b (stored_parts n bytes)
stored_parts-byte n b bytes e =
    slice_split-cons_no (λ x. eqb x semicolon) b (cond (eqb b semicolon) (through_stored (suc n) bytes) (through_stored n bytes)) e
    ∙ ap (λ l. onto_first b (slice_split (λ x. eqb x semicolon) l)) (cond-false (eqb b semicolon) (through_stored (suc n) bytes) (through_stored n bytes) e)

-- at most n bytes; where n, the last stands in the last part
abbrev Fit : ℕ → List (List ℕ) → Type 0
Fit n parts = (length (concat parts) ≤ n) × (0 < n → length (concat parts) ≡ n → 0 < length (last_part parts)) × (0 < length parts) × (n ≡ 0 → length parts ≡ 1)

-- a separator begins one more part, and a byte goes on with the first
fit-separator : (n : ℕ) (parts : List (List ℕ)) → Fit (suc n) parts → Fit (suc n) ([] ∷ parts)
fit-separator n [] h = absurd (omega (arith, h.2))
fit-separator n (part ∷ parts) h = (h.0, h.1, omega arith, λ e. absurd (omega arith))

zero_or : (n : ℕ) → (n ≡ 0) ⊎ (0 < n)
zero_or zero = inl refl
zero_or (suc n) = inr (omega arith)

fit-byte : (n b : ℕ) (parts : List (List ℕ)) → Fit n parts → Fit (suc n) (onto_first b parts)
fit-byte n b [] h = absurd (omega (arith, h.2))
fit-byte n b (part ∷ []) h = (omega (arith, h.0), λ some e. omega arith, omega arith, λ e. absurd (omega arith))
fit-byte n b (part ∷ next ∷ parts) h =
    (omega (arith, h.0), λ some e. ⊎_elim (λ z. absurd (omega (arith, h.3 z))) (λ p. h.1 p (omega (arith, e))) (zero_or n), omega arith, λ e. absurd (omega arith))

fit : (n : ℕ) (bytes : List ℕ) → Fit n (stored_parts n bytes)
fit n [] = (omega arith, λ some e. absurd (omega (arith, some, e)), omega arith, λ e. refl)
fit zero (b ∷ bytes) = (omega arith, λ some e. absurd (omega (arith, some)), omega arith, λ e. refl)
fit (suc n) (b ∷ bytes) =
    ⊎_elim
    (λ e. subst (Fit (suc n)) (sym (stored_parts-separator n b bytes e)) (fit-separator n (stored_parts (suc n) bytes) (fit (suc n) bytes)))
    (λ e. subst (Fit (suc n)) (sym (stored_parts-byte n b bytes e)) (fit-byte n b (stored_parts n bytes) (fit n bytes)))
    (cases_Bool (eqb b semicolon))

length-concat-take : (n : ℕ) (parts : List (List ℕ)) → length (concat (take n parts)) ≤ length (concat parts)
length-concat-take zero parts = omega arith
length-concat-take (suc n) [] = omega arith
length-concat-take (suc n) (part ∷ parts) = omega (arith, length-append part (concat (take n parts)), length-append part (concat parts), length-concat-take n parts)

last_part-cons : (part : List ℕ) (parts : List (List ℕ)) → 0 < length (last_part parts) → 0 < length (last_part (part ∷ parts))
last_part-cons part [] h = absurd (omega arith)
last_part-cons part (next ∷ parts) h = h

-- a front that has all bytes has the last part
last_part-take : (n : ℕ) (parts : List (List ℕ)) → 0 < length (last_part parts) → length (concat (take n parts)) ≡ length (concat parts) → 0 < length (last_part (take n parts))
last_part-take zero parts some e = absurd (omega (arith, length-last_part parts))
last_part-take (suc n) [] some e = absurd (omega arith)
last_part-take (suc zero) (part ∷ []) some e = some
last_part-take (suc (suc n)) (part ∷ []) some e = some
last_part-take (suc n) (part ∷ next ∷ parts) some e =
    last_part-cons part (take n (next ∷ parts))
    (last_part-take n (next ∷ parts) some (omega (arith, length-append part (concat (take n (next ∷ parts))), length-append part (concat (next ∷ parts)))))

-- the parts of a command are parts that a call can have
pub AreParts-parts_of : (text : List ℕ) → AreParts (parts_of text)
unfolding parts_of is_stored
AreParts-parts_of text =
    let parts = stored_parts max_osc_bytes (filter is_kept text) in
    let fits = fit max_osc_bytes (filter is_kept text) in
    let fewer = length-concat-take max_osc_parts parts in
    record {
      some_part = omega (arith, length-take max_osc_parts parts, fits.2);
      parts_fit = length-take_le max_osc_parts parts;
      bytes_are = AllByRecursion-take (EachIs (λ b. is_kept b && not (eqb b semicolon))) max_osc_parts parts
          (slice_split-each is_kept semicolon (through_stored max_osc_bytes (filter is_kept text)) (EachIs-through_stored is_kept max_osc_bytes (filter is_kept text) (EachIs-filter is_kept text)));
      bytes_fit = omega (arith, fewer, fits.0);
      last_used = λ e. let all : length (concat parts) ≡ max_osc_bytes = omega (arith, e, fewer, fits.0) in
          last_part-take max_osc_parts parts (fits.1 (omega arith) all) (omega (arith, e, all));
    }
