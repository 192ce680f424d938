-- A command with fewer parts and bytes than are held has all that came, and one with the most shows what a longer one does.
use Rattle.std.proofs.Common.{◌≡◌, ◌≢◌, ◌<◌, ◌≤◌, ◌+◌, ℕ, zero, suc, Bool, true, false, not, List, [], ◌∷◌, ◌++◌, length, take, filter, eqb, refl, sym, ap, ◌∙◌, subst, length-append, length-take, take_all, arith, ⊎_elim, ◌⊎◌}
use Rattle.std.specs.Prelude.{if◌then◌else◌}
use Rattle.std.specs.List.{AllByRecursion, concat, onto_first, join_with_byte}
use Rattle.std.proofs.lemmas.Bool.{cases_lt}
use Rattle.std.proofs.lemmas.List.{take_at}
use Rattle.std.proofs.lemmas.List.Splits.{slice_split-cons_yes, slice_split-cons_no}
use Rattle.anstyle_parse.specs.Laws.Lawful.{is_stored, AreParts}
use Rattle.anstyle_parse.specs.Stream.Arguments.{is_kept, through_stored, parts_of, max_osc_bytes, max_osc_parts}
use Rattle.anstyle_parse.specs.Stream.Bytes.{semicolon}
use Rattle.anstyle_parse.specs.Stream.Items.{EachIs}
use Rattle.anstyle_parse.proofs.Bytes.Passing.{EachIs-weaker}
use Rattle.anstyle_parse.proofs.Canonical.Parts.{stored-no_semicolon, kept-join, parts_of-join}
use Rattle.anstyle_parse.proofs.Lists.Parts.{spaced, slice_split-some, spaced-slice_split}
use Rattle.anstyle_parse.proofs.Lists.Passing.{AllByRecursion-weaker, filter_all, slice_split-join_with_byte, join_with_byte-push_empty}
use Rattle.event_pieces.specs.Event.{parts_in}
use Rattle.event_pieces.specs.Cut.{all_parts, MayBeCut}
use Rattle.event_pieces.specs.AddingProof.{AllByRecursion-append}

-- how many bytes part nothing
abbrev plain_count : List ℕ → ℕ
plain_count [] = 0
plain_count (b ∷ bytes) = if eqb b semicolon then plain_count bytes else suc (plain_count bytes)

-- the bytes of parts, and the parts
spaced-sum : (parts : List (List ℕ)) → spaced parts ≡ length (concat parts) + length parts
spaced-sum [] = refl
spaced-sum (part ∷ parts) = omega (arith, spaced-sum parts, length-append part (concat parts))

pub parts-counted : (bytes : List ℕ) → length (concat (parts_in bytes)) + length (parts_in bytes) ≡ suc (length bytes)
parts-counted bytes = sym (spaced-sum (parts_in bytes)) ∙ spaced-slice_split semicolon bytes

length-concat-onto_first : (b : ℕ) (parts : List (List ℕ)) → 0 < length parts → length (concat (onto_first b parts)) ≡ suc (length (concat parts))
length-concat-onto_first b [] some = absurd (omega (arith, some))
length-concat-onto_first b (part ∷ parts) some = refl

module _ (b : ℕ) (bytes : List ℕ) where
  counted-in : (t : Bool) → eqb b semicolon ≡ t → plain_count (b ∷ bytes) ≡ (if t then plain_count bytes else suc (plain_count bytes))
  counted-in t e = ap (λ t. if t then plain_count bytes else suc (plain_count bytes)) e

  stored-in : (n : ℕ) (t : Bool) → eqb b semicolon ≡ t → through_stored (suc n) (b ∷ bytes) ≡ b ∷ (if t then through_stored (suc n) bytes else through_stored n bytes)
  stored-in n t e = ap (λ t. b ∷ (if t then through_stored (suc n) bytes else through_stored n bytes)) e

module _ (b : ℕ) (bytes : List ℕ) (rest : plain_count bytes ≡ length (concat (parts_in bytes))) where
  one-counted : (t : Bool) → eqb b semicolon ≡ t → plain_count (b ∷ bytes) ≡ length (concat (parts_in (b ∷ bytes)))
  one-counted true e = counted-in b bytes true e ∙ rest ∙ sym (ap (λ l. length (concat l)) (slice_split-cons_yes (λ x. eqb x semicolon) b bytes e))
  one-counted false e =
      counted-in b bytes false e ∙ ap suc rest
      ∙ sym (ap (λ l. length (concat l)) (slice_split-cons_no (λ x. eqb x semicolon) b bytes e) ∙ length-concat-onto_first b (parts_in bytes) (slice_split-some (λ x. eqb x semicolon) bytes))

pub plain_count-parts : (bytes : List ℕ) → plain_count bytes ≡ length (concat (parts_in bytes))
plain_count-parts [] = refl
plain_count-parts (b ∷ bytes) = one-counted b bytes (plain_count-parts bytes) (eqb b semicolon) refl

-- where fewer bytes are stored than can be, all are
module _ (n b : ℕ) (bytes : List ℕ) (rest : (m : ℕ) → plain_count (through_stored m bytes) < m → through_stored m bytes ≡ bytes) where
  one-stored : plain_count (through_stored (suc n) (b ∷ bytes)) < suc n → (t : Bool) → eqb b semicolon ≡ t → through_stored (suc n) (b ∷ bytes) ≡ b ∷ bytes
  one-stored few true e =
      let one : through_stored (suc n) (b ∷ bytes) ≡ b ∷ through_stored (suc n) bytes = stored-in b bytes n true e in
      one ∙ ap (λ l. b ∷ l) (rest (suc n) (subst (λ k. k < suc n) (ap plain_count one ∙ counted-in b (through_stored (suc n) bytes) true e) few))
  one-stored few false e =
      let one : through_stored (suc n) (b ∷ bytes) ≡ b ∷ through_stored n bytes = stored-in b bytes n false e in
      let less : suc (plain_count (through_stored n bytes)) < suc n = subst (λ k. k < suc n) (ap plain_count one ∙ counted-in b (through_stored n bytes) false e) few in
      one ∙ ap (λ l. b ∷ l) (rest n (omega (arith, less)))

stored-all : (n : ℕ) (bytes : List ℕ) → plain_count (through_stored n bytes) < n → through_stored n bytes ≡ bytes
stored-all n [] few = refl
stored-all zero (b ∷ bytes) few = absurd (omega (arith, few))
stored-all (suc n) (b ∷ bytes) few = one-stored n b bytes (λ m less. stored-all m bytes less) few (eqb b semicolon) refl

module _ (n b : ℕ) (bytes : List ℕ) (rest : (m : ℕ) → plain_count bytes < m → through_stored m bytes ≡ bytes) where
  one-few : plain_count (b ∷ bytes) < suc n → (t : Bool) → eqb b semicolon ≡ t → through_stored (suc n) (b ∷ bytes) ≡ b ∷ bytes
  one-few few true e = stored-in b bytes n true e ∙ ap (λ l. b ∷ l) (rest (suc n) (subst (λ k. k < suc n) (counted-in b bytes true e) few))
  one-few few false e =
      let less : suc (plain_count bytes) < suc n = subst (λ k. k < suc n) (counted-in b bytes false e) few in
      stored-in b bytes n false e ∙ ap (λ l. b ∷ l) (rest n (omega (arith, less)))

stored-few : (n : ℕ) (bytes : List ℕ) → plain_count bytes < n → through_stored n bytes ≡ bytes
stored-few n [] few = refl
stored-few zero (b ∷ bytes) few = absurd (omega (arith, few))
stored-few (suc n) (b ∷ bytes) few = one-few n b bytes (λ m less. stored-few m bytes less) few (eqb b semicolon) refl

-- after as many as can be stored nothing counts
module _ (n b : ℕ) (bytes more : List ℕ) (rest : (m : ℕ) → plain_count bytes ≡ m → through_stored m (bytes ++ more) ≡ through_stored m bytes) where
  one-full : plain_count (b ∷ bytes) ≡ suc n → (t : Bool) → eqb b semicolon ≡ t → through_stored (suc n) (b ∷ (bytes ++ more)) ≡ through_stored (suc n) (b ∷ bytes)
  one-full counted true e =
      stored-in b (bytes ++ more) n true e ∙ ap (λ l. b ∷ l) (rest (suc n) (sym (counted-in b bytes true e) ∙ counted)) ∙ sym (stored-in b bytes n true e)
  one-full counted false e =
      let same : suc (plain_count bytes) ≡ suc n = sym (counted-in b bytes false e) ∙ counted in
      stored-in b (bytes ++ more) n false e ∙ ap (λ l. b ∷ l) (rest n (omega (arith, same))) ∙ sym (stored-in b bytes n false e)

stored-full : (n : ℕ) (bytes more : List ℕ) → plain_count bytes ≡ n → through_stored n (bytes ++ more) ≡ through_stored n bytes
stored-full zero [] [] counted = refl
stored-full zero [] (b ∷ more) counted = refl
stored-full (suc n) [] more counted = absurd (omega (arith, counted))
stored-full zero (b ∷ bytes) more counted = refl
stored-full (suc n) (b ∷ bytes) more counted = one-full n b bytes more (λ m same. stored-full m bytes more same) counted (eqb b semicolon) refl

-- fewer parts, and fewer bytes in them, than are held: that is all that came
pub whole-shown : (parts : List (List ℕ)) (text : List ℕ) → length parts < max_osc_parts → length (concat parts) < max_osc_bytes → parts_of text ≡ parts → all_parts text ≡ parts
unfolding parts_of
whole-shown parts text few short shown =
    let kept = filter is_kept text in
    let stored = through_stored max_osc_bytes kept in
    let split = parts_in stored in
    let all : split ≡ parts = sym (take_all max_osc_parts split (omega (arith, few, ap length shown, length-take max_osc_parts split))) ∙ shown in
    ap parts_in (sym (stored-all max_osc_bytes kept (omega (arith, short, plain_count-parts stored, ap (λ l. length (concat l)) all)))) ∙ all

-- parts and one that is empty
module _ (part : List ℕ) (parts : List (List ℕ)) (are : AreParts (part ∷ parts)) where
  abbrev these : List (List ℕ)
  these = part ∷ parts

  abbrev more : List (List ℕ)
  more = part ∷ (parts ++ [] ∷ [])

  abbrev joined : List ℕ
  joined = join_with_byte semicolon these

  abbrev longer : List ℕ
  longer = joined ++ semicolon ∷ []

  more-stored : AllByRecursion (EachIs is_stored) more
  more-stored = AllByRecursion-append (EachIs is_stored) these ([] ∷ []) are.bytes_are (tt, tt)

  longer-is : longer ≡ join_with_byte semicolon more
  longer-is = sym (join_with_byte-push_empty semicolon part parts)

  longer-kept : filter is_kept longer ≡ longer
  longer-kept = filter_all is_kept longer (subst (EachIs is_kept) (sym longer-is) (kept-join more more-stored))

  longer-parts : parts_in longer ≡ more
  longer-parts =
      ap parts_in longer-is
      ∙ slice_split-join_with_byte semicolon part (parts ++ [] ∷ [])
      (AllByRecursion-weaker (EachIs is_stored) (EachIs (λ b. not (eqb b semicolon))) (λ p each. EachIs-weaker is_stored (λ b. not (eqb b semicolon)) stored-no_semicolon p each) more more-stored)

  more-long : length more ≡ length these + 1
  more-long = length-append these ([] ∷ [])

  longer-others : all_parts longer ≢ these
  longer-others same = omega (arith, more-long, ap length (sym (ap parts_in longer-kept ∙ longer-parts) ∙ same))

  joined-kept : filter is_kept joined ≡ joined
  joined-kept = filter_all is_kept joined (kept-join these are.bytes_are)

  joined-parts : parts_in joined ≡ these
  joined-parts =
      slice_split-join_with_byte semicolon part parts
      (AllByRecursion-weaker (EachIs is_stored) (EachIs (λ b. not (eqb b semicolon))) (λ p each. EachIs-weaker is_stored (λ b. not (eqb b semicolon)) stored-no_semicolon p each) these are.bytes_are)

  shown-full : max_osc_bytes ≤ length (concat these) → parts_of longer ≡ these
  unfolding parts_of
  shown-full full =
      let cut = λ (l : List ℕ). take max_osc_parts (parts_in (through_stored max_osc_bytes l)) in
      ap cut longer-kept
      ∙ ap (λ l. take max_osc_parts (parts_in l)) (stored-full max_osc_bytes joined (semicolon ∷ []) (omega (arith, full, are.bytes_fit, plain_count-parts joined, ap (λ l. length (concat l)) joined-parts)))
      ∙ ap cut (sym joined-kept)
      ∙ parts_of-join these are

  shown-many : length (concat these) < max_osc_bytes → max_osc_parts ≤ length these → parts_of longer ≡ these
  unfolding parts_of
  shown-many short many =
      let cut = λ (l : List ℕ). take max_osc_parts (parts_in (through_stored max_osc_bytes l)) in
      let counted : plain_count longer ≡ length (concat these) = plain_count-parts longer ∙ ap (λ l. length (concat l)) longer-parts ∙ concat-more these in
      ap cut longer-kept
      ∙ ap (λ l. take max_osc_parts (parts_in l)) (stored-few max_osc_bytes longer (omega (arith, short, counted)))
      ∙ ap (take max_osc_parts) longer-parts
      ∙ take_at these ([] ∷ []) max_osc_parts (omega (arith, many, are.parts_fit))
    where
      concat-more : (parts : List (List ℕ)) → length (concat (parts ++ [] ∷ [])) ≡ length (concat parts)
      concat-more [] = refl
      concat-more (part ∷ parts) = omega (arith, length-append part (concat (parts ++ [] ∷ [])), length-append part (concat parts), concat-more parts)

  may-be-cut : (max_osc_parts ≤ length these) ⊎ (max_osc_bytes ≤ length (concat these)) → MayBeCut these
  may-be-cut most = (
    longer,
    ⊎_elim
        (λ (short : length (concat these) < max_osc_bytes).
        ⊎_elim (λ many. shown-many short many) (λ full. absurd (omega (arith, short, full))) most)
        shown-full (cases_lt (length (concat these)) max_osc_bytes),
    longer-others,
  )

-- as many parts, or bytes, as are held: a longer text shows the same
pub cut-shown : (parts : List (List ℕ)) → AreParts parts → (max_osc_parts ≤ length parts) ⊎ (max_osc_bytes ≤ length (concat parts)) → MayBeCut parts
cut-shown [] are most = absurd (let some = are.some_part in omega (arith, some))
cut-shown (part ∷ parts) are most = may-be-cut part parts are most
