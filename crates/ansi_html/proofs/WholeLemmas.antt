-- A link that was not cut is all that its command says.
use Rattle.std.proofs.Common.{◌≡◌, ◌≢◌, ◌<◌, ℕ, zero, suc, Bool, true, false, ◌&&◌, eqb, cond, not, List, [], ◌∷◌, ◌++◌, codes, length, take, filter, refl, sym, ap, ◌∙◌, subst, arith, length-take}
use Rattle.std.specs.Prelude.{nat_lt, if◌then◌else◌}
use Rattle.std.specs.List.{concat, slice_split, onto_first, join_with_byte}
use Rattle.std.proofs.lemmas.Bool.{and_parts, ltb-true}
use Rattle.std.proofs.lemmas.List.{take_all}
use Rattle.std.proofs.lemmas.List.Splits.{join_with_byte-slice_split}
use Rattle.std.proofs.lemmas.Slice.Eq.{bytes_eq-Decides}
use Rattle.anstyle_parse.specs.Stream.Bytes.{semicolon}
use Rattle.anstyle_parse.specs.Stream.Arguments.{is_kept, through_stored, parts_of}
use Rattle.anstyle_parse.specs.Stream.Items.{EachIs}
use Rattle.anstyle_parse.proofs.Lists.Parts.{AllByRecursion-take, slice_split-each}
use Rattle.anstyle_parse.proofs.Lists.Passing.{EachLacks}
use Rattle.ansi_html.specs.Links.{is_link_command, is_whole, is_linkable, uri_of, link_of, SaysLink}

split : List ℕ → List (List ℕ)
split bytes = slice_split (λ b. eqb b semicolon) bytes

length-onto : (b : ℕ) (parts : List (List ℕ)) → length (concat (onto_first b parts)) ≡ suc (length (concat parts))
length-onto b [] = refl
length-onto b (part ∷ parts) = refl

-- a separator before bytes, and another byte
length-split-separator : (b : ℕ) (bytes : List ℕ) → eqb b semicolon ≡ true → length (concat (split (b ∷ bytes))) ≡ length (concat (split bytes))
unfolding split
length-split-separator b bytes is = ap (λ (it : Bool). length (concat (cond it ([] ∷ slice_split (λ x. eqb x semicolon) bytes) (onto_first b (slice_split (λ x. eqb x semicolon) bytes))))) is

length-split-other : (b : ℕ) (bytes : List ℕ) → eqb b semicolon ≡ false → length (concat (split (b ∷ bytes))) ≡ suc (length (concat (split bytes)))
unfolding split
length-split-other b bytes is =
    ap (λ (it : Bool). length (concat (cond it ([] ∷ slice_split (λ x. eqb x semicolon) bytes) (onto_first b (slice_split (λ x. eqb x semicolon) bytes))))) is
    ∙ length-onto b (slice_split (λ x. eqb x semicolon) bytes)

-- where fewer are stored than can be, all are
through_stored-all : (n : ℕ) (bytes : List ℕ) → length (concat (split (through_stored n bytes))) < n → through_stored n bytes ≡ bytes
unfolding split
through_stored-all zero [] few = refl
through_stored-all (suc n) [] few = refl
through_stored-all zero (b ∷ bytes) few = absurd (omega (arith, few))
through_stored-all (suc n) (b ∷ bytes) few =
    by_case (eqb b semicolon) refl (through_stored-all (suc n) bytes) (through_stored-all n bytes) few
  where
    by_case : (is : Bool) → eqb b semicolon ≡ is
        → (length (concat (split (through_stored (suc n) bytes))) < suc n → through_stored (suc n) bytes ≡ bytes)
        → (length (concat (split (through_stored n bytes))) < n → through_stored n bytes ≡ bytes)
        → length (concat (split (b ∷ (if is then through_stored (suc n) bytes else through_stored n bytes)))) < suc n
        → b ∷ (if is then through_stored (suc n) bytes else through_stored n bytes) ≡ b ∷ bytes
    by_case true e more less few = ap (λ l. b ∷ l) (more (omega (arith, few, length-split-separator b (through_stored (suc n) bytes) e)))
    by_case false e more less few = ap (λ l. b ∷ l) (less (omega (arith, few, length-split-other b (through_stored n bytes) e)))

-- a link is no empty list, so it comes from a command of which nothing was dropped
from_whole : (parts : List (List ℕ)) → link_of parts ≢ [] → (is_whole parts ≡ true) × (link_of parts ≡ uri_of parts)
unfolding link_of
from_whole parts some = by_case (is_whole parts) (is_linkable (uri_of parts)) refl some
  where
    by_case : (whole linkable : Bool) → is_whole parts ≡ whole → (if whole && linkable then uri_of parts else []) ≢ []
        → (is_whole parts ≡ true) × ((if whole && linkable then uri_of parts else []) ≡ uri_of parts)
    by_case true true e some = (e, refl)
    by_case true false e some = absurd (some refl)
    by_case false linkable e some = absurd (some refl)

-- the parts of the kept bytes, of which none was dropped
joined_whole : (kept : List ℕ) → is_whole (take 16 (split (through_stored 1024 kept))) ≡ true
    → join_with_byte semicolon (take 16 (split (through_stored 1024 kept))) ≡ kept
unfolding split
joined_whole kept whole =
    let all = split (through_stored 1024 kept) in
    let fits = and_parts (nat_lt (length (take 16 all)) 16) (nat_lt (length (concat (take 16 all))) 1024) whole in
    let few : take 16 all ≡ all = take_all 16 all (omega (arith, ltb-true (length (take 16 all)) 16 fits.0, length-take 16 all)) in
    let stored = ltb-true (length (concat (take 16 all))) 1024 fits.1 in
    ap (join_with_byte semicolon) few
    ∙ join_with_byte-slice_split semicolon (through_stored 1024 kept)
    ∙ through_stored-all 1024 kept (subst (λ l. length (concat l) < 1024) few stored)

-- the parts lack the separator
lacking : (kept : List ℕ) → EachLacks semicolon (take 16 (split (through_stored 1024 kept)))
unfolding split
lacking kept =
    let stored = through_stored 1024 kept in
    AllByRecursion-take (EachIs (λ b. not (eqb b semicolon))) 16 (split stored) (slice_split-each (λ b. true) semicolon stored (each stored))
  where
    each : (bytes : List ℕ) → EachIs (λ b. true) bytes
    each [] = tt
    each (b ∷ bytes) = (refl, each bytes)

parted : (parts : List (List ℕ)) (kept : List ℕ) → is_link_command parts ≡ true → uri_of parts ≢ [] → join_with_byte semicolon parts ≡ kept
    → EachLacks semicolon parts
    → (params : List ℕ) × EachIs (λ b. not (eqb b semicolon)) params × (kept ≡ codes "8;" ++ (params ++ (semicolon ∷ uri_of parts)))
parted [] kept command some joined lacks = absurd (some refl)
parted (number ∷ []) kept command some joined lacks = absurd (some refl)
parted (number ∷ params ∷ []) kept command some joined lacks = absurd (some refl)
parted (number ∷ params ∷ first ∷ others) kept command some joined lacks = (
  params,
  lacks.1.0,
  sym joined ∙ ap (λ l. l ++ (semicolon ∷ (params ++ (semicolon ∷ join_with_byte semicolon (first ∷ others))))) ((bytes_eq-Decides number (codes "8")).0 command),
)

pub says_link : (text : List ℕ) → is_link_command (parts_of text) ≡ true → link_of (parts_of text) ≢ [] → SaysLink text (link_of (parts_of text))
unfolding parts_of split
says_link text command some =
    let parts = parts_of text in
    let kept = filter is_kept text in
    let from = from_whole parts some in
    let said = parted parts kept command (λ none. some (from.1 ∙ none)) (joined_whole kept from.0) (lacking kept) in
    record {
      params = said.0;
      no_separator = said.1;
      whole = said.2 ∙ ap (λ l. codes "8;" ++ (said.0 ++ (semicolon ∷ l))) (sym from.1);
    }
