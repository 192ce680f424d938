-- What each byte of the schemes is, each character of a text is that begins one.
use Rattle.std.proofs.Common.{◌≡◌, ℕ, Bool, true, false, ◌||◌, List, [], ◌∷◌, ◌++◌, codes, length, drop, refl, sym, ◌∙◌, subst, ⊎_elim}
use Rattle.std.specs.Prelude.{nat_eq}
use Rattle.std.specs.List.{starts_with}
use Rattle.std.specs.Char.{to_ascii_lowercase}
use Rattle.std.proofs.lemmas.Bool.{or_cases, false≢true}
use Rattle.std.proofs.lemmas.Bool.Decides.{Decides-eqb}
use Rattle.std.proofs.lemmas.List.{map-append}
use Rattle.std.proofs.lemmas.Slice.Eq.{starts_is}
use Rattle.anstyle_parse.specs.Stream.Items.{EachIs}
use Rattle.anstyle_parse.proofs.Bytes.Passing.{EachIs-parts}
use Rattle.html_urls.specs.Addresses.{in_small, begins_small, begins_scheme}

module _ (test : ℕ → Bool) where
  starts-each : (scheme text : List ℕ) → EachIs test scheme → starts_with nat_eq scheme text ≡ true → EachIs test text
  starts-each scheme text each begin =
      let whole = (starts_is {E = nat_eq} Decides-eqb scheme text (starts_with nat_eq scheme text) refl).0 begin in
      (EachIs-parts test text (drop (length text) scheme) (subst (EachIs test) whole each)).0

  pub begins-each : EachIs test (codes "https://") → EachIs test (codes "http://") → EachIs test (codes "mailto:")
      → (text : List ℕ) → begins_small text ≡ true → EachIs test text
  unfolding begins_small
  begins-each secure plain mail text is =
      ⊎_elim (λ one. starts-each (codes "https://") text secure one)
      (λ others. ⊎_elim (λ two. starts-each (codes "http://") text plain two) (λ three. starts-each (codes "mailto:") text mail three)
      (or_cases (starts_with nat_eq (codes "http://") text) (starts_with nat_eq (codes "mailto:") text) others))
      (or_cases (starts_with nat_eq (codes "https://") text) (starts_with nat_eq (codes "http://") text || starts_with nat_eq (codes "mailto:") text) is)

  -- so no scheme begins with a text that ends with another character
  pub begins-not : EachIs test (codes "https://") → EachIs test (codes "http://") → EachIs test (codes "mailto:")
      → (text : List ℕ) (c : ℕ) → test (to_ascii_lowercase c) ≡ false → begins_scheme (text ++ c ∷ []) ≡ false
  begins-not secure plain mail text c other = by (begins_scheme (text ++ c ∷ [])) refl
    where
      by : (t : Bool) → begins_scheme (text ++ c ∷ []) ≡ t → t ≡ false
      by true is =
          let each = begins-each secure plain mail (in_small (text ++ c ∷ [])) is in
          let last = (EachIs-parts test (in_small text) (to_ascii_lowercase c ∷ []) (subst (EachIs test) (map-append to_ascii_lowercase text (c ∷ [])) each)).1 in
          absurd (false≢true (sym other ∙ last.0))
      by false is = refl
