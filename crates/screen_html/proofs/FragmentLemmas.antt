-- Blocks of what a screen showed, of each of which a fragment is the text; what is left of one that is open may follow text of the
-- element that is shown.
use Rattle.std.proofs.Common.{◌≡◌, ℕ, Bool, true, false, List, [], ◌∷◌, ◌++◌, refl, sym, ap, ◌∙◌, subst, append_assoc}
use Rattle.std.specs.Prelude.{if◌then◌else◌}
use Rattle.std.specs.List.{AllByRecursion}
use Rattle.ansi_html.specs.declared.scheme.Styling.{Styling}
use Rattle.ansi_html.specs.Blocks.{block_begin, block_end, in_blocks}
use Rattle.ansi_html.specs.Grammar.{IsFragment}
use Rattle.ansi_html.specs.Html.{Element, no_element}
use Rattle.ansi_html.proofs.GrammarLemmas.{IsInElement, IsFragment-outside}
use Rattle.ansi_html.proofs.PartLemmas.{regroup}

module _ (styling : Styling) where
  pub record Others (none : Bool) (shown : Element) (html : List ℕ) : Type 0 where
    pub first : List ℕ
    pub parts : List (List ℕ)
    pub whole : html ≡ (if none then [] else first ++ block_end) ++ in_blocks parts
    pub stands : none ≡ false → IsInElement styling shown first
    pub fragments : AllByRecursion (IsFragment styling) parts

  outside : (none : Bool) (shown : Element) (html : List ℕ) → (none ≡ true → shown ≡ no_element) → none ≡ true
      → IsInElement styling shown html → IsFragment styling html
  outside none shown html closed is within = IsFragment-outside styling html (subst (λ element. IsInElement styling element html) (closed is) within)

  pub Others-text : (none : Bool) (shown next : Element) (text html : List ℕ) → (none ≡ true → shown ≡ no_element)
      → ((first : List ℕ) → IsInElement styling next first → IsInElement styling shown (text ++ first)) → Others false next html
      → Others none shown ((if none then block_begin else []) ++ (text ++ html))
  Others-text true shown next text html closed follows more = record {
    first = [];
    parts = (text ++ more.first) ∷ more.parts;
    whole = ap (λ l. block_begin ++ (text ++ l)) more.whole ∙ ap (λ l. block_begin ++ l) (regroup text more.first (in_blocks more.parts));
    stands = λ is. absurd (cc is);
    fragments = (outside true shown (text ++ more.first) closed refl (follows more.first (more.stands refl)), more.fragments);
  }
  Others-text false shown next text html closed follows more = record {
    first = text ++ more.first;
    parts = more.parts;
    whole = ap (λ l. text ++ l) more.whole ∙ regroup text more.first (in_blocks more.parts);
    stands = λ is. follows more.first (more.stands refl);
    fragments = more.fragments;
  }

  pub Others-last : (none : Bool) (shown next : Element) (text html : List ℕ) → (none ≡ true → shown ≡ no_element)
      → IsInElement styling shown text → Others true next html
      → Others none shown ((if none then block_begin else []) ++ (text ++ (block_end ++ html)))
  Others-last true shown next text html closed within more = record {
    first = [];
    parts = text ∷ more.parts;
    whole = ap (λ l. block_begin ++ (text ++ (block_end ++ l))) more.whole ∙ ap (λ l. block_begin ++ l) (sym (append_assoc text block_end (in_blocks more.parts)));
    stands = λ is. absurd (cc is);
    fragments = (outside true shown text closed refl within, more.fragments);
  }
  Others-last false shown next text html closed within more = record {
    first = text;
    parts = more.parts;
    whole = ap (λ l. text ++ (block_end ++ l)) more.whole ∙ sym (append_assoc text block_end (in_blocks more.parts));
    stands = λ is. within;
    fragments = more.fragments;
  }
