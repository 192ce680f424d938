-- Lists of bytes that each pass a test, and headers by their significant bytes.
use Rattle.std.proofs.Common.{◌≡◌, ℕ, Bool, true, false, cond, ◌||◌, List, [], ◌∷◌, ◌++◌, IsTrue, refl, sym, ap, ◌∙◌, append-nil, ⊎_elim}
use Rattle.std.specs.List.{list_all, list_any}
use Rattle.std.proofs.lemmas.Bool.{and_parts, or_from, or_parts, or_cases, both_ways, cond-true, cond-false}
use Rattle.std.proofs.lemmas.List.Elements.{filter-append}
use Rattle.std.proofs.lemmas.List.Folds.{list_all-append}
use Rattle.anstyle_parse.specs.Stream.Bytes.{is_intermediate, is_parameter, is_marker, is_significant, is_noise}
use Rattle.anstyle_parse.specs.Stream.Arguments.{significant, after_parameters, has_shape}
use Rattle.anstyle_parse.specs.Stream.Items.{EachIs, is_header_byte}
use Rattle.anstyle_parse.proofs.Bytes.Classes.{Class, class_of, is_noise_at, is_intermediate_at, is_header_byte_at, is_noise-class, is_intermediate-class, is_header_byte-class}

-- what each byte of two lists passes, each byte of both together does
pub EachIs-append : (test : ℕ → Bool) (a b : List ℕ) → EachIs test a → EachIs test b → EachIs test (a ++ b)
EachIs-append test [] b p q = q
EachIs-append test (x ∷ a) b p q = (p.0, EachIs-append test a b p.1 q)

pub EachIs-parts : (test : ℕ → Bool) (a b : List ℕ) → EachIs test (a ++ b) → EachIs test a × EachIs test b
EachIs-parts test [] b p = (tt, p)
EachIs-parts test (x ∷ a) b p = let rest = EachIs-parts test a b p.1 in ((p.0, rest.0), rest.1)

-- one more byte that passes
pub EachIs-push : (test : ℕ → Bool) (a : List ℕ) (b : ℕ) → EachIs test a → IsTrue (test b) → EachIs test (a ++ b ∷ [])
EachIs-push test a b p q = EachIs-append test a (b ∷ []) p (q, tt)

-- a weaker test
pub EachIs-weaker : (test other : ℕ → Bool) → ((b : ℕ) → IsTrue (test b) → IsTrue (other b)) → (a : List ℕ) → EachIs test a → EachIs other a
EachIs-weaker test other weaker [] p = tt
EachIs-weaker test other weaker (x ∷ a) p = (weaker x p.0, EachIs-weaker test other weaker a p.1)

-- no byte of the list passes another test that excludes the first
pub list_any-none : (test other : ℕ → Bool) → ((b : ℕ) → IsTrue (test b) → other b ≡ false) → (a : List ℕ) → EachIs test a → list_any other a ≡ false
list_any-none test other excluded [] p = refl
list_any-none test other excluded (x ∷ a) p = or_from (other x) (list_any other a) (excluded x p.0) (list_any-none test other excluded a p.1)

-- a significant byte after a header, and one that is not
pub significant-push : (header : List ℕ) (b : ℕ) → is_significant b ≡ true → significant (header ++ b ∷ []) ≡ significant header ++ b ∷ []
significant-push header b e =
    filter-append is_significant header (b ∷ []) ∙ ap (λ bytes. significant header ++ bytes) (cond-true (is_significant b) (b ∷ []) [] e)

-- a byte that is not significant changes nothing
pub significant_same : (header : List ℕ) (b : ℕ) → is_significant b ≡ false → significant (header ++ b ∷ []) ≡ significant header
significant_same header b e =
    filter-append is_significant header (b ∷ []) ∙ (ap (λ bytes. significant header ++ bytes) (cond-false (is_significant b) (b ∷ []) [] e) ∙ append-nil (significant header))

-- a prefix of a header of the right shape has it
list_all-prefix : (a b : List ℕ) → list_all is_intermediate (a ++ b) ≡ true → list_all is_intermediate a ≡ true
list_all-prefix a b h =
    (and_parts (list_all is_intermediate a) (list_all is_intermediate b) (sym (list_all-append is_intermediate a b) ∙ h)).0

-- intermediates after parameter bytes, in a prefix
after_parameters-prefix : (a b : List ℕ) → list_all is_intermediate (after_parameters (a ++ b)) ≡ true → list_all is_intermediate (after_parameters a) ≡ true
after_parameters-prefix [] b h = refl
after_parameters-prefix (x ∷ a) b h =
    (elim (is_parameter x) as (λ t. list_all is_intermediate (cond t (after_parameters (a ++ b)) (x ∷ (a ++ b))) ≡ true
    → list_all is_intermediate (cond t (after_parameters a) (x ∷ a)) ≡ true)
    [ true ↦ λ e. after_parameters-prefix a b e | false ↦ λ e. list_all-prefix (x ∷ a) b e ]) h

pub has_shape-prefix : (a b : List ℕ) → has_shape (a ++ b) ≡ true → has_shape a ≡ true
has_shape-prefix [] b h = refl
has_shape-prefix (x ∷ a) b h =
    (elim (is_marker x) as (λ t. list_all is_intermediate (after_parameters (cond t (a ++ b) (x ∷ (a ++ b)))) ≡ true
    → list_all is_intermediate (after_parameters (cond t a (x ∷ a))) ≡ true)
    [ true ↦ λ e. after_parameters-prefix a b e | false ↦ λ e. after_parameters-prefix (x ∷ a) b e ]) h

-- a header whose significant bytes have the shape, and each prefix of it
pub has_shape-significant : (a b : List ℕ) → has_shape (significant (a ++ b)) ≡ true → has_shape (significant a) ≡ true
has_shape-significant a b h = has_shape-prefix (significant a) (significant b) (sym (ap has_shape (filter-append is_significant a b)) ∙ h)

-- a byte that an escape sequence or a header may hold, by its class
abbrev pub is_in_escape_at : Class → Bool
is_in_escape_at c = is_noise_at c || is_intermediate_at c

-- the test of an escape sequence by class
pub is_in_escape-class : (b : ℕ) → (is_noise b || is_intermediate b) ≡ is_in_escape_at (class_of b)
is_in_escape-class b = ap (λ t. t || is_intermediate b) (is_noise-class b) ∙ ap (λ t. is_noise_at (class_of b) || t) (is_intermediate-class b)

-- the classes that a header may hold
abbrev pub is_in_header_at : Class → Bool
is_in_header_at c = is_noise_at c || is_header_byte_at c

-- the test of a header by class
pub is_in_header-class : (b : ℕ) → (is_noise b || is_header_byte b) ≡ is_in_header_at (class_of b)
is_in_header-class b = ap (λ t. t || is_header_byte b) (is_noise-class b) ∙ ap (λ t. is_noise_at (class_of b) || t) (is_header_byte-class b)

-- what stands in an escape sequence with no intermediate is noise
pub EachIs-noise : (bytes : List ℕ) → EachIs (λ b. is_noise b || is_intermediate b) bytes → list_any is_intermediate bytes ≡ false → EachIs is_noise bytes
EachIs-noise [] p none = tt
EachIs-noise (b ∷ bytes) p none =
    let parts = or_parts (is_intermediate b) (list_any is_intermediate bytes) none in (
      ⊎_elim (λ noise. noise) (λ other. absurd (both_ways (is_intermediate b) parts.0 other)) (or_cases (is_noise b) (is_intermediate b) p.0),
      EachIs-noise bytes p.1 parts.1,
    )
