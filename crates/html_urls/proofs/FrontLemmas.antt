-- Schemes at the front of texts: of a text that has one, of one that begins one, and of parts of these. First in small
-- letters, and at the end in letters of any case.
use Rattle.std.proofs.Common.{◌≡◌, ◌≤◌, ℕ, Bool, true, false, ◌&&◌, ◌||◌, List, [], ◌∷◌, ◌++◌, codes, length, drop, refl, sym, ap, ap₂, ◌∙◌, subst, append_assoc, length-append, arith, ◌⊎◌, inl, inr, ⊎_elim}
use Rattle.std.specs.Prelude.{nat_eq, not}
use Rattle.std.specs.List.{starts_with}
use Rattle.std.specs.Char.{to_ascii_lowercase}
use Rattle.std.proofs.lemmas.Bool.{and_parts, or_cases, not-true, false≢true}
use Rattle.std.proofs.lemmas.Bool.Decides.{Decides-eqb}
use Rattle.std.proofs.lemmas.List.{map-append, length-map}
use Rattle.std.proofs.lemmas.Slice.Eq.{starts_is}
use Rattle.ansi_html.specs.Links.{has_scheme}
use Rattle.html_urls.specs.Addresses.{is_of_word, in_small, says_scheme, begins_small, begins_scheme, may_begin}
use Rattle.html_urls.proofs.CaseLemmas.{or-left, or-right, word-small}

-- one of the three schemes
unfoldable pub IsScheme : List ℕ → Type 0
IsScheme scheme = (scheme ≡ codes "https://") ⊎ ((scheme ≡ codes "http://") ⊎ (scheme ≡ codes "mailto:"))

-- A text has a scheme where one is its front, and begins one where it is the front of one.
pub record HasFront (text : List ℕ) : Type 0 where
  pub scheme : List ℕ
  pub rest : List ℕ
  pub is_scheme : IsScheme scheme
  pub whole : text ≡ scheme ++ rest

record IsFront (text : List ℕ) : Type 0 where
  scheme : List ℕ
  rest : List ℕ
  is_scheme : IsScheme scheme
  whole : scheme ≡ text ++ rest

starts : (text front : List ℕ) → starts_with nat_eq text front ≡ true → text ≡ front ++ drop (length front) text
starts text front is = (starts_is {E = nat_eq} Decides-eqb text front (starts_with nat_eq text front) refl).0 is

starts-by : (text front rest : List ℕ) → text ≡ front ++ rest → starts_with nat_eq text front ≡ true
starts-by text front rest is = (starts_is {E = nat_eq} Decides-eqb text front (starts_with nat_eq text front) refl).1 rest is

pub has-front : (text : List ℕ) → has_scheme text ≡ true → HasFront text
unfolding has_scheme IsScheme
has-front text is =
    let at : (scheme : List ℕ) → IsScheme scheme → starts_with nat_eq text scheme ≡ true → HasFront text =
    λ scheme one begins. record { scheme = scheme; rest = drop (length scheme) text; is_scheme = one; whole = starts text scheme begins } in
    ⊎_elim (at (codes "https://") (inl refl))
    (λ others. ⊎_elim (at (codes "http://") (inr (inl refl))) (at (codes "mailto:") (inr (inr refl)))
    (or_cases (starts_with nat_eq text (codes "http://")) (starts_with nat_eq text (codes "mailto:")) others))
    (or_cases (starts_with nat_eq text (codes "https://")) (starts_with nat_eq text (codes "http://") || starts_with nat_eq text (codes "mailto:")) is)

pub has-by : (text scheme rest : List ℕ) → IsScheme scheme → text ≡ scheme ++ rest → has_scheme text ≡ true
unfolding has_scheme IsScheme
has-by text scheme rest one whole =
    let is : starts_with nat_eq text scheme ≡ true = starts-by text scheme rest whole in
    let at : (S : List ℕ) → scheme ≡ S → starts_with nat_eq text S ≡ true = λ S same. subst (λ (l : List ℕ). starts_with nat_eq text l ≡ true) same is in
    let plain = starts_with nat_eq text (codes "http://") in
    let mail = starts_with nat_eq text (codes "mailto:") in
    let secure = starts_with nat_eq text (codes "https://") in
    ⊎_elim (λ same. or-left secure (plain || mail) (at (codes "https://") same))
    (λ others. or-right secure (plain || mail)
    (⊎_elim (λ same. or-left plain mail (at (codes "http://") same)) (λ same. or-right plain mail (at (codes "mailto:") same)) others))
    one

is-front : (text : List ℕ) → begins_small text ≡ true → IsFront text
unfolding begins_small IsScheme
is-front text is =
    let at : (scheme : List ℕ) → IsScheme scheme → starts_with nat_eq scheme text ≡ true → IsFront text =
    λ scheme one begins. record { scheme = scheme; rest = drop (length text) scheme; is_scheme = one; whole = starts scheme text begins } in
    ⊎_elim (at (codes "https://") (inl refl))
    (λ others. ⊎_elim (at (codes "http://") (inr (inl refl))) (at (codes "mailto:") (inr (inr refl)))
    (or_cases (starts_with nat_eq (codes "http://") text) (starts_with nat_eq (codes "mailto:") text) others))
    (or_cases (starts_with nat_eq (codes "https://") text) (starts_with nat_eq (codes "http://") text || starts_with nat_eq (codes "mailto:") text) is)

begins-by : (text scheme rest : List ℕ) → IsScheme scheme → scheme ≡ text ++ rest → begins_small text ≡ true
unfolding begins_small IsScheme
begins-by text scheme rest one whole =
    let is : starts_with nat_eq scheme text ≡ true = starts-by scheme text rest whole in
    let at : (S : List ℕ) → scheme ≡ S → starts_with nat_eq S text ≡ true = λ S same. subst (λ (l : List ℕ). starts_with nat_eq l text ≡ true) same is in
    let plain = starts_with nat_eq (codes "http://") text in
    let mail = starts_with nat_eq (codes "mailto:") text in
    let secure = starts_with nat_eq (codes "https://") text in
    ⊎_elim (λ same. or-left secure (plain || mail) (at (codes "https://") same))
    (λ others. or-right secure (plain || mail)
    (⊎_elim (λ same. or-left plain mail (at (codes "http://") same)) (λ same. or-right plain mail (at (codes "mailto:") same)) others))
    one

-- what a text has at its front, a longer one has
has-more : (text more : List ℕ) → has_scheme text ≡ true → has_scheme (text ++ more) ≡ true
has-more text more is =
    let front = has-front text is in
    has-by (text ++ more) front.scheme (front.rest ++ more) front.is_scheme
    (ap (λ (l : List ℕ). l ++ more) front.whole ∙ append_assoc front.scheme front.rest more)

-- the shorter of two fronts of a list is the front of the other
Fronts : (text : List ℕ) (c : ℕ) (front : List ℕ) → Type 0
Fronts text c front = ((left : List ℕ) × (text ≡ front ++ left)) ⊎ ((left : List ℕ) × (front ≡ (text ++ c ∷ []) ++ left))

pub tail-of : List ℕ → List ℕ
tail-of [] = []
tail-of (b ∷ bytes) = bytes

pub head-of : List ℕ → ℕ
head-of [] = 0
head-of (b ∷ bytes) = b

pub tail-of-is : (b : ℕ) (bytes : List ℕ) → tail-of (b ∷ bytes) ≡ bytes
unfolding tail-of
tail-of-is b bytes = refl

pub head-of-is : (b : ℕ) (bytes : List ℕ) → head-of (b ∷ bytes) ≡ b
unfolding head-of
head-of-is b bytes = refl

more-fronts : (text front : List ℕ) (b c f : ℕ) → b ≡ f → Fronts text c front → Fronts (b ∷ text) c (f ∷ front)
unfolding Fronts
more-fronts text front b c f first (inl found) = inl (found.0, ap₂ (λ (x : ℕ) (l : List ℕ). x ∷ l) first found.1)
more-fronts text front b c f first (inr found) = inr (found.0, ap₂ (λ (x : ℕ) (l : List ℕ). x ∷ l) (sym first) found.1)

two-fronts : (text : List ℕ) (c : ℕ) (more front rest : List ℕ) → text ++ (c ∷ more) ≡ front ++ rest → Fronts text c front
unfolding Fronts tail-of head-of
two-fronts text c more [] rest same = inl (text, refl)
two-fronts [] c more (f ∷ front) rest same = inr (front, ap (λ (b : ℕ). b ∷ front) (sym (ap head-of same)))
two-fronts (b ∷ text) c more (f ∷ front) rest same = more-fronts text front b c f (ap head-of same) (two-fronts text c more front rest (ap tail-of same))

-- So a scheme that goes on past a text ends in it, or the text goes on as one.
cut-by : (text scheme : List ℕ) (c : ℕ) → IsScheme scheme → Fronts text c scheme → (has_scheme text ≡ true) ⊎ (begins_small (text ++ c ∷ []) ≡ true)
unfolding Fronts
cut-by text scheme c one (inl found) = inl (has-by text scheme found.0 one found.1)
cut-by text scheme c one (inr found) = inr (begins-by (text ++ c ∷ []) scheme found.0 one found.1)

has-cut : (text : List ℕ) (c : ℕ) (more : List ℕ) → has_scheme (text ++ (c ∷ more)) ≡ true → (has_scheme text ≡ true) ⊎ (begins_small (text ++ c ∷ []) ≡ true)
has-cut text c more is =
    let front = has-front (text ++ (c ∷ more)) is in
    cut-by text front.scheme c front.is_scheme (two-fronts text c more front.scheme front.rest front.whole)

pub has-none : has_scheme [] ≡ false
unfolding has_scheme
has-none = refl

-- where none begins with a character, none stands
no-begin-small : (joins : Bool) (c : ℕ) (text : List ℕ) → (joins || not (begins_small (c ∷ []))) ≡ true → (not joins && has_scheme (c ∷ text)) ≡ false
no-begin-small true c text is = refl
no-begin-small false c text is = by (has_scheme (c ∷ text)) refl
  where
    cut : (has_scheme [] ≡ true) ⊎ (begins_small (c ∷ []) ≡ true) → ⊥
    cut (inl none) = false≢true (sym has-none ∙ none)
    cut (inr begin) = false≢true (sym (not-true (begins_small (c ∷ [])) is) ∙ begin)

    by : (t : Bool) → has_scheme (c ∷ text) ≡ t → t ≡ false
    by false has = refl
    by true has = absurd (cut (has-cut [] c text has))

pub no-begin-end : (joins : Bool) → may_begin joins [] ≡ false
no-begin-end true = refl
no-begin-end false = has-none

-- a scheme has at most eight bytes
short-scheme : (scheme : List ℕ) → IsScheme scheme → length scheme ≤ 8
unfolding IsScheme
short-scheme scheme (inl same) = let count : length scheme ≡ 8 = ap length same in omega (arith, count)
short-scheme scheme (inr (inl same)) = let count : length scheme ≡ 7 = ap length same in omega (arith, count)
short-scheme scheme (inr (inr same)) = let count : length scheme ≡ 7 = ap length same in omega (arith, count)

short-small : (text : List ℕ) → begins_small text ≡ true → length text ≤ 8
short-small text is =
    let front = is-front text is in
    let most = short-scheme front.scheme front.is_scheme in
    let whole : length front.scheme ≡ length (text ++ front.rest) = ap length front.whole in
    omega (arith, most, whole, length-append text front.rest)

-- No scheme begins within one: each character after the first begins none, or one of a scheme stands before it.
clear-small : (joins : Bool) → List ℕ → Bool
clear-small joins [] = true
clear-small joins (c ∷ cs) = (joins || not (begins_small (c ∷ []))) && clear-small (is_of_word c) cs

and-both : (s t : Bool) → s ≡ true → t ≡ true → (s && t) ≡ true
and-both s t one two = ap₂ (λ (x y : Bool). x && y) one two

clear-front : (cs more : List ℕ) (joins : Bool) → clear-small joins (cs ++ more) ≡ true → clear-small joins cs ≡ true
unfolding clear-small
clear-front [] more joins is = refl
clear-front (c ∷ cs) more joins is =
    let parts = and_parts (joins || not (begins_small (c ∷ []))) (clear-small (is_of_word c) (cs ++ more)) is in
    and-both (joins || not (begins_small (c ∷ []))) (clear-small (is_of_word c) cs) parts.0 (clear-front cs more (is_of_word c) parts.1)

clear-after : List ℕ → Bool
clear-after [] = true
clear-after (c ∷ cs) = clear-small (is_of_word c) cs

clear-scheme : (scheme : List ℕ) → IsScheme scheme → clear-after scheme ≡ true
unfolding IsScheme clear-small clear-after begins_small
clear-scheme scheme (inl same) = ap clear-after same
clear-scheme scheme (inr (inl same)) = ap clear-after same
clear-scheme scheme (inr (inr same)) = ap clear-after same

within-small : (c : ℕ) (cs : List ℕ) → begins_small (c ∷ cs) ≡ true → clear-small (is_of_word c) cs ≡ true
unfolding clear-after
within-small c cs is =
    let front = is-front (c ∷ cs) is in
    clear-front cs front.rest (is_of_word c) (sym (ap clear-after front.whole) ∙ clear-scheme front.scheme front.is_scheme)

-- In letters of any case: what a text has at its front, a longer one has.
pub says-more : (text more : List ℕ) → says_scheme text ≡ true → says_scheme (text ++ more) ≡ true
says-more text more is = ap has_scheme (map-append to_ascii_lowercase text more) ∙ has-more (in_small text) (in_small more) is

-- a scheme that goes on past a text ends in it, or the text goes on as one
pub says-cut : (text : List ℕ) (c : ℕ) (more : List ℕ) → says_scheme (text ++ (c ∷ more)) ≡ true → (says_scheme text ≡ true) ⊎ (begins_scheme (text ++ c ∷ []) ≡ true)
says-cut text c more is =
    ⊎_elim (λ has. inl has) (λ begin. inr (ap begins_small (map-append to_ascii_lowercase text (c ∷ [])) ∙ begin))
    (has-cut (in_small text) (to_ascii_lowercase c) (in_small more) (sym (ap has_scheme (map-append to_ascii_lowercase text (c ∷ more))) ∙ is))

-- where none begins with a character, none stands
pub no-begin : (joins : Bool) (c : ℕ) (text : List ℕ) → (joins || not (begins_scheme (c ∷ []))) ≡ true → may_begin joins (c ∷ text) ≡ false
no-begin joins c text is = no-begin-small joins (to_ascii_lowercase c) (in_small text) is

pub begins-short : (text : List ℕ) → begins_scheme text ≡ true → length text ≤ 8
begins-short text is = let short = short-small (in_small text) is in omega (arith, short, length-map text to_ascii_lowercase)

-- and no scheme begins within one
pub clear : (joins : Bool) → List ℕ → Bool
clear joins [] = true
clear joins (c ∷ cs) = (joins || not (begins_scheme (c ∷ []))) && clear (is_of_word c) cs

pub clear-parts : (joins : Bool) (c : ℕ) (cs : List ℕ) → clear joins (c ∷ cs) ≡ true → ((joins || not (begins_scheme (c ∷ []))) ≡ true) × (clear (is_of_word c) cs ≡ true)
unfolding clear
clear-parts joins c cs is = and_parts (joins || not (begins_scheme (c ∷ []))) (clear (is_of_word c) cs) is

same-clear : (cs : List ℕ) (joins : Bool) → clear joins cs ≡ clear-small joins (in_small cs)
unfolding clear clear-small
same-clear [] joins = refl
same-clear (c ∷ cs) joins =
    ap (λ t. (joins || not (begins_scheme (c ∷ []))) && t)
    (same-clear cs (is_of_word c) ∙ ap (λ (t : Bool). clear-small t (in_small cs)) (sym (word-small c)))

pub clear-within : (c : ℕ) (cs : List ℕ) → begins_scheme (c ∷ cs) ≡ true → clear (is_of_word c) cs ≡ true
clear-within c cs is =
    same-clear cs (is_of_word c) ∙ ap (λ (t : Bool). clear-small t (in_small cs)) (sym (word-small c)) ∙ within-small (to_ascii_lowercase c) (in_small cs) is
