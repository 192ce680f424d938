-- What small letters leave of characters, and what characters of an address are.
use Rattle.std.proofs.Common.{◌≡◌, ◌<◌, ◌≤◌, ◌+◌, ℕ, Bool, true, false, ◌||◌, cond, List, [], ◌∷◌, refl, sym, ap, ap₂, ◌∙◌, arith, ◌⊎◌, inl, inr, ⊎_elim}
use Rattle.std.specs.Prelude.{nat_eq, nat_le, nat_lt, not}
use Rattle.std.specs.Char.{to_ascii_lowercase}
use Rattle.std.proofs.lemmas.Bool.{and_parts, and_from, or_cases, le-leb, leb-true, ltb-true, ltb-false, eqb-true, ne_eqb}
use Rattle.anstyle_parse.specs.Laws.Lawful.{is_character}
use Rattle.anstyle_parse.specs.Stream.Bytes.{is_within}
use Rattle.anstyle_parse.specs.Stream.Items.{EachIs}
use Rattle.anstyle_parse.proofs.Characters.Encoding.{within}
use Rattle.anstyle_parse.proofs.Characters.Scalars.{is_character-low}
use Rattle.html_urls.specs.Addresses.{is_between, is_of_word, is_of_uri, is_beyond_uri, is_of_address, in_small}
use Rattle.html_urls.specs.Colon.{is_no_colon}

pub or-left : (s t : Bool) → s ≡ true → (s || t) ≡ true
or-left s t is = ap (λ u. u || t) is

pub or-right : (s t : Bool) → t ≡ true → (s || t) ≡ true
or-right true t is = refl
or-right false t is = is

between : (first last c : ℕ) → first ≤ c → c ≤ last → is_between first last c ≡ true
between first last c low high = and_from (nat_le first c) (nat_le c last) (le-leb first c low) (le-leb c last high)

-- a letter in small is another one, or the same character
Lowered : ℕ → Type 0
Lowered c = (to_ascii_lowercase c ≡ c) ⊎ ((0x41 ≤ c) × (c ≤ 0x5A) × (to_ascii_lowercase c ≡ c + 32))

lowered : (c : ℕ) → Lowered c
unfolding Lowered
lowered c = by (nat_lt c 65) (nat_lt c 91) refl refl
  where
    by : (s t : Bool) → nat_lt c 65 ≡ s → nat_lt c 91 ≡ t → Lowered c
    by true t one two = inl (ap (λ (s : Bool). cond s c (cond (nat_lt c 91) (c + 32) c)) one)
    by false false one two = inl (ap₂ (λ (s t : Bool). cond s c (cond t (c + 32) c)) one two)
    by false true one two =
        let low = ltb-false c 65 one in
        let high = ltb-true c 91 two in
        inr (omega (arith, low), omega (arith, high), ap₂ (λ (s t : Bool). cond s c (cond t (c + 32) c)) one two)

-- so each is a character of a scheme or none
pub word-small : (c : ℕ) → is_of_word (to_ascii_lowercase c) ≡ is_of_word c
unfolding Lowered
word-small c = by (lowered c)
  where
    letter : (d : ℕ) → 0x61 ≤ d → d ≤ 0x7A → is_of_word d ≡ true
    letter d low high =
        or-right (is_between 0x30 0x39 d) _ (or-right (is_between 0x41 0x5A d) _ (or-left (is_between 0x61 0x7A d) _ (between 0x61 0x7A d low high)))

    capital : 0x41 ≤ c → c ≤ 0x5A → is_of_word c ≡ true
    capital low high = or-right (is_between 0x30 0x39 c) _ (or-left (is_between 0x41 0x5A c) _ (between 0x41 0x5A c low high))

    by : Lowered c → is_of_word (to_ascii_lowercase c) ≡ is_of_word c
    by (inl same) = ap is_of_word same
    by (inr (low, high, is)) = ap is_of_word is ∙ letter (c + 32) (omega (arith, low)) (omega (arith, high)) ∙ sym (capital low high)

pub uri-small : (c : ℕ) → is_of_uri (to_ascii_lowercase c) ≡ true → is_of_uri c ≡ true
unfolding Lowered
uri-small c = by (lowered c)
  where
    capital : 0x41 ≤ c → c ≤ 0x5A → is_of_uri c ≡ true
    capital low high =
        or-right (nat_eq c 0x21) _ (or-right (is_between 0x23 0x3B c) _ (or-right (nat_eq c 0x3D) _
        (or-left (is_between 0x3F 0x5B c) _ (between 0x3F 0x5B c (omega (arith, low)) (omega (arith, high))))))

    by : Lowered c → is_of_uri (to_ascii_lowercase c) ≡ true → is_of_uri c ≡ true
    by (inl same) is = sym (ap is_of_uri same) ∙ is
    by (inr (low, high, _)) is = capital low high

pub colon-small : (c : ℕ) → is_no_colon c ≡ true → is_no_colon (to_ascii_lowercase c) ≡ true
unfolding Lowered
colon-small c clear = by (lowered c)
  where
    by : Lowered c → is_no_colon (to_ascii_lowercase c) ≡ true
    by (inl same) = ap is_no_colon same ∙ clear
    by (inr (low, high, is)) = ap is_no_colon is ∙ ap not (ne_eqb (c + 32) 0x3A (λ same. omega (arith, same, low)))

-- the same of texts
pub each-small : (test : ℕ → Bool) → ((c : ℕ) → test (to_ascii_lowercase c) ≡ true → test c ≡ true) → (text : List ℕ) → EachIs test (in_small text) → EachIs test text
each-small test back [] each = tt
each-small test back (c ∷ text) each = (back c each.0, each-small test back text each.1)

pub each-in_small : (test : ℕ → Bool) → ((c : ℕ) → test c ≡ true → test (to_ascii_lowercase c) ≡ true) → (text : List ℕ) → EachIs test text → EachIs test (in_small text)
each-in_small test on [] each = tt
each-in_small test on (c ∷ text) each = (on c each.0, each-in_small test on text each.1)

-- what follows of a chain of ranges follows of each
module _ (c : ℕ) {Q : Type 0} where
  one : (k : ℕ) → (c ≡ k → Q) → nat_eq c k ≡ true → Q
  one k from is = from (eqb-true c k is)

  some : (first last : ℕ) → (first ≤ c → c ≤ last → Q) → is_between first last c ≡ true → Q
  some first last from is =
      let parts = and_parts (nat_le first c) (nat_le c last) is in
      from (leb-true first c parts.0) (leb-true c last parts.1)

  either : (s t : Bool) → (s ≡ true → Q) → (t ≡ true → Q) → (s || t) ≡ true → Q
  either s t left right is = ⊎_elim left right (or_cases s t is)

-- a character of a URI is visible, and one beyond is none of ASCII
abbrev pub IsVisible : ℕ → Type 0
IsVisible c = (0x21 ≤ c) × (c ≤ 0x7E)

pub uri-visible : (c : ℕ) → is_of_uri c ≡ true → IsVisible c
uri-visible c =
    either c _ _ (one c 0x21 (λ is. (omega (arith, is), omega (arith, is))))
    (either c _ _ (some c 0x23 0x3B (λ low high. (omega (arith, low), omega (arith, high))))
    (either c _ _ (one c 0x3D (λ is. (omega (arith, is), omega (arith, is))))
    (either c _ _ (some c 0x3F 0x5B (λ low high. (omega (arith, low), omega (arith, high))))
    (either c _ _ (one c 0x5D (λ is. (omega (arith, is), omega (arith, is))))
    (either c _ _ (one c 0x5F (λ is. (omega (arith, is), omega (arith, is))))
    (either c _ _ (some c 0x61 0x7A (λ low high. (omega (arith, low), omega (arith, high))))
    (one c 0x7E (λ is. (omega (arith, is), omega (arith, is))))))))))

record IsBeyond (c : ℕ) : Type 0 where
  least : 0xA1 ≤ c
  lawful : is_character c ≡ true

below : (c first last : ℕ) → 0xA1 ≤ first → last < 0xD800 → is_between first last c ≡ true → IsBeyond c
below c first last least most =
    some c first last (λ low high. record { least = omega (arith, low, least); lawful = is_character-low c (omega (arith, low, least)) (omega (arith, high, most)) })

above : (c first last : ℕ) → 0xE000 ≤ first → last < 0x11_0000 → is_between first last c ≡ true → IsBeyond c
unfolding is_character
above c first last least most =
    some c first last (λ low high. record {
      least = omega (arith, low, least);
      lawful = or-right (is_within 0x20 0xD7FF c) (is_within 0xE000 0x10FFFF c) (within 0xE000 0x10FFFF c (omega (arith, low, least)) (omega (arith, high, most)));
    })

beyond : (c : ℕ) → is_beyond_uri c ≡ true → IsBeyond c
beyond c =
    either c _ _ (below c 0xA1 0x167F (omega arith) (omega arith))
    (either c _ _ (below c 0x1681 0x1FFF (omega arith) (omega arith))
    (either c _ _ (below c 0x200C 0x200D (omega arith) (omega arith))
    (either c _ _ (below c 0x2010 0x2027 (omega arith) (omega arith))
    (either c _ _ (below c 0x2030 0x205E (omega arith) (omega arith))
    (either c _ _ (below c 0x2070 0x24FF (omega arith) (omega arith))
    (either c _ _ (below c 0x25A0 0x2FFF (omega arith) (omega arith))
    (either c _ _ (below c 0x3001 0xD7FF (omega arith) (omega arith))
    (either c _ _ (above c 0xF900 0xFDCF (omega arith) (omega arith))
    (either c _ _ (above c 0xFDF0 0xFFEF (omega arith) (omega arith))
    (above c 0x1_0000 0xD_FFFD (omega arith) (omega arith)))))))))))

-- so each character of an address can be printed, and those of ASCII are visible
pub address-character : (c : ℕ) → is_of_address c ≡ true → is_character c ≡ true
address-character c =
    either c (is_of_uri c) (is_beyond_uri c)
    (λ uri. let visible = uri-visible c uri in is_character-low c (omega (arith, visible.0)) (omega (arith, visible.1)))
    (λ other. (beyond c other).lawful)

pub address-visible : (c : ℕ) → is_of_address c ≡ true → c < 0x80 → IsVisible c
address-visible c is low =
    either c (is_of_uri c) (is_beyond_uri c) (uri-visible c) (λ other. let least = (beyond c other).least in absurd (omega (arith, least, low))) is
