-- What a link to an address has: it begins with a scheme, has visible bytes alone, and a command has room for it.
use Rattle.std.proofs.Common.{◌≡◌, ◌<◌, ◌≤◌, ◌+◌, ◌/◌, ◌%◌, ℕ, Bool, true, false, ◌&&◌, ◌||◌, List, [], ◌∷◌, ◌++◌, codes, length, take, drop, refl, sym, ap, ap₂, ◌∙◌, subst, take-append-drop, length-append, arith, inl, inr}
use Rattle.std.specs.Prelude.{nat_eq, nat_le, nat_lt, ◌==◌, count_by, encode_utf8, if◌then◌else◌}
use Rattle.std.specs.List.{flat_map, list_all, concat, starts_with, slice_split}
use Rattle.std.proofs.lemmas.Bool.{and_parts, and_from, le-leb, lt-ltb, ltb-true, leb-true}
use Rattle.std.proofs.lemmas.List.Splits.{length-slice_split, join_with_byte-slice_split}
use Rattle.anstyle_parse.specs.Stream.Arguments.{is_kept, max_osc_bytes, max_osc_parts}
use Rattle.anstyle_parse.specs.Stream.Bytes.{is_within, semicolon}
use Rattle.anstyle_parse.specs.Stream.Items.{EachIs}
use Rattle.anstyle_parse.specs.Laws.Lawful.{is_stored, AreParts}
use Rattle.anstyle_parse.proofs.Bytes.Passing.{EachIs-append, EachIs-parts, EachIs-weaker}
use Rattle.anstyle_parse.proofs.Characters.Encoding.{within}
use Rattle.anstyle_parse.proofs.Lists.Parts.{spaced, spaced-slice_split, slice_split-each}
use Rattle.ansi_html.specs.Links.{has_scheme, is_visible, is_linkable, is_whole, link_of}
use Rattle.html_urls.specs.Addresses.{is_of_address, in_small, says_scheme, digit, escaped, in_link, scheme_of, target_of, max_held, max_separators, fits}
use Rattle.html_urls.proofs.CaseLemmas.{IsVisible, address-visible}
use Rattle.html_urls.proofs.FrontLemmas.{IsScheme, has-by, has-front}

pub all-each : (test : ℕ → Bool) (bytes : List ℕ) → list_all test bytes ≡ true → EachIs test bytes
all-each test [] is = tt
all-each test (b ∷ bytes) is = let parts = and_parts (test b) (list_all test bytes) is in (parts.0, all-each test bytes parts.1)

each-all : (test : ℕ → Bool) (bytes : List ℕ) → EachIs test bytes → list_all test bytes ≡ true
each-all test [] each = refl
each-all test (b ∷ bytes) each = and_from (test b) (list_all test bytes) each.0 (each-all test bytes each.1)

visible : (b : ℕ) → IsVisible b → is_visible b ≡ true
visible b is = and_from (nat_le 0x21 b) (nat_le b 0x7E) (le-leb 0x21 b is.0) (le-leb b 0x7E is.1)

-- digits are visible, and so is an escaped byte
digit-visible : (n : ℕ) → n < 16 → is_visible (digit n) ≡ true
digit-visible n small = by (nat_lt n 10) refl
  where
    by : (t : Bool) → nat_lt n 10 ≡ t → is_visible (if t then 0x30 + n else 0x37 + n) ≡ true
    by true low = let few = ltb-true n 10 low in visible (0x30 + n) (omega arith, omega (arith, few))
    by false high = visible (0x37 + n) (omega arith, omega (arith, small))

escaped-visible : (b : ℕ) → EachIs is_visible (escaped b)
escaped-visible b = (refl, (digit-visible (b / 16 % 16) (omega arith), (digit-visible (b % 16) (omega arith), tt)))

each-escaped : (bytes : List ℕ) → EachIs is_visible (flat_map escaped bytes)
each-escaped [] = tt
each-escaped (b ∷ bytes) = EachIs-append is_visible (escaped b) (flat_map escaped bytes) (escaped-visible b) (each-escaped bytes)

in_link-visible : (c : ℕ) → is_of_address c ≡ true → EachIs is_visible (in_link c)
in_link-visible c is = by (nat_lt c 0x80) refl
  where
    by : (t : Bool) → nat_lt c 0x80 ≡ t → EachIs is_visible (if t then c ∷ [] else flat_map escaped (encode_utf8 c))
    by true low = (visible c (address-visible c is (ltb-true c 0x80 low)), tt)
    by false high = each-escaped (encode_utf8 c)

text-visible : (text : List ℕ) → EachIs is_of_address text → EachIs is_visible (flat_map in_link text)
text-visible [] each = tt
text-visible (c ∷ text) each = EachIs-append is_visible (in_link c) (flat_map in_link text) (in_link-visible c each.0) (text-visible text each.1)

scheme-visible : (s t u : Bool) → EachIs is_visible (if s then codes "https://" else if t then codes "http://" else if u then codes "mailto:" else [])
scheme-visible true t u = all-each is_visible (codes "https://") refl
scheme-visible false true u = all-each is_visible (codes "http://") refl
scheme-visible false false true = all-each is_visible (codes "mailto:") refl
scheme-visible false false false = tt

pub target-visible : (address : List ℕ) → EachIs is_of_address address → EachIs is_visible (target_of address)
unfolding target_of
target-visible address each =
    let n = length (scheme_of address) in
    let small = in_small address in
    let rest = (EachIs-parts is_of_address (take n address) (drop n address) (subst (EachIs is_of_address) (sym (take-append-drop n address)) each)).1 in
    EachIs-append is_visible (scheme_of address) (flat_map in_link (drop n address))
    (scheme-visible (starts_with nat_eq small (codes "https://")) (starts_with nat_eq small (codes "http://")) (starts_with nat_eq small (codes "mailto:")))
    (text-visible (drop n address) rest)

-- it has the scheme of the address
scheme-is : (s t u : Bool) → (s || (t || u)) ≡ true → IsScheme (if s then codes "https://" else if t then codes "http://" else if u then codes "mailto:" else [])
unfolding IsScheme
scheme-is true t u is = inl refl
scheme-is false true u is = inr (inl refl)
scheme-is false false true is = inr (inr refl)
scheme-is false false false is = cc is

pub target-scheme : (address : List ℕ) → says_scheme address ≡ true → has_scheme (target_of address) ≡ true
unfolding target_of has_scheme
target-scheme address says =
    let small = in_small address in
    has-by (target_of address) (scheme_of address) (flat_map in_link (drop (length (scheme_of address)) address))
    (scheme-is (starts_with nat_eq small (codes "https://")) (starts_with nat_eq small (codes "http://")) (starts_with nat_eq small (codes "mailto:")) says) refl

-- the parts of its command
abbrev pub parts : List ℕ → List (List ℕ)
parts target = slice_split (λ b. b == semicolon) target

pub spaced-concat : (some : List (List ℕ)) → spaced some ≡ length (concat some) + length some
spaced-concat [] = refl
spaced-concat (part ∷ some) = omega (arith, spaced-concat some, length-append part (concat some))

pub record HasRoom (target : List ℕ) : Type 0 where
  pub few : length (parts target) ≤ 13
  pub short : length (concat (parts target)) ≤ 1022

room-of : (target : List ℕ) → fits target ≡ true → HasRoom target
unfolding fits
room-of target is =
    let count = count_by (λ b. b == semicolon) target in
    let both = and_parts (nat_lt (length target) max_held) (nat_le count max_separators) is in
    let length_is = ltb-true (length target) max_held both.0 in
    let count_is = leb-true count max_separators both.1 in
    let each = length-slice_split (λ b. b == semicolon) target in
    let all = spaced-concat (parts target) in
    let split = spaced-slice_split semicolon target in
    record { few = omega (arith, count_is, each); short = omega (arith, length_is, each, all, split) }

kept : (b : ℕ) → is_visible b ≡ true → is_kept b ≡ true
unfolding is_kept
kept b is =
    let both = and_parts (nat_le 0x21 b) (nat_le b 0x7E) is in
    let low = leb-true 0x21 b both.0 in
    let high = leb-true b 0x7E both.1 in
    within 0x20 0xFF b (omega (arith, low)) (omega (arith, high))

pub room-parts : (target : List ℕ) → EachIs is_visible target → HasRoom target → AreParts (codes "8" ∷ [] ∷ parts target)
unfolding is_stored is_kept is_within
room-parts target each room =
    let few = room.few in
    let short = room.short in
    record {
      some_part = omega arith;
      parts_fit = omega (arith, few);
      bytes_are = ((refl, tt), (tt, slice_split-each is_kept semicolon target (EachIs-weaker is_visible is_kept kept target each)));
      bytes_fit = omega (arith, short);
      last_used = λ full. absurd (omega (arith, short, full));
    }

pub link-parts : (target : List ℕ) → EachIs is_visible target → fits target ≡ true → AreParts (codes "8" ∷ [] ∷ parts target)
link-parts target each is = room-parts target each (room-of target is)

pub fits-none : fits [] ≡ true
unfolding fits
fits-none = refl

-- so the command selects it
pub link-selected : (target : List ℕ) → has_scheme target ≡ true → EachIs is_visible target → fits target ≡ true → link_of (codes "8" ∷ [] ∷ parts target) ≡ target
unfolding link_of is_linkable
link-selected target has each is =
    let room = room-of target is in
    let few = room.few in
    let short = room.short in
    let command = codes "8" ∷ [] ∷ parts target in
    let whole = and_from (nat_lt (length command) max_osc_parts) (nat_lt (length (concat command)) max_osc_bytes)
    (lt-ltb (length command) max_osc_parts (omega (arith, few))) (lt-ltb (length (concat command)) max_osc_bytes (omega (arith, short))) in
    ap (λ (uri : List ℕ). if is_whole command && (has_scheme uri && list_all is_visible uri) then uri else []) (join_with_byte-slice_split semicolon target)
    ∙ ap (λ (t : Bool). if t then target else [])
    (and_from (is_whole command) (has_scheme target && list_all is_visible target) whole
    (and_from (has_scheme target) (list_all is_visible target) has (each-all is_visible target each)))

-- Of ASCII it is the address itself, where its scheme has small letters.
abbrev is_low : ℕ → Bool
is_low c = nat_lt c 0x80

plain-text : (text : List ℕ) → EachIs is_low text → flat_map in_link text ≡ text
plain-text [] each = refl
plain-text (c ∷ text) each =
    ap₂ (λ (l m : List ℕ). l ++ m) (ap (λ (t : Bool). if t then c ∷ [] else flat_map escaped (encode_utf8 c)) each.0) (plain-text text each.1)

plain-of : (scheme rest : List ℕ) → IsScheme scheme → EachIs is_low rest → target_of (scheme ++ rest) ≡ scheme ++ rest
unfolding target_of IsScheme
plain-of scheme rest (inl same) each =
    subst (λ (l : List ℕ). target_of (l ++ rest) ≡ l ++ rest) (sym same) (ap (λ (l : List ℕ). codes "https://" ++ l) (plain-text rest each))
plain-of scheme rest (inr (inl same)) each =
    subst (λ (l : List ℕ). target_of (l ++ rest) ≡ l ++ rest) (sym same) (ap (λ (l : List ℕ). codes "http://" ++ l) (plain-text rest each))
plain-of scheme rest (inr (inr same)) each =
    subst (λ (l : List ℕ). target_of (l ++ rest) ≡ l ++ rest) (sym same) (ap (λ (l : List ℕ). codes "mailto:" ++ l) (plain-text rest each))

pub target-plain : (address : List ℕ) → has_scheme address ≡ true → EachIs is_low address → target_of address ≡ address
target-plain address has each =
    let front = has-front address has in
    let low = (EachIs-parts is_low front.scheme front.rest (subst (EachIs is_low) front.whole each)).1 in
    ap target_of front.whole ∙ plain-of front.scheme front.rest front.is_scheme low ∙ sym front.whole
