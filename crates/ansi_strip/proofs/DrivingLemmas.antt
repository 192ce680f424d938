-- Characters that drive a terminal, and where bytes have one.
use Rattle.std.proofs.Common.{◌≡◌, ◌≢◌, ℕ, ◌+◌, ◌/◌, ◌%◌, ◌<◌, ◌≤◌, ◌⊎◌, inl, inr, ⊎_elim, Bool, true, false, ◌||◌, ◌&&◌, cond, eqb, leb, List, [], ◌∷◌, ◌++◌, length, get_or, take, drop, filter, map, refl, sym, ap, ap₂, ◌∙◌, subst, append_assoc, length-append, IsTrue, arith}
use Rattle.std.specs.Prelude.{encode_utf8, not}
use Rattle.std.specs.Char.{len_utf8}
use Rattle.std.proofs.Math.Nat.{add-zero}
use Rattle.std.specs.List.{AllByRecursion}
use Rattle.std.specs.Str.{IsUtf8, IsCharBoundary, chars, encode_utf8_all}
use Rattle.std.proofs.lemmas.Bool.{cases_lt, false≢true, lt-leb, le-leb, eqb-true, eq-eqb, ne_eqb, cond-true, cond-false, and_parts, and_from, leb-true, not_from_false}
use Rattle.std.proofs.lemmas.List.{take_at, drop_at, map-append, nil_from_length, length-drop, get_or-drop}
use Rattle.std.proofs.lemmas.List.Elements.{filter-append}
use Rattle.std.proofs.lemmas.Str.{chars-nil, chars-append, chars_past_char, encodes-chars, length-encode, IsUtf8-take, IsUtf8-drop, IsCharBoundary-end, IsCharBoundary-past_char, drop_past_char}
use Rattle.anstyle_parse.specs.Stream.Call.{print, execute}
use Rattle.anstyle_parse.specs.Stream.Items.{EachIs}
use Rattle.anstyle_parse.specs.Stream.Texts.{is_layout, layout_call, layout_calls}
use Rattle.anstyle_parse.proofs.Characters.Encoding.{encode_one, encode_two}
use Rattle.anstyle_parse.proofs.Characters.Layout.{layout-low}
use Rattle.ansi_strip.specs.Inert.{is_driving, is_inert}
use Rattle.ansi_strip.specs.EightBit.{is_eight_bit}
use Rattle.ansi_strip.specs.Driving.{may_begin_driving, is_clear, driving_width, NoneBegins}

-- which they are
pub driving-within : (c : ℕ) → is_driving c ≡ true → (0x7F ≤ c) × (c ≤ 0x9F)
unfolding is_driving
driving-within c is =
    let parts = and_parts (leb 0x7F c) (leb c 0x9F) is in
    (leb-true 0x7F c parts.0, leb-true c 0x9F parts.1)

pub no_driving-low : (c : ℕ) → c < 0x7F → is_driving c ≡ false
unfolding is_driving
no_driving-low c low = ap (λ t. t && leb c 0x9F) (lt-leb 0x7F c low)

pub no_driving-high : (c : ℕ) → 0x9F < c → is_driving c ≡ false
unfolding is_driving
no_driving-high c high = ap (λ t. leb 0x7F c && t) (lt-leb c 0x9F high) ∙ by (leb 0x7F c)
  where
    by : (t : Bool) → (t && false) ≡ false
    by true = refl
    by false = refl

pub driving-from : (c : ℕ) → 0x7F ≤ c → c ≤ 0x9F → is_driving c ≡ true
unfolding is_driving
driving-from c low high = and_from (leb 0x7F c) (leb c 0x9F) (le-leb 0x7F c low) (le-leb c 0x9F high)

-- the bytes of one of two
pub eight_bit-parts : (first second : ℕ) → is_eight_bit first second ≡ true → (first ≡ 0xC2) × (0x80 ≤ second) × (second ≤ 0x9F)
unfolding is_eight_bit
eight_bit-parts first second is =
    let parts = and_parts (eqb first 0xC2) (leb 0x80 second && leb second 0x9F) is in
    let range = and_parts (leb 0x80 second) (leb second 0x9F) parts.1 in
    (eqb-true first 0xC2 parts.0, leb-true 0x80 second range.0, leb-true second 0x9F range.1)

pub eight_bit-other : (first second : ℕ) → first ≢ 0xC2 → is_eight_bit first second ≡ false
unfolding is_eight_bit
eight_bit-other first second other = ap (λ t. t && (leb 0x80 second && leb second 0x9F)) (ne_eqb first 0xC2 other)

pub eight_bit-high : (first second : ℕ) → 0x9F < second → is_eight_bit first second ≡ false
unfolding is_eight_bit
eight_bit-high first second high = ap (λ t. eqb first 0xC2 && (leb 0x80 second && t)) (lt-leb second 0x9F high) ∙ by (eqb first 0xC2) (leb 0x80 second)
  where
    by : (s t : Bool) → (s && (t && false)) ≡ false
    by true true = refl
    by true false = refl
    by false t = refl

pub eight_bit-from : (second : ℕ) → 0x80 ≤ second → second ≤ 0x9F → is_eight_bit 0xC2 second ≡ true
unfolding is_eight_bit
eight_bit-from second low high = and_from (leb 0x80 second) (leb second 0x9F) (le-leb 0x80 second low) (le-leb second 0x9F high)

pub encode-driving : (c : ℕ) → 0x80 ≤ c → c ≤ 0x9F → encode_utf8 c ≡ 0xC2 ∷ c ∷ []
encode-driving c low high =
    let lead : 192 + c / 64 ≡ 0xC2 = omega arith in
    let second : 128 + c % 64 ≡ c = omega arith in
    encode_two c low (omega arith) ∙ ap₂ (λ x y. x ∷ y ∷ []) lead second

-- none begins with a byte with which none may
other-bytes : (b : ℕ) → may_begin_driving b ≡ false → (b ≢ 0x7F) × (b ≢ 0xC2)
unfolding may_begin_driving
other-bytes b none = (
  λ e. false≢true (sym none ∙ ap (λ t. t || eqb b 0xC2) (eq-eqb b 0x7F e)),
  λ e. false≢true (sym none ∙ ap (λ t. eqb b 0x7F || t) (eq-eqb b 0xC2 e) ∙ by (eqb b 0x7F)),
)
  where
    by : (t : Bool) → (t || true) ≡ true
    by true = refl
    by false = refl

width-none : (b : ℕ) → may_begin_driving b ≡ false → (bytes : List ℕ) → driving_width (b ∷ bytes) ≡ 0
width-none b none [] = cond-false (eqb b 0x7F) 1 0 (ne_eqb b 0x7F (other-bytes b none).0)
width-none b none (second ∷ bytes) =
    cond-false (eqb b 0x7F) 1 _ (ne_eqb b 0x7F (other-bytes b none).0)
    ∙ cond-false (is_eight_bit b second) 2 0 (eight_bit-other b second (other-bytes b none).1)

from_not : (t : Bool) → IsTrue (not t) → t ≡ false
from_not true is = absurd (false≢true is)
from_not false is = refl

pub NoneBegins-each : (passed left : List ℕ) → EachIs is_clear passed → NoneBegins passed left
NoneBegins-each [] left each = tt
NoneBegins-each (b ∷ passed) left each = (width-none b (from_not (may_begin_driving b) each.0) (passed ++ left), NoneBegins-each passed left each.1)

pub NoneBegins-append : (passed more left : List ℕ) → NoneBegins passed (more ++ left) → NoneBegins more left → NoneBegins (passed ++ more) left
NoneBegins-append [] more left none then = then
NoneBegins-append (b ∷ passed) more left none then =
    (ap (λ l. driving_width (b ∷ l)) (append_assoc passed more left) ∙ none.0, NoneBegins-append passed more left none.1 then)

NoneBegins-behind : (front back left : List ℕ) → NoneBegins (front ++ back) left → NoneBegins back left
NoneBegins-behind [] back left none = none
NoneBegins-behind (b ∷ front) back left none = NoneBegins-behind front back left none.1

-- where none begins, no character is one
one_byte : (c : ℕ) → c < 0x80 → (bytes : List ℕ) → driving_width (c ∷ bytes) ≡ 0 → is_driving c ≡ false
one_byte c low bytes none =
    ⊎_elim
    (λ (below : c < 0x7F). no_driving-low c below)
    (λ (k : 0x7F ≤ c).
    let is : c ≡ 0x7F = omega (arith, k, low) in
    absurd (by bytes (eq-eqb c 0x7F is) none))
    (cases_lt c 0x7F)
  where
    by : (bytes : List ℕ) → eqb c 0x7F ≡ true → driving_width (c ∷ bytes) ≢ 0
    by [] is none = let one = cond-true {A = ℕ} (eqb c 0x7F) 1 0 is in omega (arith, one, none)
    by (second ∷ bytes) is none = let one = cond-true {A = ℕ} (eqb c 0x7F) 1 (cond (is_eight_bit c second) 2 0) is in omega (arith, one, none)

two_bytes : (c : ℕ) (bytes : List ℕ) → 0x80 ≤ c → c ≤ 0x9F → driving_width (0xC2 ∷ c ∷ bytes) ≡ 2
two_bytes c bytes low high = cond-true (is_eight_bit 0xC2 c) 2 0 (eight_bit-from c low high)

none-character : (c : ℕ) (more left : List ℕ) → NoneBegins (encode_utf8 c ++ more) left → is_driving c ≡ false
none-character c more left none =
    ⊎_elim
    (λ (low : c < 0x80). one_byte c low (more ++ left) (subst (λ l. NoneBegins (l ++ more) left) (encode_one c low) none).0)
    (λ (k : 0x80 ≤ c). ⊎_elim
    (λ (high : 0x9F < c). no_driving-high c high)
    (λ (j : c ≤ 0x9F).
    let two = two_bytes c (more ++ left) k j in
    absurd (omega (arith, two, (subst (λ l. NoneBegins (l ++ more) left) (encode-driving c k j) none).0)))
    (cases_lt 0x9F c))
    (cases_lt c 0x80)

pub no_driving-characters : (cs left : List ℕ) → NoneBegins (encode_utf8_all cs) left → EachIs (λ c. not (is_driving c)) cs
no_driving-characters [] left none = tt
no_driving-characters (c ∷ cs) left none = (
  not_from_false (is_driving c) (none-character c (encode_utf8_all cs) left none),
  no_driving-characters cs left (NoneBegins-behind (encode_utf8 c) (encode_utf8_all cs) left none),
)

pub no_driving-text : (text left : List ℕ) → IsUtf8 text → NoneBegins text left → EachIs (λ c. not (is_driving c)) (chars text)
no_driving-text text left utf8 none =
    no_driving-characters (chars text) left (subst (λ l. NoneBegins l left) (sym (encodes-chars text utf8)) none)

-- what begins with one: the character, and what comes after it
record BeginsWith (bytes : List ℕ) : Type 0 where
  pub character : ℕ
  pub more : List ℕ
  pub joined : bytes ≡ encode_utf8 character ++ more
  pub drives : is_driving character ≡ true
  pub wide : driving_width bytes ≡ len_utf8 character

begins_one : (bytes : List ℕ) → BeginsWith (0x7F ∷ bytes)
begins_one bytes = record {
  character = 0x7F;
  more = bytes;
  joined = ap (λ l. l ++ bytes) (sym (encode_one 0x7F (omega arith)));
  drives = driving-from 0x7F (omega arith) (omega arith);
  wide = by bytes;
}
  where
    by : (bytes : List ℕ) → driving_width (0x7F ∷ bytes) ≡ 1
    by [] = refl
    by (second ∷ bytes) = refl

begins_two : (second : ℕ) (bytes : List ℕ) → 0x80 ≤ second → second ≤ 0x9F → BeginsWith (0xC2 ∷ second ∷ bytes)
begins_two second bytes low high = record {
  character = second;
  more = bytes;
  joined = ap (λ l. l ++ bytes) (sym (encode-driving second low high));
  drives = driving-from second (omega arith) high;
  wide = two_bytes second bytes low high ∙ ap length (sym (encode-driving second low high)) ∙ length-encode second;
}

begins : (bytes : List ℕ) → driving_width bytes ≢ 0 → BeginsWith bytes
begins [] some = absurd (some refl)
begins (first ∷ []) some = by (eqb first 0x7F) refl some
  where
    by : (t : Bool) → eqb first 0x7F ≡ t → ◌≢◌ {A = ℕ} (cond t 1 0) 0 → BeginsWith (first ∷ [])
    by true is some = subst (λ b. BeginsWith (b ∷ [])) (sym (eqb-true first 0x7F is)) (begins_one [])
    by false is some = absurd (some refl)
begins (first ∷ second ∷ bytes) some = by (eqb first 0x7F) refl (is_eight_bit first second) refl some
  where
    by : (s : Bool) → eqb first 0x7F ≡ s → (t : Bool) → is_eight_bit first second ≡ t → ◌≢◌ {A = ℕ} (cond s 1 (cond t 2 0)) 0 → BeginsWith (first ∷ second ∷ bytes)
    by true is t two some = subst (λ b. BeginsWith (b ∷ second ∷ bytes)) (sym (eqb-true first 0x7F is)) (begins_one (second ∷ bytes))
    by false is true two some =
        let parts = eight_bit-parts first second two in
        subst (λ b. BeginsWith (b ∷ second ∷ bytes)) (sym parts.0) (begins_two second bytes parts.1 parts.2)
    by false is false two some = absurd (some refl)

-- what begins with one if it is not empty
pub at-cases : (left : List ℕ) → (0 < length left → driving_width left ≢ 0) → (left ≡ []) ⊎ (driving_width left ≢ 0)
at-cases [] at = inl refl
at-cases (b ∷ left) at = inr (at (omega arith))

-- a filter that all pass
pub filter-all : {X : Type 0} (test : X → Bool) (xs : List X) → AllByRecursion (λ x. IsTrue (test x)) xs → filter test xs ≡ xs
filter-all test [] all = refl
filter-all test (x ∷ xs) all = cond-true (test x) (x ∷ filter test xs) (filter test xs) all.0 ∙ ap (λ l. x ∷ l) (filter-all test xs all.1)

-- the inert calls of a text are those of its other characters
inert-character : (c : ℕ) → is_inert (layout_call c) ≡ not (is_driving c)
inert-character c = by (is_layout c) refl
  where
    by : (t : Bool) → is_layout c ≡ t → is_inert (cond t (execute c) (print c)) ≡ not (is_driving c)
    by true is = sym (ap not (no_driving-low c (omega (arith, layout-low c is))))
    by false is = refl

inert-characters : (cs : List ℕ) → filter is_inert (map layout_call cs) ≡ map layout_call (filter (λ c. not (is_driving c)) cs)
inert-characters [] = refl
inert-characters (c ∷ cs) =
    ap (λ t. cond t (layout_call c ∷ filter is_inert (map layout_call cs)) (filter is_inert (map layout_call cs))) (inert-character c)
    ∙ ap (λ l. cond (not (is_driving c)) (layout_call c ∷ l) l) (inert-characters cs)
    ∙ by (not (is_driving c))
  where
    by : (t : Bool) → cond t (layout_call c ∷ map layout_call (filter (λ c. not (is_driving c)) cs)) (map layout_call (filter (λ c. not (is_driving c)) cs))
        ≡ map layout_call (cond t (c ∷ filter (λ c. not (is_driving c)) cs) (filter (λ c. not (is_driving c)) cs))
    by true = refl
    by false = refl

pub inert-layout_calls : (text : List ℕ) → filter is_inert (layout_calls text) ≡ map layout_call (filter (λ c. not (is_driving c)) (chars text))
inert-layout_calls text = inert-characters (chars text)

pub layout_calls-nil : (text : List ℕ) → text ≡ [] → layout_calls text ≡ []
layout_calls-nil text none = ap layout_calls none ∙ ap (map layout_call) chars-nil

-- all of a text that has none
pub inert-whole : (text : List ℕ) → IsUtf8 text → EachIs is_clear text → filter is_inert (layout_calls text) ≡ layout_calls text
inert-whole text utf8 each =
    inert-layout_calls text
    ∙ ap (map layout_call) (filter-all (λ c. not (is_driving c)) (chars text) (no_driving-text text [] utf8 (NoneBegins-each text [] each)))

-- and of one by its parts
pub inert-parts : (text front behind : List ℕ) → filter (λ c. not (is_driving c)) (chars text) ≡ chars front ++ filter (λ c. not (is_driving c)) (chars behind)
    → filter is_inert (layout_calls text) ≡ layout_calls front ++ filter is_inert (layout_calls behind)
inert-parts text front behind are =
    inert-layout_calls text
    ∙ ap (map layout_call) are
    ∙ map-append layout_call (chars front) (filter (λ c. not (is_driving c)) (chars behind))
    ∙ ap (λ l. layout_calls front ++ l) (sym (inert-layout_calls behind))

-- a text parted where one begins, or at its end
module _ (text passed left : List ℕ) (utf8 : IsUtf8 text) (joined : text ≡ passed ++ left) where
  pub front-parted : take (length passed) text ≡ passed
  front-parted = ap (take (length passed)) joined ∙ take_at passed left (length passed) refl

  back-parted : drop (length passed) text ≡ left
  back-parted = ap (drop (length passed)) joined ∙ drop_at passed left (length passed) refl

  within-parted : length passed ≤ length text
  within-parted = omega (arith, ap length joined, length-append passed left)

  -- where one begins
  module _ (begun : BeginsWith left) where
    first_byte : 128 ≤ get_or left 0 0 → 192 ≤ get_or left 0 0
    first_byte =
        let range = driving-within begun.character begun.drives in
        ⊎_elim
        (λ (low : begun.character < 0x80).
        let is : get_or left 0 0 ≡ begun.character = ap (λ l. get_or l 0 0) (begun.joined ∙ ap (λ l. l ++ begun.more) (encode_one begun.character low)) in
        λ high. absurd (omega (arith, is, low, high)))
        (λ (k : 0x80 ≤ begun.character).
        let is : get_or left 0 0 ≡ 0xC2 = ap (λ l. get_or l 0 0) (begun.joined ∙ ap (λ l. l ++ begun.more) (encode-driving begun.character k range.1)) in
        λ high. omega (arith, is))
        (cases_lt begun.character 0x80)

    boundary-begun : IsCharBoundary text (length passed)
    boundary-begun = (
      within-parted,
      λ below high.
          let same : get_or text (length passed) 0 ≡ get_or left 0 0 = sym (ap (λ l. get_or l 0 0) (sym back-parted) ∙ get_or-drop (length passed) text 0 0 ∙ ap (λ n. get_or text n 0) (add-zero (length passed))) in
          subst (λ n. 192 ≤ n) (sym same) (first_byte (subst (λ n. 128 ≤ n) same high)),
    )

    utf8-left : IsUtf8 (drop (length passed) text)
    utf8-left = IsUtf8-drop text (length passed) utf8 boundary-begun

    behind-begun : drop (length passed + driving_width left) text ≡ begun.more
    behind-begun =
        ap (λ n. drop (length passed + n) text) begun.wide
        ∙ drop_past_char text begun.more (length passed) begun.character (back-parted ∙ begun.joined)

    boundary_behind-begun : IsCharBoundary text (length passed + driving_width left)
    boundary_behind-begun =
        subst (λ n. IsCharBoundary text (length passed + n)) (sym begun.wide)
        (IsCharBoundary-past_char text begun.more (length passed) begun.character within-parted utf8-left (back-parted ∙ begun.joined))

    characters-begun : filter (λ c. not (is_driving c)) (chars left) ≡ filter (λ c. not (is_driving c)) (chars (drop (length passed + driving_width left) text))
    characters-begun =
        ap (filter (λ c. not (is_driving c))) (chars_past_char left begun.more begun.character (subst IsUtf8 back-parted utf8-left) begun.joined)
        ∙ cond-false (not (is_driving begun.character)) _ _ (ap not begun.drives)
        ∙ ap (λ l. filter (λ c. not (is_driving c)) (chars l)) (sym behind-begun)

  -- at its end
  module _ (ended : left ≡ []) where
    end-parted : length passed + driving_width left ≡ length text
    end-parted = omega (arith, ap length joined, length-append passed left, ap length ended, ap driving_width ended)

    boundary-ended : IsCharBoundary text (length passed)
    boundary-ended =
        let same : length text ≡ length passed = omega (arith, ap length joined, length-append passed left, ap length ended) in
        subst (IsCharBoundary text) same (IsCharBoundary-end text)

    characters-ended : filter (λ c. not (is_driving c)) (chars left) ≡ filter (λ c. not (is_driving c)) (chars (drop (length passed + driving_width left) text))
    characters-ended =
        let none : drop (length passed + driving_width left) text ≡ [] = ap (λ n. drop n text) end-parted ∙ nil_from_length (drop (length text) text) (omega (arith, length-drop (length text) text)) in
        ap (λ l. filter (λ c. not (is_driving c)) (chars l)) (ended ∙ sym none)

  module _ (at : (left ≡ []) ⊎ (driving_width left ≢ 0)) where
    pub boundary-parted : IsCharBoundary text (length passed)
    boundary-parted = ⊎_elim (λ ended. boundary-ended ended) (λ some. boundary-begun (begins left some)) at

    pub boundary_behind-parted : IsCharBoundary text (length passed + driving_width left)
    boundary_behind-parted =
        ⊎_elim (λ ended. subst (IsCharBoundary text) (sym (end-parted ended)) (IsCharBoundary-end text)) (λ some. boundary_behind-begun (begins left some)) at

    pub characters-parted : NoneBegins passed left
        → filter (λ c. not (is_driving c)) (chars text) ≡ chars passed ++ filter (λ c. not (is_driving c)) (chars (drop (length passed + driving_width left) text))
    characters-parted none =
        let front = subst IsUtf8 front-parted (IsUtf8-take text (length passed) utf8 boundary-parted) in
        ap (filter (λ c. not (is_driving c))) (ap chars joined ∙ chars-append passed left front)
        ∙ filter-append (λ c. not (is_driving c)) (chars passed) (chars left)
        ∙ ap₂ (λ x y. x ++ y) (filter-all (λ c. not (is_driving c)) (chars passed) (no_driving-text passed left front none))
        (⊎_elim characters-ended (λ some. characters-begun (begins left some)) at)

    pub shorter-parted : 0 < length text → length (drop (length passed + driving_width left) text) < length text
    shorter-parted some =
        let long = length-drop (length passed + driving_width left) text in
        ⊎_elim (λ ended. omega (arith, long, some, end-parted ended)) (λ wide. omega (arith, long, some, wide)) at
