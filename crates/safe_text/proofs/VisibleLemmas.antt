-- Characters that are written visibly: ASCII, from which their number is read.
use Rattle.std.proofs.Common.{◌≡◌, ℕ, ◌+◌, ◌*◌, ◌/◌, ◌%◌, ◌<◌, ◌≤◌, Bool, true, false, List, [], ◌∷◌, ◌++◌, length, eqb-true, refl, sym, ap, ap₂, ◌∙◌, ⊎_elim, arith, append_assoc, IsTrue}
use Rattle.std.specs.Prelude.{nat_lt, ◌==◌, if◌then◌else◌, codes}
use Rattle.std.specs.Char.{IsScalar}
use Rattle.std.specs.List.{AllByRecursion}
use Rattle.std.specs.Str.{IsAscii, encode_utf8_all}
use Rattle.std.proofs.Math.Utf8.{low_scalar}
use lib.Utf8.{scalar_cases}
use Rattle.std.proofs.lemmas.Bool.{ltb-true, lt-ltb, le-ltb, ne_eqb}
use Rattle.std.proofs.lemmas.Str.{encodes-IsAscii}
use Rattle.std.proofs.lemmas.Str.Ascii.{IsAscii-nil, IsAscii-cons}
use Rattle.anstyle_parse.proofs.Machine.Table.{same_below}
use Rattle.safe_text.specs.Classes.{is_among, is_shown, is_joiner, is_of_safe_text}
use Rattle.safe_text.specs.Safe.{hides, shows, hex_digit, low_digits, hex_digits, visible}
use Rattle.safe_text.specs.Reading.{hex_value, number_from, named, read_from}

-- a digit: ASCII, of the class, not `>`, and its value
digit-low : (k : ℕ) → k < 16 → hex_digit k < 0x80
unfolding hex_digit
digit-low k small = grind arith

digit-no_end : (k : ℕ) → k < 16 → (hex_digit k == 0x3E) ≡ false
unfolding hex_digit
digit-no_end k small = same_below (λ n. hex_digit n == 0x3E) (λ n. false) 16 k refl small

digit-no_mark : (k : ℕ) → k < 16 → ((hex_digit k == 0x68) ≡ false) × ((hex_digit k == 0x73) ≡ false)
unfolding hex_digit
digit-no_mark k small = (
  same_below (λ n. hex_digit n == 0x68) (λ n. false) 16 k refl small,
  same_below (λ n. hex_digit n == 0x73) (λ n. false) 16 k refl small,
)

digit-value : (k : ℕ) → k < 16 → hex_value (hex_digit k) ≡ k
unfolding hex_digit hex_value
digit-value k small = same_below (λ n. hex_value (hex_digit n)) (λ n. n) 16 k refl small

digit-class : (k : ℕ) → k < 16 → is_of_safe_text (hex_digit k) ≡ true
unfolding hex_digit is_shown is_joiner is_among
digit-class k small = same_below (λ n. is_of_safe_text (hex_digit n)) (λ n. true) 16 k refl small

-- What holds of each of them, and of the other characters of what is written visibly, holds of all.
module _ (P : ℕ → Type 0) (digit : (k : ℕ) → k < 16 → P (hex_digit k)) (less : P 0x3C) (u : P 0x55) (plus : P 0x2B) (more : P 0x3E)
    (begin : AllByRecursion P (codes "hidden" ++ 0x3E ∷ [])) (end : AllByRecursion P (codes "shown" ++ 0x3E ∷ [])) where
  low-all : (n : ℕ) → AllByRecursion P (low_digits n ++ 0x3E ∷ [])
  low-all n = (digit (n / 0x1000 % 16) (omega arith), (digit (n / 0x100 % 16) (omega arith), (digit (n / 0x10 % 16) (omega arith), (digit (n % 16) (omega arith), (more, tt)))))

  digits-all : (n : ℕ) (s t : Bool)
      → AllByRecursion P ((if s then low_digits n else if t then hex_digit (n / 0x10000 % 16) ∷ low_digits n
      else hex_digit (n / 0x100000 % 16) ∷ hex_digit (n / 0x10000 % 16) ∷ low_digits n) ++ 0x3E ∷ [])
  digits-all n true t = low-all n
  digits-all n false true = (digit (n / 0x10000 % 16) (omega arith), low-all n)
  digits-all n false false = (digit (n / 0x100000 % 16) (omega arith), (digit (n / 0x10000 % 16) (omega arith), low-all n))

  name-all : (c : ℕ) (s t : Bool) → AllByRecursion P ((if s then codes "hidden" else if t then codes "shown" else hex_digits c) ++ 0x3E ∷ [])
  name-all c true t = begin
  name-all c false true = end
  name-all c false false = digits-all c (nat_lt c 0x10000) (nat_lt c 0x100000)

  pub visible-all : (c : ℕ) → AllByRecursion P (visible c)
  unfolding visible
  visible-all c = (less, (u, (plus, name-all c (c == hides) (c == shows))))

ascii-all : (text : List ℕ) → AllByRecursion (λ b. b < 0x80) text → IsAscii text
ascii-all [] are = IsAscii-nil
ascii-all (b ∷ text) are = IsAscii-cons b text are.0 (ascii-all text are.1)

pub visible-ascii : (c : ℕ) → IsAscii (visible c)
visible-ascii c =
    let low : ℕ → Type 0 = λ b. b < 0x80 in
    ascii-all (visible c)
    (visible-all low digit-low (omega arith) (omega arith) (omega arith) (omega arith)
    (omega arith, (omega arith, (omega arith, (omega arith, (omega arith, (omega arith, (omega arith, tt)))))))
    (omega arith, (omega arith, (omega arith, (omega arith, (omega arith, (omega arith, tt)))))) c)

pub encode-visible : (c : ℕ) → encode_utf8_all (visible c) ≡ visible c
encode-visible c = encodes-IsAscii (visible c) (visible-ascii c)

pub visible-class : (c : ℕ) → AllByRecursion (λ b. IsTrue (is_of_safe_text b)) (visible c)
unfolding is_shown is_joiner is_among
visible-class c = visible-all (λ b. IsTrue (is_of_safe_text b)) digit-class refl refl refl refl
    (refl, (refl, (refl, (refl, (refl, (refl, (refl, tt))))))) (refl, (refl, (refl, (refl, (refl, (refl, tt)))))) c

pub visible-scalar : (c : ℕ) → AllByRecursion IsScalar (visible c)
visible-scalar c =
    visible-all IsScalar (λ k small. let low = digit-low k small in low_scalar (hex_digit k) (omega (arith, low))) refl refl refl refl
    (refl, (refl, (refl, (refl, (refl, (refl, (refl, tt))))))) (refl, (refl, (refl, (refl, (refl, (refl, tt)))))) c

length-digits : (n : ℕ) (s t : Bool)
    → length ((if s then low_digits n else if t then hex_digit (n / 0x10000 % 16) ∷ low_digits n
    else hex_digit (n / 0x100000 % 16) ∷ hex_digit (n / 0x10000 % 16) ∷ low_digits n) ++ 0x3E ∷ []) ≤ 7
length-digits n true t = omega arith
length-digits n false true = omega arith
length-digits n false false = omega arith

length-name : (c : ℕ) (s t : Bool) → length ((if s then codes "hidden" else if t then codes "shown" else hex_digits c) ++ 0x3E ∷ []) ≤ 7
length-name c true t = omega arith
length-name c false true = omega arith
length-name c false false = length-digits c (nat_lt c 0x10000) (nat_lt c 0x100000)

pub length-visible : (c : ℕ) → length (visible c) ≤ 10
unfolding visible
length-visible c = omega (arith, length-name c (c == hides) (c == shows))

-- reading a digit
module _ (rest : List ℕ) (k : ℕ) (small : k < 16) where
  number-digit : (n : ℕ) → number_from n (hex_digit k ∷ rest) ≡ number_from (n * 16 + k) rest
  number-digit n = rw (digit-no_end k small, digit-value k small) refl

  skip-digit : read_from true (hex_digit k ∷ rest) ≡ read_from true rest
  skip-digit = rw (digit-no_end k small) refl

-- and the last four
module _ (rest : List ℕ) where
  number-low : (m n : ℕ) → number_from m (low_digits n ++ 0x3E ∷ rest) ≡ (((m * 16 + n / 0x1000 % 16) * 16 + n / 0x100 % 16) * 16 + n / 0x10 % 16) * 16 + n % 16
  number-low m n =
      number-digit (hex_digit (n / 0x100 % 16) ∷ hex_digit (n / 0x10 % 16) ∷ hex_digit (n % 16) ∷ 0x3E ∷ rest) (n / 0x1000 % 16) (omega arith) m
      ∙ (number-digit (hex_digit (n / 0x10 % 16) ∷ hex_digit (n % 16) ∷ 0x3E ∷ rest) (n / 0x100 % 16) (omega arith) (m * 16 + n / 0x1000 % 16)
      ∙ (number-digit (hex_digit (n % 16) ∷ 0x3E ∷ rest) (n / 0x10 % 16) (omega arith) ((m * 16 + n / 0x1000 % 16) * 16 + n / 0x100 % 16)
      ∙ number-digit (0x3E ∷ rest) (n % 16) (omega arith) (((m * 16 + n / 0x1000 % 16) * 16 + n / 0x100 % 16) * 16 + n / 0x10 % 16)))

  skip-low : (n : ℕ) → read_from true (low_digits n ++ 0x3E ∷ rest) ≡ read_from false rest
  skip-low n =
      skip-digit (hex_digit (n / 0x100 % 16) ∷ hex_digit (n / 0x10 % 16) ∷ hex_digit (n % 16) ∷ 0x3E ∷ rest) (n / 0x1000 % 16) (omega arith)
      ∙ (skip-digit (hex_digit (n / 0x10 % 16) ∷ hex_digit (n % 16) ∷ 0x3E ∷ rest) (n / 0x100 % 16) (omega arith)
      ∙ (skip-digit (hex_digit (n % 16) ∷ 0x3E ∷ rest) (n / 0x10 % 16) (omega arith)
      ∙ skip-digit (0x3E ∷ rest) (n % 16) (omega arith)))

-- all digits of a number below 1000000
abbrev digits_as : (n : ℕ) (s t : Bool) → List ℕ
digits_as n s t =
    if s then low_digits n else if t then hex_digit (n / 0x10000 % 16) ∷ low_digits n
    else hex_digit (n / 0x100000 % 16) ∷ hex_digit (n / 0x10000 % 16) ∷ low_digits n

number-digits : (n : ℕ) (rest : List ℕ) (s t : Bool) → nat_lt n 0x10000 ≡ s → nat_lt n 0x100000 ≡ t → n < 0x1000000
    → number_from 0 (digits_as n s t ++ 0x3E ∷ rest) ≡ n
number-digits n rest true t few some small =
    let below : n < 0x10000 = ltb-true n 0x10000 few in
    number-low rest 0 n ∙ omega arith
number-digits n rest false true few some small =
    let below : n < 0x100000 = ltb-true n 0x100000 some in
    number-digit (low_digits n ++ 0x3E ∷ rest) (n / 0x10000 % 16) (omega arith) 0
    ∙ (number-low rest (0 * 16 + n / 0x10000 % 16) n ∙ omega arith)
number-digits n rest false false few some small =
    number-digit (hex_digit (n / 0x10000 % 16) ∷ (low_digits n ++ 0x3E ∷ rest)) (n / 0x100000 % 16) (omega arith) 0
    ∙ (number-digit (low_digits n ++ 0x3E ∷ rest) (n / 0x10000 % 16) (omega arith) (0 * 16 + n / 0x100000 % 16)
    ∙ (number-low rest ((0 * 16 + n / 0x100000 % 16) * 16 + n / 0x10000 % 16) n ∙ omega arith))

skip-digits : (n : ℕ) (rest : List ℕ) (s t : Bool) → read_from true (digits_as n s t ++ 0x3E ∷ rest) ≡ read_from false rest
skip-digits n rest true t = skip-low rest n
skip-digits n rest false true = skip-digit (low_digits n ++ 0x3E ∷ rest) (n / 0x10000 % 16) (omega arith) ∙ skip-low rest n
skip-digits n rest false false =
    skip-digit (hex_digit (n / 0x10000 % 16) ∷ (low_digits n ++ 0x3E ∷ rest)) (n / 0x100000 % 16) (omega arith)
    ∙ (skip-digit (low_digits n ++ 0x3E ∷ rest) (n / 0x10000 % 16) (omega arith) ∙ skip-low rest n)

-- no digits name a mark
named-digits : (n : ℕ) (rest : List ℕ) (s t : Bool)
    → named (digits_as n s t ++ 0x3E ∷ rest) ≡ number_from 0 (digits_as n s t ++ 0x3E ∷ rest)
named-digits n rest true t = let no = digit-no_mark (n / 0x1000 % 16) (omega arith) in rw (no.0, no.1) refl
named-digits n rest false true = let no = digit-no_mark (n / 0x10000 % 16) (omega arith) in rw (no.0, no.1) refl
named-digits n rest false false = let no = digit-no_mark (n / 0x100000 % 16) (omega arith) in rw (no.0, no.1) refl

-- What is written visibly is read as itself, whatever comes after it.
pub read-visible : (c : ℕ) (rest : List ℕ) → c < 0x1000000 → read_from false (visible c ++ rest) ≡ c ∷ read_from false rest
unfolding visible
read-visible c rest small = by (c == hides) (c == shows) refl refl
  where
    by : (s t : Bool) → (c == hides) ≡ s → (c == shows) ≡ t
        → read_from false (0x3C ∷ 0x55 ∷ 0x2B ∷ (((if s then codes "hidden" else if t then codes "shown" else hex_digits c) ++ 0x3E ∷ []) ++ rest)) ≡ c ∷ read_from false rest
    by true t is other = ap (λ n. n ∷ read_from false rest) (sym (eqb-true c hides is))
    by false true other is = ap (λ n. n ∷ read_from false rest) (sym (eqb-true c shows is))
    by false false one other =
        let joined : (hex_digits c ++ 0x3E ∷ []) ++ rest ≡ hex_digits c ++ 0x3E ∷ rest = append_assoc (hex_digits c) (0x3E ∷ []) rest in
        ap (λ l. named l ∷ read_from true (0x55 ∷ 0x2B ∷ l)) joined
        ∙ ap₂ (λ n l. n ∷ l)
        (named-digits c rest (nat_lt c 0x10000) (nat_lt c 0x100000) ∙ number-digits c rest (nat_lt c 0x10000) (nat_lt c 0x100000) refl refl small)
        (skip-digits c rest (nat_lt c 0x10000) (nat_lt c 0x100000))

-- a character is no mark
pub scalar-character : (c : ℕ) → IsScalar c → c < 0x110000
scalar-character c is = ⊎_elim (λ h. omega (arith, h)) (λ h. omega (arith, h.1)) (scalar_cases c is)

pub no-mark : (c : ℕ) → c < 0x110000 → ((c == hides) ≡ false) × ((c == shows) ≡ false)
no-mark c small = (ne_eqb c hides (λ e. omega (arith, e)), ne_eqb c shows (λ e. omega (arith, e)))

-- what is written for one, by how many digits it has
module _ (c n h t s l : ℕ) (same : n ≡ c) (fourth : h ≡ hex_digit (n / 0x1000 % 16)) (third : t ≡ hex_digit (n / 0x100 % 16))
    (second : s ≡ hex_digit (n / 0x10 % 16)) (first : l ≡ hex_digit (n % 16)) (character : c < 0x110000) where
  four-low : h ∷ t ∷ s ∷ l ∷ 0x3E ∷ [] ≡ low_digits c ++ 0x3E ∷ []
  four-low = rw (fourth, third, second, first, same) refl

  pub visible-four : n < 0x10000 → 0x3C ∷ 0x55 ∷ 0x2B ∷ h ∷ t ∷ s ∷ l ∷ 0x3E ∷ [] ≡ visible c
  unfolding visible
  visible-four small =
      let few : nat_lt c 0x10000 ≡ true = lt-ltb c 0x10000 (omega (arith, same)) in
      let none = no-mark c character in
      rw (none.0, none.1, few) (ap (λ ds. 0x3C ∷ 0x55 ∷ 0x2B ∷ ds) four-low)

  pub visible-five : (d : ℕ) → d ≡ hex_digit (n / 0x10000 % 16) → 0x10000 ≤ n → n < 0x100000 → 0x3C ∷ 0x55 ∷ 0x2B ∷ d ∷ h ∷ t ∷ s ∷ l ∷ 0x3E ∷ [] ≡ visible c
  unfolding visible
  visible-five d fifth large small =
      let many : nat_lt c 0x10000 ≡ false = le-ltb c 0x10000 (omega (arith, same)) in
      let few : nat_lt c 0x100000 ≡ true = lt-ltb c 0x100000 (omega (arith, same)) in
      let none = no-mark c character in
      rw (none.0, none.1, many, few) (ap₂ (λ k ds. 0x3C ∷ 0x55 ∷ 0x2B ∷ k ∷ ds) (fifth ∙ ap (λ k. hex_digit (k / 0x10000 % 16)) same) four-low)

  pub visible-six : (e d : ℕ) → e ≡ hex_digit (n / 0x100000 % 16) → d ≡ hex_digit (n / 0x10000 % 16) → 0x10000 ≤ n → 0x100000 ≤ n
      → 0x3C ∷ 0x55 ∷ 0x2B ∷ e ∷ d ∷ h ∷ t ∷ s ∷ l ∷ 0x3E ∷ [] ≡ visible c
  unfolding visible
  visible-six e d sixth fifth large larger =
      let many : nat_lt c 0x10000 ≡ false = le-ltb c 0x10000 (omega (arith, same)) in
      let more : nat_lt c 0x100000 ≡ false = le-ltb c 0x100000 (omega (arith, same)) in
      let none = no-mark c character in
      rw (none.0, none.1, many, more)
      (ap₂ (λ k ds. 0x3C ∷ 0x55 ∷ 0x2B ∷ k ∷ ds) (sixth ∙ ap (λ k. hex_digit (k / 0x100000 % 16)) same)
      (ap₂ (λ k ds. k ∷ ds) (fifth ∙ ap (λ k. hex_digit (k / 0x10000 % 16)) same) four-low))
