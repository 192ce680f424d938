-- Sequences of keys are read back: first the bytes of numbers, and then those of a key.
use Rattle.std.proofs.Common.{◌≡◌, ℕ, ◌+◌, ◌%◌, ◌^◌, ◌<◌, ◌≤◌, Bool, true, false, List, [], ◌∷◌, ◌++◌, refl, sym, ap, ◌∙◌, eqb, leb, length, arith, append_assoc, decimal, lit<}
use Rattle.std.specs.Prelude.{if◌then◌else◌}
use Rattle.std.proofs.lemmas.Fmt.{decimal_by_steps, decimal_is_IsNumeral, decimal_nonempty}
use Rattle.std.proofs.lemmas.Bool.{and_right, lt-leb, ne_eqb}
use Rattle.std.specs.Str.Parse.{digits_value}
use Rattle.anstyle_parse.specs.Stream.Bytes.{is_within}
use Rattle.anstyle_parse.specs.Stream.Items.{EachIs}
use Rattle.anstyle_parse.proofs.Arguments.Decimals.{is_digit}
use Rattle.anstyle_parse.proofs.Bytes.Passing.{EachIs-append}
use Rattle.anstyle_parse.proofs.Characters.Encoding.{within}
use Rattle.terminal_keys.specs.Text.{part}

-- a number is written in digits, and read back
digits-of : (n : ℕ) → n < 2 ^ 64 → EachIs is_digit (decimal n)
unfolding is_digit
digits-of n h =
    decimal_by_steps (λ m ds. EachIs is_digit ds)
    (λ m small. (within 0x30 0x39 (48 + m) (omega arith) (omega arith), tt))
    (λ m ds large each. EachIs-append is_digit ds ((48 + m % 10) ∷ []) each (within 0x30 0x39 (48 + m % 10) (omega arith) (omega arith), tt))
    n h

decimal-once : (n m : ℕ) → n < 2 ^ 64 → m < 2 ^ 64 → decimal n ≡ decimal m → n ≡ m
decimal-once n m h k e = sym (decimal_is_IsNumeral n h).1 ∙ (ap (digits_value 10) e ∙ (decimal_is_IsNumeral m k).1)

-- the first byte of a list passes a test
abbrev pub starts : (ℕ → Bool) → List ℕ → Bool
starts test [] = false
starts test (b ∷ bytes) = test b

clash : (b : Bool) → b ≡ true → b ≡ false → ⊥
clash b holds fails = cc

absurd_starts : {P : Type 0} (test : ℕ → Bool) (s t : List ℕ) → s ≡ t → starts test s ≡ true → starts test t ≡ false → P
absurd_starts test s t e holds fails = absurd (clash (starts test t) (sym (ap (starts test) e) ∙ holds) fails)

same_tail : (b c : ℕ) (s t : List ℕ) → b ∷ s ≡ c ∷ t → (b ≡ c) × (s ≡ t)
same_tail b c s t e = (cc, cc)

-- what comes after digits begins where they end
digits-then : (a b s t : List ℕ) → EachIs is_digit a → EachIs is_digit b → starts is_digit s ≡ false → starts is_digit t ≡ false
    → a ++ s ≡ b ++ t → (a ≡ b) × (s ≡ t)
digits-then [] [] s t p q u v e = (refl, e)
digits-then [] (y ∷ b) s t p q u v e = absurd_starts is_digit (y ∷ (b ++ t)) s (sym e) q.0 u
digits-then (x ∷ a) [] s t p q u v e = absurd_starts is_digit (x ∷ (a ++ s)) t e p.0 v
digits-then (x ∷ a) (y ∷ b) s t p q u v e =
    let both = same_tail x y (a ++ s) (b ++ t) e in
    let rest = digits-then a b s t p.1 q.1 u v both.1 in
    (ap (λ l. x ∷ l) rest.0 ∙ ap (λ n. n ∷ b) both.0, rest.1)

number-then : (n m : ℕ) (s t : List ℕ) → n < 2 ^ 64 → m < 2 ^ 64 → starts is_digit s ≡ false → starts is_digit t ≡ false
    → decimal n ++ s ≡ decimal m ++ t → (n ≡ m) × (s ≡ t)
number-then n m s t h k u v e =
    let both = digits-then (decimal n) (decimal m) s t (digits-of n h) (digits-of m k) u v e in
    (decimal-once n m h k both.0, both.1)

starts-append : (l s : List ℕ) → 0 < length l → EachIs is_digit l → starts is_digit (l ++ s) ≡ true
starts-append [] s some each = absurd (omega arith)
starts-append (b ∷ l) s some each = each.0

starts-number : (n : ℕ) (s : List ℕ) → n < 2 ^ 64 → starts is_digit (decimal n ++ s) ≡ true
starts-number n s h = starts-append (decimal n) s (decimal_nonempty n h) (digits-of n h)

-- a mark is no digit
abbrev pub marks : ℕ → ℕ → Bool
marks mark b = eqb b mark

-- a number that may be left out, after its mark
module _ (mark : ℕ) (no_digit : is_digit mark ≡ false) (itself : eqb mark mark ≡ true) where
  starts-part : (n : ℕ) (s : List ℕ) → starts is_digit s ≡ false → starts is_digit (part mark n ++ s) ≡ false
  starts-part n s u =
      elim (eqb n 0) as (λ b. starts is_digit ((if b then [] else mark ∷ decimal n) ++ s) ≡ false)
      [ true ↦ u | false ↦ no_digit ]

  part-then : (n m : ℕ) (s t : List ℕ) → n < 2 ^ 64 → m < 2 ^ 64 → starts is_digit s ≡ false → starts is_digit t ≡ false
      → starts (marks mark) s ≡ false → starts (marks mark) t ≡ false → part mark n ++ s ≡ part mark m ++ t → s ≡ t
  part-then n m s t h k u v x y =
      elim (eqb n 0) as (λ b. (if b then [] else mark ∷ decimal n) ++ s ≡ part mark m ++ t → s ≡ t) [
        | true ↦ elim (eqb m 0) as (λ c. s ≡ (if c then [] else mark ∷ decimal m) ++ t → s ≡ t)
            [ true ↦ λ e. e | false ↦ λ e. absurd_starts (marks mark) (mark ∷ (decimal m ++ t)) s (sym e) itself x ]
        | false ↦ elim (eqb m 0) as (λ c. mark ∷ (decimal n ++ s) ≡ (if c then [] else mark ∷ decimal m) ++ t → s ≡ t) [
          | true ↦ λ e. absurd_starts (marks mark) (mark ∷ (decimal n ++ s)) t e itself y
          | false ↦ λ e. (number-then n m s t h k u v (same_tail mark mark (decimal n ++ s) (decimal m ++ t) e).1).1
        ]
      ]

-- what is before the final byte, by its parts
abbrev pub head_text : (short : Bool) → (number : ℕ) → List ℕ
head_text short n = if short then [] else decimal n

abbrev pub middle_text : (second : Bool) → (modifiers event : ℕ) → List ℕ
middle_text second m e = if second then 0x3B ∷ (decimal m ++ part 0x3A e) else []

-- a final byte is neither a digit nor a mark
final-no_digit : (l : ℕ) → 0x40 ≤ l → starts is_digit (l ∷ []) ≡ false
unfolding is_digit is_within
final-no_digit l h = and_right (leb 0x30 l) (leb l 0x39) (lt-leb l 0x39 (omega (arith, h)))

final-no_mark : (mark l : ℕ) → mark < 0x40 → 0x40 ≤ l → starts (marks mark) (l ∷ []) ≡ false
final-no_mark mark l small h = ne_eqb l mark (λ e. omega (arith, small, h, e))

colon-no_digit : is_digit 0x3A ≡ false
unfolding is_digit is_within
colon-no_digit = refl

semicolon-no_digit : is_digit 0x3B ≡ false
unfolding is_digit is_within
semicolon-no_digit = refl

-- modifiers, what happens, and the final byte
middle-then : (p q : Bool) (m n e f k l : ℕ) → m < 2 ^ 64 → n < 2 ^ 64 → e < 2 ^ 64 → f < 2 ^ 64 → 0x40 ≤ k → 0x40 ≤ l
    → (p ≡ false → m ≡ 1) → (q ≡ false → n ≡ 1)
    → middle_text p m e ++ k ∷ [] ≡ middle_text q n f ++ l ∷ [] → (m ≡ n) × (k ≡ l)
middle-then true true m n e f k l a b c d u v x y same =
    let after : (decimal m ++ part 0x3A e) ++ k ∷ [] ≡ (decimal n ++ part 0x3A f) ++ l ∷ [] = (same_tail 0x3B 0x3B _ _ same).1 in
    let both = number-then m n (part 0x3A e ++ k ∷ []) (part 0x3A f ++ l ∷ []) a b
    (starts-part 0x3A colon-no_digit refl e (k ∷ []) (final-no_digit k u)) (starts-part 0x3A colon-no_digit refl f (l ∷ []) (final-no_digit l v))
    (sym (append_assoc (decimal m) (part 0x3A e) (k ∷ [])) ∙ (after ∙ append_assoc (decimal n) (part 0x3A f) (l ∷ []))) in (
      both.0,
      (same_tail k l [] [] (part-then 0x3A colon-no_digit refl e f (k ∷ []) (l ∷ []) c d (final-no_digit k u) (final-no_digit l v)
          (final-no_mark 0x3A k (lit< tt) u) (final-no_mark 0x3A l (lit< tt) v) both.1)).0,
    )
middle-then true false m n e f k l a b c d u v x y same = absurd (omega (arith, v, (same_tail 0x3B l _ [] same).0))
middle-then false true m n e f k l a b c d u v x y same = absurd (omega (arith, u, (same_tail k 0x3B [] _ same).0))
middle-then false false m n e f k l a b c d u v x y same = (x refl ∙ sym (y refl), (same_tail k l [] [] same).0)

-- the number of the key, and what comes after
head-then : (p q : Bool) (n m : ℕ) (s t : List ℕ) → n < 2 ^ 64 → m < 2 ^ 64 → starts is_digit s ≡ false → starts is_digit t ≡ false
    → (p ≡ true → n ≡ 1) → (q ≡ true → m ≡ 1) → head_text p n ++ s ≡ head_text q m ++ t → (n ≡ m) × (s ≡ t)
head-then true true n m s t h k u v x y same = (x refl ∙ sym (y refl), same)
head-then true false n m s t h k u v x y same = absurd_starts is_digit (decimal m ++ t) s (sym same) (starts-number m t k) u
head-then false true n m s t h k u v x y same = absurd_starts is_digit (decimal n ++ s) t same (starts-number n s h) v
head-then false false n m s t h k u v x y same = number-then n m s t h k u v same

starts-middle : (p : Bool) (m e l : ℕ) → 0x40 ≤ l → starts is_digit (middle_text p m e ++ l ∷ []) ≡ false
starts-middle true m e l h = semicolon-no_digit
starts-middle false m e l h = final-no_digit l h

middle-no_colon : (p : Bool) (m e l : ℕ) → 0x40 ≤ l → starts (marks 0x3A) (middle_text p m e ++ l ∷ []) ≡ false
middle-no_colon true m e l h = refl
middle-no_colon false m e l h = final-no_mark 0x3A l (lit< tt) h

-- the text of a sequence that tells no text, after its beginning
abbrev pub body : (short second : Bool) → (number shifted modifiers event last : ℕ) → List ℕ
body short second n h m e l = head_text short n ++ (part 0x3A h ++ (middle_text second m e ++ l ∷ []))

pub record IsBody (short second : Bool) (number shifted modifiers event last : ℕ) : Type 0 where
  pub few : number < 2 ^ 64
  pub few_shifted : shifted < 2 ^ 64
  pub few_modifiers : modifiers < 2 ^ 64
  pub few_events : event < 2 ^ 64
  pub final : 0x40 ≤ last
  pub one : short ≡ true → number ≡ 1
  pub none : second ≡ false → modifiers ≡ 1

pub record IsSame (number modifiers last n m l : ℕ) : Type 0 where
  pub numbers : number ≡ n
  pub held : modifiers ≡ m
  pub lasts : last ≡ l

pub body-once : (p q r s : Bool) (n m g h a b e f k l : ℕ) → IsBody p r n g a e k → IsBody q s m h b f l
    → body p r n g a e k ≡ body q s m h b f l → IsSame n a k m b l
body-once p q r s n m g h a b e f k l first second same =
    let rest = head-then p q n m (part 0x3A g ++ (middle_text r a e ++ k ∷ [])) (part 0x3A h ++ (middle_text s b f ++ l ∷ []))
    first.few second.few
    (starts-part 0x3A colon-no_digit refl g (middle_text r a e ++ k ∷ []) (starts-middle r a e k first.final))
    (starts-part 0x3A colon-no_digit refl h (middle_text s b f ++ l ∷ []) (starts-middle s b f l second.final))
    first.one second.one same in
    let after = part-then 0x3A colon-no_digit refl g h (middle_text r a e ++ k ∷ []) (middle_text s b f ++ l ∷ [])
    first.few_shifted second.few_shifted (starts-middle r a e k first.final) (starts-middle s b f l second.final)
    (middle-no_colon r a e k first.final) (middle-no_colon s b f l second.final) rest.1 in
    let both = middle-then r s a b e f k l first.few_modifiers second.few_modifiers first.few_events second.few_events
    first.final second.final first.none second.none after in
    record { numbers = rest.0; held = both.0; lasts = both.1 }
