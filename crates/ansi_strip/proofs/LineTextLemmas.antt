-- Inert text without the carriage returns that go is inert text: no character is taken apart.
use Rattle.std.proofs.Common.{◌≡◌, ◌<◌, ◌≤◌, ℕ, Bool, true, false, eqb-true, List, [], ◌∷◌, ◌++◌, refl, sym, ap, subst, ⊎_elim, arith}
use Rattle.std.specs.Prelude.{encode_utf8, not, ◌==◌, if◌then◌else◌}
use Rattle.std.specs.Char.{IsScalar}
use Rattle.std.specs.Str.{chars, encode_utf8_all, all_scalars}
use Rattle.std.proofs.lemmas.Bool.{cases_lt, ne_eqb, not-true, and_parts}
use Rattle.std.proofs.lemmas.Str.{encodes-chars, scalars-chars}
use Rattle.anstyle_parse.specs.Stream.Items.{EachIs}
use Rattle.anstyle_parse.proofs.Characters.Encoding.{encode_one, encode_two, encode_three, encode_four}
use Rattle.ansi_strip.specs.Inert.{is_inert_character, IsInertText}
use Rattle.ansi_strip.specs.LineFeeds.{goes, without_returns, is_of_line}
use Rattle.ansi_strip.proofs.InertLemmas.{IsInertText-nil, IsInertText-append, IsInertText-encode}

-- the bytes of a character are those of a line, but for the carriage return
high-of_line : (b : ℕ) → 0x80 ≤ b → is_of_line b ≡ true
high-of_line b high = ap not (ne_eqb b 0x0D (λ is. omega (arith, high, is)))

bytes-of_line : (c : ℕ) → (c == 0x0D) ≡ false → EachIs is_of_line (encode_utf8 c)
bytes-of_line c other =
    ⊎_elim
    (λ (one : c < 0x80). subst (EachIs is_of_line) (sym (encode_one c one)) (ap not other, tt))
    (λ (k : 0x80 ≤ c). ⊎_elim
    (λ (two : c < 0x800). subst (EachIs is_of_line) (sym (encode_two c k two)) (high-of_line _ (omega arith), (high-of_line _ (omega arith), tt)))
    (λ (j : 0x800 ≤ c). ⊎_elim
    (λ (three : c < 0x10000). subst (EachIs is_of_line) (sym (encode_three c j three))
    (high-of_line _ (omega arith), (high-of_line _ (omega arith), (high-of_line _ (omega arith), tt))))
    (λ (four : 0x10000 ≤ c). subst (EachIs is_of_line) (sym (encode_four c four))
    (high-of_line _ (omega arith), (high-of_line _ (omega arith), (high-of_line _ (omega arith), (high-of_line _ (omega arith), tt)))))
    (cases_lt c 0x10000))
    (cases_lt c 0x800))
    (cases_lt c 0x80)

-- such bytes stay
line-stays : (line more : List ℕ) → EachIs is_of_line line → without_returns (line ++ more) ≡ line ++ without_returns more
line-stays [] more each = refl
line-stays (byte ∷ line) more each = rw (not-true (byte == 0x0D) each.0) (ap (λ l. byte ∷ l) (line-stays line more each.1))

-- so a character goes or stays whole
inert-character : (c : ℕ) → IsScalar c → is_inert_character c ≡ true → (more : List ℕ) → IsInertText (without_returns more)
    → IsInertText (without_returns (encode_utf8 c ++ more))
inert-character c scalar inert more rest = by (c == 0x0D) refl
  where
    whole : IsInertText (encode_utf8 c ++ without_returns more)
    whole = IsInertText-append (encode_utf8 c) (without_returns more) (IsInertText-encode c scalar inert) rest

    one : encode_utf8 0x0D ≡ 0x0D ∷ []
    one = encode_one 0x0D (omega arith)

    where_return : c ≡ 0x0D → (t : Bool) → IsInertText (if t then without_returns more else 0x0D ∷ without_returns more)
    where_return is true = rest
    where_return is false =
        subst (λ (bytes : List ℕ). IsInertText (bytes ++ without_returns more)) one
        (subst (λ (k : ℕ). IsInertText (encode_utf8 k ++ without_returns more)) is whole)

    by : (t : Bool) → c == 0x0D ≡ t → IsInertText (without_returns (encode_utf8 c ++ more))
    by true is =
        let same = eqb-true c 0x0D is in
        subst (λ (k : ℕ). IsInertText (without_returns (encode_utf8 k ++ more))) (sym same)
        (subst (λ (bytes : List ℕ). IsInertText (without_returns (bytes ++ more))) (sym one) (where_return same (goes 0x0D more)))
    by false other = subst IsInertText (sym (line-stays (encode_utf8 c) more (bytes-of_line c other))) whole

inert-characters : (characters : List ℕ) → all_scalars characters ≡ true → EachIs is_inert_character characters
    → IsInertText (without_returns (encode_utf8_all characters))
inert-characters [] scalars each = IsInertText-nil
inert-characters (c ∷ characters) scalars each =
    let parts = and_parts _ (all_scalars characters) scalars in
    inert-character c parts.0 each.0 (encode_utf8_all characters) (inert-characters characters parts.1 each.1)

pub inert-lines : (text : List ℕ) → IsInertText text → IsInertText (without_returns text)
inert-lines text inert =
    subst (λ (l : List ℕ). IsInertText (without_returns l)) (encodes-chars text inert.0) (inert-characters (chars text) (scalars-chars text inert.0) inert.1)
