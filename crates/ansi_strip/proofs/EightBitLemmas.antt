-- Inert text has no character that stands for a control.
use Rattle.std.proofs.Common.{◌≡◌, ◌≢◌, ◌<◌, ◌≤◌, ℕ, ◌+◌, ◌/◌, ◌%◌, true, false, List, [], ◌∷◌, ◌++◌, refl, sym, ap, ◌∙◌, ⊎_elim, arith}
use Rattle.std.specs.Prelude.{encode_utf8, not}
use Rattle.std.specs.Str.{chars, encode_utf8_all}
use Rattle.std.proofs.lemmas.Bool.{cases_lt, cond-false, false≢true}
use Rattle.std.proofs.lemmas.Str.{encodes-chars}
use Rattle.anstyle_parse.specs.Stream.Items.{EachIs}
use Rattle.anstyle_parse.proofs.Characters.Encoding.{encode_one, encode_two, encode_three, encode_four}
use Rattle.ansi_strip.specs.EightBit.{is_eight_bit, in_seven_bits}
use Rattle.ansi_strip.specs.Inert.{is_driving, is_inert_character, IsInertText}
use Rattle.ansi_strip.proofs.DrivingLemmas.{driving-from, eight_bit-other, eight_bit-high}
use Rattle.ansi_strip.proofs.InertLemmas.{no_driving-inert}

-- a byte that begins no such character stays
stays_before : (first second : ℕ) (bytes : List ℕ) → is_eight_bit first second ≡ false → in_seven_bits (first ∷ second ∷ bytes) ≡ first ∷ in_seven_bits (second ∷ bytes)
stays_before first second bytes other = cond-false (is_eight_bit first second) _ _ other

stays : (first : ℕ) → first ≢ 0xC2 → (bytes : List ℕ) → in_seven_bits (first ∷ bytes) ≡ first ∷ in_seven_bits bytes
stays first other [] = refl
stays first other (second ∷ bytes) = stays_before first second bytes (eight_bit-other first second other)

-- so does a character that drives nothing
two-stay : (c : ℕ) → 0x9F < c → c < 0x800 → (bytes : List ℕ) → in_seven_bits (encode_utf8 c ++ bytes) ≡ encode_utf8 c ++ in_seven_bits bytes
two-stay c high below bytes =
    let is = encode_two c (omega (arith, high)) below in
    ap (λ l. in_seven_bits (l ++ bytes)) is
    ∙ ⊎_elim
    (λ (low : c < 0xC0). stays_before (192 + c / 64) (128 + c % 64) bytes (eight_bit-high (192 + c / 64) (128 + c % 64) (omega (arith, high, low))))
    (λ (k : 0xC0 ≤ c). stays (192 + c / 64) (λ e. omega (arith, e, k)) ((128 + c % 64) ∷ bytes))
    (cases_lt c 0xC0)
    ∙ ap (λ l. (192 + c / 64) ∷ l) (stays (128 + c % 64) (λ e. omega (arith, e)) bytes)
    ∙ sym (ap (λ l. l ++ in_seven_bits bytes) is)

three-stay : (c : ℕ) → 0x800 ≤ c → c < 0x10000 → (bytes : List ℕ) → in_seven_bits (encode_utf8 c ++ bytes) ≡ encode_utf8 c ++ in_seven_bits bytes
three-stay c low high bytes =
    let is = encode_three c low high in
    ap (λ l. in_seven_bits (l ++ bytes)) is
    ∙ stays (224 + c / 4096) (λ e. omega (arith, e)) ((128 + c / 64 % 64) ∷ (128 + c % 64) ∷ bytes)
    ∙ ap (λ l. (224 + c / 4096) ∷ l) (stays (128 + c / 64 % 64) (λ e. omega (arith, e)) ((128 + c % 64) ∷ bytes))
    ∙ ap (λ l. (224 + c / 4096) ∷ (128 + c / 64 % 64) ∷ l) (stays (128 + c % 64) (λ e. omega (arith, e)) bytes)
    ∙ sym (ap (λ l. l ++ in_seven_bits bytes) is)

four-stay : (c : ℕ) → 0x10000 ≤ c → (bytes : List ℕ) → in_seven_bits (encode_utf8 c ++ bytes) ≡ encode_utf8 c ++ in_seven_bits bytes
four-stay c low bytes =
    let is = encode_four c low in
    ap (λ l. in_seven_bits (l ++ bytes)) is
    ∙ stays (240 + c / 262144) (λ e. omega (arith, e)) ((128 + c / 4096 % 64) ∷ (128 + c / 64 % 64) ∷ (128 + c % 64) ∷ bytes)
    ∙ ap (λ l. (240 + c / 262144) ∷ l) (stays (128 + c / 4096 % 64) (λ e. omega (arith, e)) ((128 + c / 64 % 64) ∷ (128 + c % 64) ∷ bytes))
    ∙ ap (λ l. (240 + c / 262144) ∷ (128 + c / 4096 % 64) ∷ l) (stays (128 + c / 64 % 64) (λ e. omega (arith, e)) ((128 + c % 64) ∷ bytes))
    ∙ ap (λ l. (240 + c / 262144) ∷ (128 + c / 4096 % 64) ∷ (128 + c / 64 % 64) ∷ l) (stays (128 + c % 64) (λ e. omega (arith, e)) bytes)
    ∙ sym (ap (λ l. l ++ in_seven_bits bytes) is)

character-stays : (c : ℕ) → not (is_driving c) ≡ true → (bytes : List ℕ) → in_seven_bits (encode_utf8 c ++ bytes) ≡ encode_utf8 c ++ in_seven_bits bytes
character-stays c inert bytes =
    ⊎_elim
    (λ (low : c < 0x80).
    ap (λ l. in_seven_bits (l ++ bytes)) (encode_one c low)
    ∙ stays c (λ e. omega (arith, e, low)) bytes
    ∙ sym (ap (λ l. l ++ in_seven_bits bytes) (encode_one c low)))
    (λ (k : 0x80 ≤ c). ⊎_elim
    (λ (high : 0x9F < c). ⊎_elim
    (λ (two : c < 0x800). two-stay c high two bytes)
    (λ (j : 0x800 ≤ c). ⊎_elim
    (λ (three : c < 0x10000). three-stay c j three bytes)
    (λ (four : 0x10000 ≤ c). four-stay c four bytes)
    (cases_lt c 0x10000))
    (cases_lt c 0x800))
    (λ (j : c ≤ 0x9F). absurd (false≢true (sym (ap not (driving-from c (omega (arith, k)) j)) ∙ inert)))
    (cases_lt 0x9F c))
    (cases_lt c 0x80)

characters-stay : (characters : List ℕ) → EachIs is_inert_character characters → in_seven_bits (encode_utf8_all characters) ≡ encode_utf8_all characters
characters-stay [] each = refl
characters-stay (c ∷ characters) each =
    character-stays c (no_driving-inert c each.0) (encode_utf8_all characters) ∙ ap (λ l. encode_utf8 c ++ l) (characters-stay characters each.1)

pub inert-stays : (text : List ℕ) → IsInertText text → in_seven_bits text ≡ text
inert-stays text inert =
    let spelt = encodes-chars text inert.0 in
    ap in_seven_bits (sym spelt) ∙ characters-stay (chars text) inert.1 ∙ spelt
