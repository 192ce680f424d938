-- The lines, as they are put together.
use Rattle.std.proofs.Common.{arith, ◌≡◌, ℕ, ◌+◌, ◌/◌, ◌<◌, ◌≤◌, Bool, true, eqb, slice_index_or, List, [], ◌∷◌, ◌++◌, codes, nat_lt, ◌≢◌, length, refl, sym, ap, ◌∙◌, append_assoc}
use Rattle.std.specs.Prelude.{if◌then◌else◌}
use Rattle.std.specs.List.{flat_map}
use Rattle.std.proofs.lemmas.Bool.{lt-ltb, le-ltb, agree_below_at, eqb-true}
use Rattle.parselog.specs.Lines.{hex_digit, hex_byte, hex_list, four_digits, character_number, truth, end_text, newline}

-- the digit that stands at its place among all sixteen
pub digit_at : (d : ℕ) → d < 16 → slice_index_or {A = ℕ} (codes "0123456789ABCDEF") d 0 ≡ (if nat_lt d 10 then 0x30 + d else 0x37 + d)
digit_at d small =
    eqb-true _ _ (agree_below_at (λ n. eqb (slice_index_or {A = ℕ} (codes "0123456789ABCDEF") n 0) (if nat_lt n 10 then 0x30 + n else 0x37 + n)) (λ _. true) 16 d refl small)

-- a character's number has four digits, five or six
pub character_number-four : (c : ℕ) → c < 0x10000 → four_digits c ≡ character_number c
character_number-four c small =
    sym (ap (λ t. if t then four_digits c else if nat_lt c 0x100000 then hex_digit (c / 0x10000) ∷ four_digits c else hex_digit (c / 0x100000) ∷ hex_digit (c / 0x10000) ∷ four_digits c) (lt-ltb c 0x10000 small))

pub character_number-five : (c : ℕ) → 0x10000 ≤ c → c < 0x100000 → hex_digit (c / 0x10000) ∷ four_digits c ≡ character_number c
character_number-five c large small =
    sym (ap (λ t. if t then four_digits c else if nat_lt c 0x100000 then hex_digit (c / 0x10000) ∷ four_digits c else hex_digit (c / 0x100000) ∷ hex_digit (c / 0x10000) ∷ four_digits c) (le-ltb c 0x10000 large)
    ∙ ap (λ t. if t then hex_digit (c / 0x10000) ∷ four_digits c else hex_digit (c / 0x100000) ∷ hex_digit (c / 0x10000) ∷ four_digits c) (lt-ltb c 0x100000 small))

pub character_number-six : (c : ℕ) → 0x100000 ≤ c → hex_digit (c / 0x100000) ∷ hex_digit (c / 0x10000) ∷ four_digits c ≡ character_number c
character_number-six c large =
    sym (ap (λ t. if t then four_digits c else if nat_lt c 0x100000 then hex_digit (c / 0x10000) ∷ four_digits c else hex_digit (c / 0x100000) ∷ hex_digit (c / 0x10000) ∷ four_digits c) (le-ltb c 0x10000 (omega (arith, large)))
    ∙ ap (λ t. if t then hex_digit (c / 0x10000) ∷ four_digits c else hex_digit (c / 0x100000) ∷ hex_digit (c / 0x10000) ∷ four_digits c) (le-ltb c 0x100000 large))

-- what stands after a line stands after its last part
pub line_end : (a : List ℕ) (x : ℕ) (b c n : List ℕ) → (a ++ x ∷ (b ++ c)) ++ n ≡ a ++ x ∷ (b ++ (c ++ n))
line_end a x b c n = append_assoc a (x ∷ (b ++ c)) n ∙ ap (λ l. a ++ x ∷ l) (append_assoc b c n)

-- the end of a line, from the digits of the final byte
pub end_text-digits : (intermediates : List ℕ) (ignore : Bool) (final d1 d0 : ℕ) → d1 ≡ hex_digit (final / 16) → d0 ≡ hex_digit final
    → hex_list intermediates ++ 32 ∷ (truth ignore ++ 32 ∷ d1 ∷ d0 ∷ newline ∷ []) ≡ end_text intermediates ignore final ++ newline ∷ []
end_text-digits intermediates ignore final d1 d0 e1 e0 =
    ap (λ d. hex_list intermediates ++ 32 ∷ (truth ignore ++ 32 ∷ d ∷ d0 ∷ newline ∷ [])) e1
    ∙ ap (λ d. hex_list intermediates ++ 32 ∷ (truth ignore ++ 32 ∷ hex_digit (final / 16) ∷ d ∷ newline ∷ [])) e0
    ∙ sym (line_end (hex_list intermediates) 32 (truth ignore) (32 ∷ hex_byte final) (newline ∷ []))

-- bytes that are some, digit after digit
pub hex_list-some : (bytes : List ℕ) → length bytes ≢ 0 → flat_map hex_byte bytes ≡ hex_list bytes
hex_list-some [] some = absurd (some refl)
hex_list-some (b ∷ bytes) some = refl

-- a byte, from its digits
pub hex_byte-digits : (b n d1 d0 : ℕ) → n ≡ b → d1 ≡ hex_digit (n / 16) → d0 ≡ hex_digit n → d1 ∷ d0 ∷ [] ≡ hex_byte b
hex_byte-digits b n d1 d0 same e1 e0 = ap (λ d. d ∷ d0 ∷ []) e1 ∙ ap (λ d. hex_digit (n / 16) ∷ d ∷ []) e0 ∙ ap hex_byte same

-- a front more of what is left is done
pub done_more : (done front rest whole left : List ℕ) → left ≡ front ++ rest → done ++ left ≡ whole → (done ++ front) ++ rest ≡ whole
done_more done front rest whole left e h = append_assoc done front rest ∙ ap (λ l. done ++ l) (sym e) ∙ h
