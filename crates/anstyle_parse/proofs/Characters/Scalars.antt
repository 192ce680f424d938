-- A well-formed sequence stands for a character, which std writes as this sequence.
use Rattle.std.proofs.Common.{◌≡◌, ℕ, suc, ◌+◌, ◌*◌, ◌/◌, ◌%◌, ◌<◌, ◌≤◌, ⊎_elim, Bool, true, ◌&&◌, List, [], ◌∷◌, length, ap, ap₂, ◌∙◌, eqb, eqb-true, eq-eqb, arith}
use Rattle.std.specs.Char.{encode_utf8}
use Rattle.std.specs.List.{list_any, AllZip, AllByRecursion}
use Rattle.std.proofs.lemmas.Bool.{and_parts, and_from, or_cases, or_left, or_right}
use Rattle.std.proofs.lemmas.Str.{length-encode, len_utf8_bounds}
use Rattle.anstyle_parse.specs.Stream.Bytes.{is_within, Span, ◌‥◌}
use Rattle.anstyle_parse.specs.Stream.Characters.{rows, begins, is_well_formed, character_of}
use Rattle.anstyle_parse.specs.Laws.Lawful.{is_character}
use Rattle.anstyle_parse.proofs.Characters.Encoding.{within, within_parts, encode_two, encode_three, encode_four}

-- the byte may stand at the place
abbrev Stands : Span → ℕ → Type 0
Stands place b = (place.first ≤ b) × (b ≤ place.last)

-- a sequence that fits a row has a byte at each place
places : (row : List Span) (bytes : List ℕ) → (begins row bytes && eqb (length bytes) (length row)) ≡ true → AllZip Stands row bytes
places [] [] e = tt
places (place ∷ row) [] e = absurd (omega (arith, eqb-true 0 (suc (length row)) e))
places [] (b ∷ bytes) e = cc
places (place ∷ row) (b ∷ bytes) e =
    let whole = and_parts (is_within place.first place.last b && begins row bytes) (eqb (suc (length bytes)) (suc (length row))) e in
    let parts = and_parts (is_within place.first place.last b) (begins row bytes) whole.0 in
    let long : length bytes ≡ length row = omega (arith, eqb-true (suc (length bytes)) (suc (length row)) whole.1) in
    (within_parts place.first place.last b parts.0, places row bytes (and_from (begins row bytes) (eqb (length bytes) (length row)) parts.1 (eq-eqb (length bytes) (length row) long)))

-- what each row gives, some row gives
by_rows : (test : List Span → Bool) (P : Type 0) (some : List (List Span)) → AllByRecursion (λ row. test row ≡ true → P) some → list_any test some ≡ true → P
by_rows test P [] each e = cc
by_rows test P (row ∷ some) each e = ⊎_elim each.0 (by_rows test P some each.1) (or_cases (test row) (list_any test some) e)

-- the bytes stand for a character, and are what std writes for it
abbrev pub AreOfCharacter : List ℕ → Type 0
AreOfCharacter bytes = (is_character (character_of bytes) ≡ true) × (encode_utf8 (character_of bytes) ≡ bytes)

-- below the surrogates, and above them
pub is_character-low : (c : ℕ) → 0x20 ≤ c → c < 0xD800 → is_character c ≡ true
unfolding is_character
is_character-low c l h = or_left (is_within 0x20 0xD7FF c) (is_within 0xE000 0x10FFFF c) (within 0x20 0xD7FF c l (omega arith))

is_character-high : (c : ℕ) → 0xE000 ≤ c → c < 0x110000 → is_character c ≡ true
unfolding is_character
is_character-high c l h = or_right (is_within 0x20 0xD7FF c) (is_within 0xE000 0x10FFFF c) (within 0xE000 0x10FFFF c l (omega arith))

-- a character has a byte
pub length-encode-some : (c : ℕ) → 1 ≤ length (encode_utf8 c)
length-encode-some c = omega (arith, length-encode c, (len_utf8_bounds c).0)

-- what std writes for the character of two, three and four bytes
encode-two_bytes : (a b : ℕ) → 0xC2 ≤ a → a ≤ 0xDF → 0x80 ≤ b → b ≤ 0xBF → encode_utf8 (a % 32 * 64 + b % 64) ≡ a ∷ b ∷ []
encode-two_bytes a b h₁ k₁ h₂ k₂ =
    let c = a % 32 * 64 + b % 64 in
    let first : 192 + c / 64 ≡ a = omega arith in
    let second : 128 + c % 64 ≡ b = omega arith in
    encode_two c (omega arith) (omega arith) ∙ ap₂ (λ x y. x ∷ y ∷ []) first second

encode-three_bytes : (a b c : ℕ) → 0xE0 ≤ a → a ≤ 0xEF → 0x80 ≤ b → b ≤ 0xBF → 0x80 ≤ c → c ≤ 0xBF
    → 0x800 ≤ (a % 16 * 64 + b % 64) * 64 + c % 64 → encode_utf8 ((a % 16 * 64 + b % 64) * 64 + c % 64) ≡ a ∷ b ∷ c ∷ []
encode-three_bytes a b c h₁ k₁ h₂ k₂ h₃ k₃ large =
    let n = (a % 16 * 64 + b % 64) * 64 + c % 64 in
    let first : 224 + n / 4096 ≡ a = omega arith in
    let second : 128 + n / 64 % 64 ≡ b = omega arith in
    let third : 128 + n % 64 ≡ c = omega arith in
    encode_three n large (omega arith) ∙ ap₂ (λ x y. x ∷ y ∷ (128 + n % 64) ∷ []) first second ∙ ap (λ z. a ∷ b ∷ z ∷ []) third

encode-four_bytes : (a b c d : ℕ) → 0xF0 ≤ a → a ≤ 0xF4 → 0x80 ≤ b → b ≤ 0xBF → 0x80 ≤ c → c ≤ 0xBF → 0x80 ≤ d → d ≤ 0xBF
    → 0x10000 ≤ ((a % 8 * 64 + b % 64) * 64 + c % 64) * 64 + d % 64 → encode_utf8 (((a % 8 * 64 + b % 64) * 64 + c % 64) * 64 + d % 64) ≡ a ∷ b ∷ c ∷ d ∷ []
encode-four_bytes a b c d h₁ k₁ h₂ k₂ h₃ k₃ h₄ k₄ large =
    let n = ((a % 8 * 64 + b % 64) * 64 + c % 64) * 64 + d % 64 in
    let first : 240 + n / 262144 ≡ a = omega arith in
    let second : 128 + n / 4096 % 64 ≡ b = omega arith in
    let third : 128 + n / 64 % 64 ≡ c = omega arith in
    let fourth : 128 + n % 64 ≡ d = omega arith in
    encode_four n large ∙ ap₂ (λ x y. x ∷ y ∷ (128 + n / 64 % 64) ∷ (128 + n % 64) ∷ []) first second ∙ ap₂ (λ x y. a ∷ b ∷ x ∷ y ∷ []) third fourth

-- two bytes, which stand for a character by their row
of_two : (bytes : List ℕ) → AllZip Stands (0xC2 ‥ 0xDF ∷ 0x80 ‥ 0xBF ∷ []) bytes → AreOfCharacter bytes
of_two [] h = absurd h
of_two (a ∷ []) h = absurd h.1
of_two (a ∷ b ∷ []) h = (is_character-low (a % 32 * 64 + b % 64) (omega (arith, h.0.0, h.0.1)) (omega arith), encode-two_bytes a b h.0.0 h.0.1 h.1.0.0 h.1.0.1)
of_two (a ∷ b ∷ c ∷ bytes) h = absurd h.1.1

-- three bytes, whose row stands for characters
of_three : (low₁ high₁ low₂ high₂ : ℕ) → 0xE0 ≤ low₁ → high₁ ≤ 0xEF → 0x80 ≤ low₂ → high₂ ≤ 0xBF
    → ((a b c : ℕ) → low₁ ≤ a → a ≤ high₁ → low₂ ≤ b → b ≤ high₂ → 0x80 ≤ c → c ≤ 0xBF
    → (is_character ((a % 16 * 64 + b % 64) * 64 + c % 64) ≡ true) × (0x800 ≤ (a % 16 * 64 + b % 64) * 64 + c % 64))
    → (bytes : List ℕ) → AllZip Stands (low₁ ‥ high₁ ∷ low₂ ‥ high₂ ∷ 0x80 ‥ 0xBF ∷ []) bytes → AreOfCharacter bytes
of_three low₁ high₁ low₂ high₂ l₁ m₁ l₂ m₂ is [] h = absurd h
of_three low₁ high₁ low₂ high₂ l₁ m₁ l₂ m₂ is (a ∷ []) h = absurd h.1
of_three low₁ high₁ low₂ high₂ l₁ m₁ l₂ m₂ is (a ∷ b ∷ []) h = absurd h.1.1
of_three low₁ high₁ low₂ high₂ l₁ m₁ l₂ m₂ is (a ∷ b ∷ c ∷ []) h =
    let known = is a b c h.0.0 h.0.1 h.1.0.0 h.1.0.1 h.1.1.0.0 h.1.1.0.1 in (
      known.0,
      encode-three_bytes a b c (omega (arith, h.0.0)) (omega (arith, h.0.1)) (omega (arith, h.1.0.0)) (omega (arith, h.1.0.1)) h.1.1.0.0 h.1.1.0.1 known.1,
    )
of_three low₁ high₁ low₂ high₂ l₁ m₁ l₂ m₂ is (a ∷ b ∷ c ∷ d ∷ bytes) h = absurd h.1.1.1

-- four bytes
of_four : (low₁ high₁ low₂ high₂ : ℕ) → 0xF0 ≤ low₁ → high₁ ≤ 0xF4 → 0x80 ≤ low₂ → high₂ ≤ 0xBF
    → ((a b c d : ℕ) → low₁ ≤ a → a ≤ high₁ → low₂ ≤ b → b ≤ high₂
    → (is_character (((a % 8 * 64 + b % 64) * 64 + c % 64) * 64 + d % 64) ≡ true) × (0x10000 ≤ ((a % 8 * 64 + b % 64) * 64 + c % 64) * 64 + d % 64))
    → (bytes : List ℕ) → AllZip Stands (low₁ ‥ high₁ ∷ low₂ ‥ high₂ ∷ 0x80 ‥ 0xBF ∷ 0x80 ‥ 0xBF ∷ []) bytes → AreOfCharacter bytes
of_four low₁ high₁ low₂ high₂ l₁ m₁ l₂ m₂ is [] h = absurd h
of_four low₁ high₁ low₂ high₂ l₁ m₁ l₂ m₂ is (a ∷ []) h = absurd h.1
of_four low₁ high₁ low₂ high₂ l₁ m₁ l₂ m₂ is (a ∷ b ∷ []) h = absurd h.1.1
of_four low₁ high₁ low₂ high₂ l₁ m₁ l₂ m₂ is (a ∷ b ∷ c ∷ []) h = absurd h.1.1.1
of_four low₁ high₁ low₂ high₂ l₁ m₁ l₂ m₂ is (a ∷ b ∷ c ∷ d ∷ []) h =
    let known = is a b c d h.0.0 h.0.1 h.1.0.0 h.1.0.1 in (
      known.0,
      encode-four_bytes a b c d (omega (arith, h.0.0)) (omega (arith, h.0.1)) (omega (arith, h.1.0.0)) (omega (arith, h.1.0.1))
          h.1.1.0.0 h.1.1.0.1 h.1.1.1.0.0 h.1.1.1.0.1 known.1,
    )
of_four low₁ high₁ low₂ high₂ l₁ m₁ l₂ m₂ is (a ∷ b ∷ c ∷ d ∷ e ∷ bytes) h = absurd h.1.1.1.1

-- a well-formed sequence stands for a character, and std writes that as this sequence
pub well_formed-AreOfCharacter : (bytes : List ℕ) → is_well_formed bytes ≡ true → AreOfCharacter bytes
unfolding is_well_formed
well_formed-AreOfCharacter bytes e =
    by_rows (λ row. begins row bytes && eqb (length bytes) (length row)) (AreOfCharacter bytes) rows (
      λ f. of_two bytes (places _ bytes f),
      (
        λ f. of_three 0xE0 0xE0 0xA0 0xBF (omega arith) (omega arith) (omega arith) (omega arith) (λ a b c h₁ k₁ h₂ k₂ h₃ k₃. (is_character-low _ (omega arith) (omega arith), omega arith)) bytes (places _ bytes f),
        (
          λ f. of_three 0xE1 0xEC 0x80 0xBF (omega arith) (omega arith) (omega arith) (omega arith) (λ a b c h₁ k₁ h₂ k₂ h₃ k₃. (is_character-low _ (omega arith) (omega arith), omega arith)) bytes (places _ bytes f),
          (
            λ f. of_three 0xED 0xED 0x80 0x9F (omega arith) (omega arith) (omega arith) (omega arith) (λ a b c h₁ k₁ h₂ k₂ h₃ k₃. (is_character-low _ (omega arith) (omega arith), omega arith)) bytes (places _ bytes f),
            (
              λ f. of_three 0xEE 0xEF 0x80 0xBF (omega arith) (omega arith) (omega arith) (omega arith) (λ a b c h₁ k₁ h₂ k₂ h₃ k₃. (is_character-high _ (omega arith) (omega arith), omega arith)) bytes (places _ bytes f),
              (
                λ f. of_four 0xF0 0xF0 0x90 0xBF (omega arith) (omega arith) (omega arith) (omega arith) (λ a b c d h₁ k₁ h₂ k₂. (is_character-high _ (omega arith) (omega arith), omega arith)) bytes (places _ bytes f),
                (
                  λ f. of_four 0xF1 0xF3 0x80 0xBF (omega arith) (omega arith) (omega arith) (omega arith) (λ a b c d h₁ k₁ h₂ k₂. (is_character-high _ (omega arith) (omega arith), omega arith)) bytes (places _ bytes f),
                  (λ f. of_four 0xF4 0xF4 0x80 0x8F (omega arith) (omega arith) (omega arith) (omega arith) (λ a b c d h₁ k₁ h₂ k₂. (is_character-high _ (omega arith) (omega arith), omega arith)) bytes (places _ bytes f), tt),
                ),
              ),
            ),
          ),
        ),
      ),
    ) e
