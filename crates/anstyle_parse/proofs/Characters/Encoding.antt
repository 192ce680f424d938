-- Characters of two to four bytes: the table of well-formed sequences against std's UTF-8.
use Rattle.std.proofs.Common.{◌≡◌, ℕ, ◌+◌, ◌/◌, ◌%◌, ◌<◌, ◌≤◌, ◌⊎◌, inl, inr, ⊎_elim, Bool, true, ◌&&◌, List, [], ◌∷◌, length, get_or, refl, sym, ◌∙◌, subst, eqb, ltb, leb, le-ltb, lt-ltb, le-leb, leb-true, arith}
use Rattle.std.specs.Char.{encode_utf8}
use Rattle.std.proofs.lemmas.Bool.{and_parts, and_from, or_cases, cond-true, cond-false, cases_lt}
use Rattle.std.proofs.lemmas.List.Folds.{list_any_at}
use Rattle.anstyle_parse.specs.Stream.Bytes.{is_within, ◌‥◌}
use Rattle.anstyle_parse.specs.Stream.Characters.{rows, begins, is_well_formed, character_of}
use Rattle.anstyle_parse.specs.Laws.Lawful.{is_character}

-- a test of a range, and its two bounds
pub within : (low high b : ℕ) → low ≤ b → b ≤ high → is_within low high b ≡ true
unfolding is_within
within low high b l h = and_from (leb low b) (leb b high) (le-leb low b l) (le-leb b high h)

pub within_parts : (low high b : ℕ) → is_within low high b ≡ true → (low ≤ b) × (b ≤ high)
unfolding is_within
within_parts low high b e =
    let parts = and_parts (leb low b) (leb b high) e in
    (leb-true low b parts.0, leb-true b high parts.1)

-- the bytes that std writes, by the size of the character
pub encode_two : (c : ℕ) → 0x80 ≤ c → c < 0x800 → encode_utf8 c ≡ (192 + c / 64) ∷ (128 + c % 64) ∷ []
unfolding encode_utf8
encode_two c l h = cond-false (ltb c 128) _ _ (le-ltb c 128 l) ∙ cond-true (ltb c 2048) _ _ (lt-ltb c 2048 h)

pub encode_three : (c : ℕ) → 0x800 ≤ c → c < 0x10000 → encode_utf8 c ≡ (224 + c / 4096) ∷ (128 + c / 64 % 64) ∷ (128 + c % 64) ∷ []
unfolding encode_utf8
encode_three c l h = cond-false (ltb c 128) _ _ (le-ltb c 128 (omega arith)) ∙ (cond-false (ltb c 2048) _ _ (le-ltb c 2048 l) ∙ cond-true (ltb c 65536) _ _ (lt-ltb c 65536 h))

pub encode_four : (c : ℕ) → 0x10000 ≤ c → encode_utf8 c ≡ (240 + c / 262144) ∷ (128 + c / 4096 % 64) ∷ (128 + c / 64 % 64) ∷ (128 + c % 64) ∷ []
unfolding encode_utf8
encode_four c l = cond-false (ltb c 128) _ _ (le-ltb c 128 (omega arith)) ∙ (cond-false (ltb c 2048) _ _ (le-ltb c 2048 (omega arith)) ∙ cond-false (ltb c 65536) _ _ (le-ltb c 65536 l))

-- and of ASCII, one byte
pub encode_one : (c : ℕ) → c < 0x80 → encode_utf8 c ≡ c ∷ []
unfolding encode_utf8
encode_one c h = cond-true (ltb c 128) _ _ (lt-ltb c 128 h)

-- a sequence that fits the i-th row is well formed
by_row : (i : ℕ) (bytes : List ℕ) → i < length rows → begins (get_or rows i []) bytes ≡ true → eqb (length bytes) (length (get_or rows i [])) ≡ true → is_well_formed bytes ≡ true
unfolding is_well_formed
by_row i bytes below fits long =
    list_any_at (λ row. begins row bytes && eqb (length bytes) (length row)) rows i [] below
    (and_from (begins (get_or rows i []) bytes) (eqb (length bytes) (length (get_or rows i []))) fits long)

both : (x y : Bool) → x ≡ true → y ≡ true → (x && y) ≡ true
both x y h k = and_from x y h k

-- what holds of a sequence that stands for the character c
abbrev StandsFor : ℕ → List ℕ → Type 0
StandsFor c bytes = (is_well_formed bytes ≡ true) × (character_of bytes ≡ c)

two_stand : (c : ℕ) → 0x80 ≤ c → c < 0x800 → StandsFor c ((192 + c / 64) ∷ (128 + c % 64) ∷ [])
two_stand c l h = (
  by_row 0 _ (omega arith)
      (both _ _ (within 0xC2 0xDF (192 + c / 64) (omega arith) (omega arith))
      (both _ _ (within 0x80 0xBF (128 + c % 64) (omega arith) (omega arith)) refl)) refl,
  omega arith,
)

three_fit : (i low₁ high₁ low₂ high₂ a b c : ℕ) → i < 8 → get_or rows i [] ≡ low₁ ‥ high₁ ∷ low₂ ‥ high₂ ∷ 0x80 ‥ 0xBF ∷ []
    → low₁ ≤ a → a ≤ high₁ → low₂ ≤ b → b ≤ high₂ → 0x80 ≤ c → c ≤ 0xBF → is_well_formed (a ∷ b ∷ c ∷ []) ≡ true
three_fit i low₁ high₁ low₂ high₂ a b c below row h₁ k₁ h₂ k₂ h₃ k₃ =
    by_row i (a ∷ b ∷ c ∷ []) below
    (rw row (both _ _ (within low₁ high₁ a h₁ k₁) (both _ _ (within low₂ high₂ b h₂ k₂) (both _ _ (within 0x80 0xBF c h₃ k₃) refl))))
    (rw row refl)

four_fit : (i low₁ high₁ low₂ high₂ a b c d : ℕ) → i < 8 → get_or rows i [] ≡ low₁ ‥ high₁ ∷ low₂ ‥ high₂ ∷ 0x80 ‥ 0xBF ∷ 0x80 ‥ 0xBF ∷ []
    → low₁ ≤ a → a ≤ high₁ → low₂ ≤ b → b ≤ high₂ → 0x80 ≤ c → c ≤ 0xBF → 0x80 ≤ d → d ≤ 0xBF → is_well_formed (a ∷ b ∷ c ∷ d ∷ []) ≡ true
four_fit i low₁ high₁ low₂ high₂ a b c d below row h₁ k₁ h₂ k₂ h₃ k₃ h₄ k₄ =
    by_row i (a ∷ b ∷ c ∷ d ∷ []) below
    (rw row (both _ _ (within low₁ high₁ a h₁ k₁) (both _ _ (within low₂ high₂ b h₂ k₂) (both _ _ (within 0x80 0xBF c h₃ k₃) (both _ _ (within 0x80 0xBF d h₄ k₄) refl)))))
    (rw row refl)

-- the second byte of three or four stands by the first in its row
three_well_formed : (c : ℕ) → 0x800 ≤ c → c < 0x10000 → (c < 0xD800) ⊎ (0xE000 ≤ c) → is_well_formed ((224 + c / 4096) ∷ (128 + c / 64 % 64) ∷ (128 + c % 64) ∷ []) ≡ true
three_well_formed c l h (inl low) =
    ⊎_elim
    (λ (k : c < 0x1000). three_fit 1 0xE0 0xE0 0xA0 0xBF _ _ _ (omega arith) refl (omega arith) (omega arith) (omega arith) (omega arith) (omega arith) (omega arith))
    (λ (k : 0x1000 ≤ c). ⊎_elim
    (λ (j : c < 0xD000). three_fit 2 0xE1 0xEC 0x80 0xBF _ _ _ (omega arith) refl (omega arith) (omega arith) (omega arith) (omega arith) (omega arith) (omega arith))
    (λ (j : 0xD000 ≤ c). three_fit 3 0xED 0xED 0x80 0x9F _ _ _ (omega arith) refl (omega arith) (omega arith) (omega arith) (omega arith) (omega arith) (omega arith))
    (cases_lt c 0xD000))
    (cases_lt c 0x1000)
three_well_formed c l h (inr high) =
    three_fit 4 0xEE 0xEF 0x80 0xBF _ _ _ (omega arith) refl (omega arith) (omega arith) (omega arith) (omega arith) (omega arith) (omega arith)

three_stand : (c : ℕ) → 0x800 ≤ c → c < 0x10000 → (c < 0xD800) ⊎ (0xE000 ≤ c) → StandsFor c ((224 + c / 4096) ∷ (128 + c / 64 % 64) ∷ (128 + c % 64) ∷ [])
three_stand c l h apart = (three_well_formed c l h apart, omega arith)

four_well_formed : (c : ℕ) → 0x10000 ≤ c → c < 0x110000 → is_well_formed ((240 + c / 262144) ∷ (128 + c / 4096 % 64) ∷ (128 + c / 64 % 64) ∷ (128 + c % 64) ∷ []) ≡ true
four_well_formed c l h =
    ⊎_elim
    (λ (k : c < 0x40000). four_fit 5 0xF0 0xF0 0x90 0xBF _ _ _ _ (omega arith) refl (omega arith) (omega arith) (omega arith) (omega arith) (omega arith) (omega arith) (omega arith) (omega arith))
    (λ (k : 0x40000 ≤ c). ⊎_elim
    (λ (j : c < 0x100000). four_fit 6 0xF1 0xF3 0x80 0xBF _ _ _ _ (omega arith) refl (omega arith) (omega arith) (omega arith) (omega arith) (omega arith) (omega arith) (omega arith) (omega arith))
    (λ (j : 0x100000 ≤ c). four_fit 7 0xF4 0xF4 0x80 0x8F _ _ _ _ (omega arith) refl (omega arith) (omega arith) (omega arith) (omega arith) (omega arith) (omega arith) (omega arith) (omega arith))
    (cases_lt c 0x100000))
    (cases_lt c 0x40000)

four_stand : (c : ℕ) → 0x10000 ≤ c → c < 0x110000 → StandsFor c ((240 + c / 262144) ∷ (128 + c / 4096 % 64) ∷ (128 + c / 64 % 64) ∷ (128 + c % 64) ∷ [])
four_stand c l h = (four_well_formed c l h, omega arith)

-- a character is below the surrogates or above them
pub character_range : (c : ℕ) → is_character c ≡ true → (0x20 ≤ c) × (c < 0x110000) × ((c < 0xD800) ⊎ (0xE000 ≤ c))
unfolding is_character
character_range c e =
    ⊎_elim
    (λ h. let p = within_parts 0x20 0xD7FF c h in (p.0, omega arith, inl (omega arith)))
    (λ h. let p = within_parts 0xE000 0x10FFFF c h in (omega arith, omega arith, inr p.0))
    (or_cases (is_within 0x20 0xD7FF c) (is_within 0xE000 0x10FFFF c) e)

-- what std writes for a character beyond ASCII is well formed, and stands for that character
pub encode-stands : (c : ℕ) → is_character c ≡ true → 0x80 ≤ c → (is_well_formed (encode_utf8 c) ≡ true) × (character_of (encode_utf8 c) ≡ c)
encode-stands c e l =
    let range = character_range c e in
    ⊎_elim
    (λ (k : c < 0x800). subst (StandsFor c) (sym (encode_two c l k)) (two_stand c l k))
    (λ (k : 0x800 ≤ c). ⊎_elim
    (λ (j : c < 0x10000). subst (StandsFor c) (sym (encode_three c k j)) (three_stand c k j range.2))
    (λ (j : 0x10000 ≤ c). subst (StandsFor c) (sym (encode_four c j)) (four_stand c j range.1))
    (cases_lt c 0x10000))
    (cases_lt c 0x800)
