-- Texts by one character after another, and that one more leaves them without controls.
use Rattle.std.proofs.Common.{◌≡◌, ℕ, Bool, true, ◌&&◌, List, [], ◌∷◌, ◌++◌, refl, sym, ap, ◌∙◌}
use Rattle.std.specs.Prelude.{encode_utf8}
use Rattle.std.specs.Char.{IsScalar}
use Rattle.std.specs.Str.{chars, IsUtf8, is_utf8}
use Rattle.std.specs.List.{list_all}
use Rattle.std.proofs.lemmas.Bool.{and_parts}
use Rattle.std.proofs.lemmas.List.{append-nil}
use Rattle.std.proofs.lemmas.List.Folds.{list_all-append}
use Rattle.std.proofs.lemmas.Str.{chars-append, chars-encodes, chars_past_char, IsUtf8-nil, IsUtf8-append, IsUtf8-encode, IsUtf8-from_is_utf8, is_utf8-from_IsUtf8}
use Rattle.ansi_modes.specs.Text.{is_shown, is_inert, with_character, with_characters}

characters-append : (xs ys : List ℕ) (t : List ℕ) → with_characters (xs ++ ys) t ≡ with_characters ys (with_characters xs t)
characters-append [] ys t = refl
characters-append (x ∷ xs) ys t = characters-append xs ys (with_character x t)

-- one character more
pub with_more : (c : ℕ) (xs first t new : List ℕ) → new ≡ with_character c t → t ≡ with_characters xs first
    → new ≡ with_characters (xs ++ c ∷ []) first
with_more c xs first t new made before =
    made ∙ (ap (with_character c) before ∙ sym (characters-append xs (c ∷ []) first))

both : (x y : Bool) → x ≡ true → y ≡ true → (x && y) ≡ true
both x y p q = rw (p, q) refl

-- no text has no control
pub inert_none : is_inert [] ≡ true
inert_none =
    both (is_utf8 []) (list_all is_shown (chars [])) (is_utf8-from_IsUtf8 [] IsUtf8-nil) (ap (list_all is_shown) (chars-encodes [] refl))

-- the character that its bytes make is itself
chars-encode : (c : ℕ) → IsScalar c → chars (encode_utf8 c) ≡ c ∷ []
chars-encode c scalar =
    chars_past_char (encode_utf8 c) [] c (IsUtf8-encode c scalar) (sym (append-nil (encode_utf8 c)))
    ∙ ap (λ (cs : List ℕ). c ∷ cs) (chars-encodes [] refl)

shown-more : (c : ℕ) (t : List ℕ) → IsScalar c → is_shown c ≡ true → IsUtf8 t → list_all is_shown (chars t) ≡ true
    → list_all is_shown (chars (t ++ encode_utf8 c)) ≡ true
shown-more c t scalar shown text inert =
    ap (list_all is_shown) (chars-append t (encode_utf8 c) text ∙ ap (λ (cs : List ℕ). chars t ++ cs) (chars-encode c scalar))
    ∙ (list_all-append is_shown (chars t) (c ∷ []) ∙ both (list_all is_shown (chars t)) (list_all is_shown (c ∷ [])) inert (both (is_shown c) true shown refl))

-- a text without controls and one character more that is none
pub inert_more : (c : ℕ) (t : List ℕ) → IsScalar c → is_shown c ≡ true → is_inert t ≡ true → is_inert (t ++ encode_utf8 c) ≡ true
inert_more c t scalar shown inert =
    let parts = and_parts (is_utf8 t) (list_all is_shown (chars t)) inert in
    let text : IsUtf8 t = IsUtf8-from_is_utf8 t parts.0 in
    both (is_utf8 (t ++ encode_utf8 c)) (list_all is_shown (chars (t ++ encode_utf8 c)))
    (is_utf8-from_IsUtf8 (t ++ encode_utf8 c) (IsUtf8-append t (encode_utf8 c) text (IsUtf8-encode c scalar)))
    (shown-more c t scalar shown text parts.1)
