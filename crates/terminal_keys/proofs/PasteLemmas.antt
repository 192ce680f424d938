-- What is pasted has no control but TAB, LF and CR; so it does not have the end of its bracket.
use Rattle.std.proofs.Common.{◌≡◌, ℕ, ◌+◌, ◌/◌, ◌%◌, ◌<◌, ◌≤◌, ⊎_elim, Bool, true, false, not, List, [], ◌∷◌, ◌++◌, length, refl, sym, ap, ◌∙◌, subst, leb, le-leb, arith, length-append}
use Rattle.std.specs.Prelude.{encode_utf8}
use Rattle.std.specs.List.{flat_map}
use Rattle.std.specs.Str.{chars}
use Rattle.std.proofs.lemmas.Bool.{cases_lt, cond_both, cond-true, ne_eqb}
use Rattle.anstyle_parse.specs.Stream.Items.{EachIs}
use Rattle.anstyle_parse.proofs.Bytes.Passing.{EachIs-append}
use Rattle.anstyle_parse.proofs.Characters.Encoding.{encode_one, encode_two, encode_three, encode_four}
use Rattle.anstyle_parse.proofs.Lists.Passing.{implied}
use Rattle.terminal_keys.specs.Keys.{is_typed}
use Rattle.terminal_keys.specs.Paste.{is_pasted, pasted_character, pasted, paste_end}
use Rattle.terminal_keys.specs.Laws.{is_pasted_byte}

high : (b : ℕ) → 0x80 ≤ b → is_pasted_byte b ≡ true
unfolding is_pasted_byte
high b h =
    cond-true (leb 0x20 b) _ _ (le-leb 0x20 b (omega (arith, h))) ∙ ap not (ne_eqb b 0x7F (λ e. omega (arith, h, e)))

low : (c : ℕ) → c < 0x80 → is_pasted c ≡ true → is_pasted_byte c ≡ true
unfolding is_pasted_byte is_typed
low c h e = implied is_pasted is_pasted_byte 0x80 c refl h e

encode-bytes : (c : ℕ) → is_pasted c ≡ true → EachIs is_pasted_byte (encode_utf8 c)
encode-bytes c e =
    ⊎_elim
    (λ one. subst (EachIs is_pasted_byte) (sym (encode_one c one)) (low c one e, tt))
    (λ more. ⊎_elim
    (λ two. subst (EachIs is_pasted_byte) (sym (encode_two c more two)) (high (192 + c / 64) (omega arith), (high (128 + c % 64) (omega arith), tt)))
    (λ over. ⊎_elim
    (λ three. subst (EachIs is_pasted_byte) (sym (encode_three c over three)) (high (224 + c / 4096) (omega arith), (high (128 + c / 64 % 64) (omega arith), (high (128 + c % 64) (omega arith), tt))))
    (λ four. subst (EachIs is_pasted_byte) (sym (encode_four c four)) (
      high (240 + c / 262144) (omega arith),
      (
        high (128 + c / 4096 % 64) (omega arith),
        (
          high (128 + c / 64 % 64) (omega arith),
          (high (128 + c % 64) (omega arith), tt),
        ),
      ),
    ))
    (cases_lt c 0x10000)) (cases_lt c 0x800)) (cases_lt c 0x80)

character-bytes : (c : ℕ) → EachIs is_pasted_byte (pasted_character c)
character-bytes c = cond_both (is_pasted c) (encode_utf8 c) [] (EachIs is_pasted_byte) (λ e. encode-bytes c e) (λ e. tt)

characters-bytes : (cs : List ℕ) → EachIs is_pasted_byte (flat_map pasted_character cs)
characters-bytes [] = tt
characters-bytes (c ∷ cs) = EachIs-append is_pasted_byte (pasted_character c) (flat_map pasted_character cs) (character-bytes c) (characters-bytes cs)

pub pasted-bytes : (text : List ℕ) → EachIs is_pasted_byte (pasted text)
pasted-bytes text = characters-bytes (chars text)

escape-not : is_pasted_byte 0x1B ≡ false
unfolding is_pasted_byte
escape-not = refl

clash : (b : Bool) → b ≡ true → b ≡ false → ⊥
clash b holds fails = cc

no_escape : (b : ℕ) → b ≡ 0x1B → is_pasted_byte b ≡ true → ⊥
no_escape b e holds = clash (is_pasted_byte 0x1B) (subst (λ x. is_pasted_byte x ≡ true) e holds) escape-not

first : (x y : ℕ) (s t : List ℕ) → x ∷ s ≡ y ∷ t → x ≡ y
first x y s t e = cc

rest : (x y : ℕ) (s t : List ℕ) → x ∷ s ≡ y ∷ t → s ≡ t
rest x y s t e = cc

nothing_after : (after : List ℕ) → paste_end ≡ paste_end ++ after → after ≡ []
nothing_after after e = cc

nothing_before : (b : ℕ) (before after : List ℕ) → paste_end ≡ b ∷ (before ++ (paste_end ++ after)) → ⊥
nothing_before b before after e = omega (arith, ap length e, length-append before (paste_end ++ after), length-append paste_end after)

end-once : (inner before after : List ℕ) → EachIs is_pasted_byte inner → inner ++ paste_end ≡ before ++ (paste_end ++ after)
    → (before ≡ inner) × (after ≡ [])
end-once [] [] after each e = (refl, nothing_after after e)
end-once [] (b ∷ before) after each e = absurd (nothing_before b before after e)
end-once (x ∷ inner) [] after each e = absurd (no_escape x (first x 0x1B _ _ e) each.0)
end-once (x ∷ inner) (b ∷ before) after each e =
    let more = end-once inner before after each.1 (rest x b _ _ e) in
    (ap (λ l. b ∷ l) more.0 ∙ ap (λ y. y ∷ inner) (sym (first x b _ _ e)), more.1)

-- the first end of a paste is its end
pub end-of-paste : (text before after : List ℕ) → pasted text ++ paste_end ≡ before ++ (paste_end ++ after)
    → (before ≡ pasted text) × (after ≡ [])
end-of-paste text before after e = end-once (pasted text) before after (pasted-bytes text) e
