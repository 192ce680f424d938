-- What a performer that makes links does by a text that it hands on at once.
use Rattle.std.proofs.Common.{◌≡◌, ◌<◌, ℕ, Bool, true, false, List, [], ◌∷◌, ◌++◌, map, refl, sym, ap, ap₂, ◌∙◌, subst, append-nil, ⊎_elim}
use Rattle.std.specs.Prelude.{not, nat_lt, if◌then◌else◌}
use Rattle.std.specs.Str.{IsUtf8, chars}
use Rattle.std.proofs.lemmas.Bool.{and_parts, not-true, ltb-true}
use Rattle.std.proofs.lemmas.List.{map-append}
use Rattle.std.proofs.lemmas.Str.{chars-append, chars-nil, chars_past_char}
use Rattle.anstyle_parse.specs.Stream.Call.{Call, print}
use Rattle.anstyle_parse.specs.Stream.Items.{EachIs}
use Rattle.anstyle_parse.specs.Stream.Texts.{text_calls}
use Rattle.anstyle_parse.proofs.Bytes.Passing.{EachIs-parts}
use Rattle.anstyle_parse.proofs.Characters.Encoding.{encode_one}
use Rattle.anstyle_parse.proofs.Characters.Layout.{IsUtf8-front, IsUtf8-byte}
use Rattle.html_urls.specs.declared.linking.Linking.{Linking}
use Rattle.html_urls.specs.Addresses.{is_of_word, last_of}
use Rattle.html_urls.specs.Colon.{is_no_colon, is_of_scheme, is_end, EndsOff}
use Rattle.html_urls.specs.Linked.{Standing, standing, prints, handed_character, held_character, standing_after, handed_from, standing_at_end}
use Rattle.html_urls.specs.Linker.{performer_in, standing_of, Takes}
use Rattle.html_urls.proofs.AddressLemmas.{last_of-is}
use Rattle.html_urls.proofs.ColonLemmas.{standing-clear, handed-clear, characters-clear}

-- the calls of two texts, one after another, and of one byte
pub text_calls-append : (text more : List ℕ) → IsUtf8 text → text_calls (text ++ more) ≡ text_calls text ++ text_calls more
text_calls-append text more utf8 = ap (map print) (chars-append text more utf8) ∙ map-append print (chars text) (chars more)

pub chars-byte : (b : ℕ) → b < 0x80 → chars (b ∷ []) ≡ b ∷ []
chars-byte b low =
    chars_past_char (b ∷ []) [] b (IsUtf8-byte b low) (sym (append-nil _) ∙ ap (λ (l : List ℕ). l ++ []) (sym (encode_one b low))) ∙ ap (λ (l : List ℕ). b ∷ l) chars-nil

-- no link is opened by what is printed, and in a link it is handed on as it is
pub unlinked-prints : (cs : List ℕ) (at : Standing) → at.is_linked ≡ false → (standing_at_end at (prints cs)).is_linked ≡ false
unlinked-prints [] at unlinked = unlinked
unlinked-prints (c ∷ cs) at unlinked = unlinked-prints cs (standing_after at (print c)) (by at.is_linked unlinked)
  where
    by : (t : Bool) → t ≡ false → (if t then at else standing (held_character at c) (is_of_word c) false).is_linked ≡ false
    by true is = unlinked
    by false is = refl

pub handed-linked : (cs : List ℕ) (at : Standing) → at.is_linked ≡ true → handed_from at (prints cs) ≡ prints cs
handed-linked [] at linked = refl
handed-linked (c ∷ cs) at linked =
    ap₂ (λ (l : List Call) (s : Standing). l ++ handed_from s (prints cs)) (ap (λ (t : Bool). if t then print c ∷ [] else handed_character at c) linked)
    (ap (λ (t : Bool). if t then at else standing (held_character at c) (is_of_word c) false) linked)
    ∙ ap (λ (l : List Call). print c ∷ l) (handed-linked cs at linked)

pub standing-linked : (cs : List ℕ) (at : Standing) → at.is_linked ≡ true → standing_at_end at (prints cs) ≡ at
standing-linked [] at linked = refl
standing-linked (c ∷ cs) at linked =
    ap (λ (s : Standing). standing_at_end s (prints cs)) (ap (λ (t : Bool). if t then at else standing (held_character at c) (is_of_word c) false) linked)
    ∙ standing-linked cs at linked

-- a text that ends with a character that is none of a scheme, without a colon, where nothing is held
module _ {P : Type 0} (receives : P → List Call → P → Type 0) (old new : Linking P) (front rest : List ℕ) (last : ℕ)
    (utf8 : IsUtf8 front) (joined : front ≡ rest ++ last ∷ []) (ends : EndsOff front) (clear : EachIs is_no_colon front) where
  is_last : is_end last ≡ true
  is_last =
      ⊎_elim
      (λ (none : front ≡ []). absurd (never rest (sym none ∙ joined)))
      (λ (some : (before : List ℕ) × (b : ℕ) × (front ≡ before ++ b ∷ []) × (is_end b ≡ true)).
      let (before, b, whole, is) = some in
      subst (λ (k : ℕ). is_end k ≡ true) (sym (last_of-is before b) ∙ ap last_of (sym whole ∙ joined) ∙ last_of-is rest last) is)
      ends
    where
      never : (l : List ℕ) → [] ≡ l ++ last ∷ [] → ⊥
      never [] is = cc is
      never (x ∷ l) is = cc is

  parts : (nat_lt last 0x80 ≡ true) × (not (is_of_scheme last) ≡ true)
  parts = and_parts (nat_lt last 0x80) (not (is_of_scheme last)) is_last

  low : last < 0x80
  low = ltb-true last 0x80 parts.0

  rest_utf8 : IsUtf8 rest
  rest_utf8 = IsUtf8-front front rest last [] joined utf8 low

  characters : text_calls front ≡ prints (chars rest ++ last ∷ [])
  characters = ap (map print) (ap chars joined ∙ chars-append rest (last ∷ []) rest_utf8 ∙ ap (λ (l : List ℕ). chars rest ++ l) (chars-byte last low))

  each : EachIs is_no_colon rest × EachIs is_no_colon (last ∷ [])
  each = EachIs-parts is_no_colon rest (last ∷ []) (subst (EachIs is_no_colon) joined clear)

  pub front-taken : (standing_of old).held ≡ [] → (standing_of old).is_linked ≡ false
      → standing_of new ≡ standing (standing_of old).held (is_of_word last) (standing_of old).is_linked
      → receives (performer_in old) (text_calls front) (performer_in new) → Takes receives old (text_calls front) new
  front-taken empty unlinked stands printed =
      let within = (standing_of old).is_within in
      let at : standing_of old ≡ standing [] within false = ap₂ (λ (held : List ℕ) (l : Bool). standing held within l) empty unlinked in
      let calls = prints (chars rest ++ last ∷ []) in
      let before = characters-clear rest rest_utf8 each.0 in
      let other = not-true (is_of_scheme last) parts.1 in
      record {
        standing = stands
            ∙ ap₂ (λ (held : List ℕ) (l : Bool). standing held (is_of_word last) l) empty unlinked
            ∙ sym (ap₂ (λ (it : Standing) (made : List Call). standing_at_end it made) at characters ∙ standing-clear (chars rest) last within before other each.1.0);
        received = subst (λ (made : List Call). receives (performer_in old) made (performer_in new))
            (sym (ap₂ (λ (it : Standing) (made : List Call). handed_from it made) at characters ∙ handed-clear (chars rest) last within before other each.1.0 ∙ sym characters))
            printed;
      }
