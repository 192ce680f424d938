-- Of characters without a colon none is part of an address yet: they are handed on, or held.
use Rattle.std.proofs.Common.{◌≡◌, ◌<◌, ◌≤◌, ℕ, Bool, true, false, ◌&&◌, ◌||◌, List, [], ◌∷◌, ◌++◌, codes, length, take, drop, refl, sym, ap, ap₂, ◌∙◌, subst, append_assoc, append-nil, take-append-drop, arith, ⊎_elim}
use Rattle.std.specs.Prelude.{encode_utf8, nat_eq, nat_lt, not, ◌==◌, if◌then◌else◌}
use Rattle.std.specs.List.{starts_with}
use Rattle.std.specs.Char.{to_ascii_lowercase}
use Rattle.std.specs.Str.{IsUtf8, chars, encode_utf8_all}
use Rattle.std.proofs.lemmas.Bool.{or_cases, not-true, cases_lt, ne_eqb, false≢true}
use Rattle.std.proofs.lemmas.Bool.Decides.{Decides-eqb}
use Rattle.std.proofs.lemmas.List.{map-append}
use Rattle.std.proofs.lemmas.Slice.Eq.{starts_is}
use Rattle.std.proofs.lemmas.Str.{encodes-chars}
use Rattle.anstyle_parse.specs.Stream.Call.{Call, print}
use Rattle.anstyle_parse.specs.Stream.Items.{EachIs}
use Rattle.anstyle_parse.proofs.Bytes.Passing.{EachIs-append, EachIs-parts}
use Rattle.anstyle_parse.proofs.Characters.Encoding.{encode_one}
use Rattle.ansi_html.specs.Links.{has_scheme}
use Rattle.html_urls.specs.Addresses.{is_of_word, is_of_address, in_small, says_scheme, begins_scheme, max_held, goes_on, address_of, address_length, behind_address, is_address, target_of, fits}
use Rattle.html_urls.specs.Linked.{Standing, standing, prints, released, released_as, begins, handed_character, held_character, standing_after, handed_from, standing_at_end}
use Rattle.html_urls.specs.LinkerProof.{standing_at_end-append}
use Rattle.html_urls.specs.Colon.{is_no_colon, is_of_small, is_of_scheme}
use Rattle.html_urls.proofs.CaseLemmas.{colon-small, each-in_small}
use Rattle.html_urls.proofs.SchemeLemmas.{begins-not}

-- a text without a colon has no scheme
no_small : (text : List ℕ) → EachIs is_no_colon text → has_scheme text ≡ false
unfolding has_scheme
no_small text each = by (has_scheme text) refl
  where
    front : (scheme : List ℕ) → starts_with nat_eq text scheme ≡ true → EachIs is_no_colon scheme
    front scheme is =
        let whole = (starts_is {E = nat_eq} Decides-eqb text scheme (starts_with nat_eq text scheme) refl).0 is in
        (EachIs-parts is_no_colon scheme (drop (length scheme) text) (subst (EachIs is_no_colon) whole each)).0

    secure : starts_with nat_eq text (codes "https://") ≡ true → true ≡ false
    secure is = absurd (false≢true (front (codes "https://") is).1.1.1.1.1.0)

    plain : starts_with nat_eq text (codes "http://") ≡ true → true ≡ false
    plain is = absurd (false≢true (front (codes "http://") is).1.1.1.1.0)

    mail : starts_with nat_eq text (codes "mailto:") ≡ true → true ≡ false
    mail is = absurd (false≢true (front (codes "mailto:") is).1.1.1.1.1.1.0)

    by : (t : Bool) → has_scheme text ≡ t → t ≡ false
    by true is =
        ⊎_elim secure (λ others. ⊎_elim plain mail (or_cases (starts_with nat_eq text (codes "http://")) (starts_with nat_eq text (codes "mailto:")) others))
        (or_cases (starts_with nat_eq text (codes "https://")) (starts_with nat_eq text (codes "http://") || starts_with nat_eq text (codes "mailto:")) is)
    by false is = refl

no_scheme : (text : List ℕ) → EachIs is_no_colon text → says_scheme text ≡ false
no_scheme text each = no_small (in_small text) (each-in_small is_no_colon colon-small text each)

-- so it is handed on as it is
no_address : (text : List ℕ) → EachIs is_no_colon text → is_address text ≡ false
unfolding is_address
no_address text each = ap (λ (t : Bool). t && not (begins_scheme text)) (no_scheme text each)

pub released-clear : (text : List ℕ) → EachIs is_no_colon text → released text ≡ prints text
released-clear text each =
    let count = address_length (length text) text in
    let parts = EachIs-parts is_no_colon (take count text) (drop count text) (subst (EachIs is_no_colon) (sym (take-append-drop count text)) each) in
    ap (λ (t : Bool). released_as (nat_lt (length text) max_held && (t && fits (target_of (address_of text)))) (address_of text) (behind_address text) text)
    (no_address (address_of text) parts.0)
    ∙ ap (λ (t : Bool). released_as t (address_of text) (behind_address text) text) (never (nat_lt (length text) max_held))
  where
    never : (t : Bool) → (t && false) ≡ false
    never true = refl
    never false = refl

-- a character: what is handed on, and then what is held, is what was held, and it
module _ (at : Standing) (c : ℕ) (each : EachIs is_no_colon at.held) (clear : is_no_colon c ≡ true) where
  held-clear : EachIs is_no_colon (held_character at c)
  held-clear = by (goes_on at.held c) (begins at c)
    where
      by : (on starts : Bool) → EachIs is_no_colon (if on then at.held ++ c ∷ [] else if starts then c ∷ [] else [])
      by true starts = EachIs-append is_no_colon at.held (c ∷ []) each (clear, tt)
      by false true = (clear, tt)
      by false false = tt

  character-clear : handed_character at c ++ prints (held_character at c) ≡ prints at.held ++ print c ∷ []
  character-clear = by (goes_on at.held c) (begins at c)
    where
      by : (on starts : Bool)
          → (if on then [] else released at.held ++ (if starts then [] else print c ∷ [])) ++ prints (if on then at.held ++ c ∷ [] else if starts then c ∷ [] else [])
          ≡ prints at.held ++ print c ∷ []
      by true starts = map-append print at.held (c ∷ [])
      by false true = ap (λ (l : List Call). l ++ print c ∷ []) (append-nil (released at.held) ∙ released-clear at.held each)
      by false false = append-nil (released at.held ++ print c ∷ []) ∙ ap (λ (l : List Call). l ++ print c ∷ []) (released-clear at.held each)

-- and characters, one after another
pub record StaysClear (held cs : List ℕ) (is_within : Bool) : Type 0 where
  pub calls : handed_from (standing held is_within false) (prints cs) ++ prints (standing_at_end (standing held is_within false) (prints cs)).held
      ≡ prints held ++ prints cs
  pub clear : EachIs is_no_colon (standing_at_end (standing held is_within false) (prints cs)).held
  pub unlinked : (standing_at_end (standing held is_within false) (prints cs)).is_linked ≡ false

stays-clear : (cs held : List ℕ) (is_within : Bool) → EachIs is_no_colon held → EachIs is_no_colon cs → StaysClear held cs is_within
stays-clear [] held is_within each clear = record { calls = sym (append-nil (prints held)); clear = each; unlinked = refl }
stays-clear (c ∷ cs) held is_within each clear =
    let at = standing held is_within false in
    let next = held_character at c in
    let after = standing next (is_of_word c) false in
    let here = handed_character at c in
    let more = handed_from after (prints cs) in
    let end = prints (standing_at_end after (prints cs)).held in
    let rest = stays-clear cs next (is_of_word c) (held-clear at c each clear.0) clear.1 in
    record {
      calls = append_assoc here more end
          ∙ ap (λ (l : List Call). here ++ l) rest.calls
          ∙ sym (append_assoc here (prints next) (prints cs))
          ∙ ap (λ (l : List Call). l ++ prints cs) (character-clear at c each clear.0)
          ∙ append_assoc (prints held) (print c ∷ []) (prints cs);
      clear = rest.clear;
      unlinked = rest.unlinked;
    }

-- a character that is none of a scheme, and no colon, ends what is held
abbrev is_either : ℕ → Bool
is_either b = is_of_small b || (b == 0x3A)

module _ (c : ℕ) (other : is_of_scheme c ≡ false) (clear : is_no_colon c ≡ true) where
  neither : is_either (to_ascii_lowercase c) ≡ false
  neither = ap₂ (λ (s t : Bool). s || t) other (not-true (to_ascii_lowercase c == 0x3A) (colon-small c clear))

  begins-none : (text : List ℕ) → begins_scheme (text ++ c ∷ []) ≡ false
  begins-none text =
      begins-not is_either
      (refl, (refl, (refl, (refl, (refl, (refl, (refl, (refl, tt))))))))
      (refl, (refl, (refl, (refl, (refl, (refl, (refl, tt)))))))
      (refl, (refl, (refl, (refl, (refl, (refl, (refl, tt)))))))
      text c neither

  ends : (text : List ℕ) → EachIs is_no_colon text → goes_on text c ≡ false
  ends [] each = refl
  ends (first ∷ text) each =
      ap₂ (λ (scheme starts : Bool). nat_lt (length (first ∷ text)) max_held && (if scheme then is_of_address c else starts)) (no_scheme (first ∷ text) each) (begins-none (first ∷ text))
      ∙ never (nat_lt (length (first ∷ text)) max_held)
    where
      never : (t : Bool) → (t && false) ≡ false
      never true = refl
      never false = refl

  held-ended : (at : Standing) → EachIs is_no_colon at.held → held_character at c ≡ []
  held-ended at each =
      ap₂ (λ (on starts : Bool). if on then at.held ++ c ∷ [] else if not at.is_within && starts then c ∷ [] else []) (ends at.held each) (begins-none [])
      ∙ none (not at.is_within)
    where
      none : (t : Bool) → (if t && false then c ∷ [] else []) ≡ []
      none true = refl
      none false = refl

-- A text that ends with such a character is handed on as it is, where nothing is held.
module _ (before : List ℕ) (c : ℕ) (is_within : Bool) (each : EachIs is_no_colon before) (other : is_of_scheme c ≡ false) (clear : is_no_colon c ≡ true) where
  abbrev start : Standing
  start = standing [] is_within false

  front : StaysClear [] before is_within
  front = stays-clear before [] is_within tt each

  all : StaysClear [] (before ++ c ∷ []) is_within
  all = stays-clear (before ++ c ∷ []) [] is_within tt (EachIs-append is_no_colon before (c ∷ []) each (clear, tt))

  joined : prints (before ++ c ∷ []) ≡ prints before ++ print c ∷ []
  joined = map-append print before (c ∷ [])

  last : (at : Standing) → at.is_linked ≡ false → EachIs is_no_colon at.held → standing_after at (print c) ≡ standing [] (is_of_word c) false
  last at unlinked held =
      ap (λ (t : Bool). if t then at else standing (held_character at c) (is_of_word c) false) unlinked
      ∙ ap (λ (l : List ℕ). standing l (is_of_word c) false) (held-ended c other clear at held)

  pub standing-clear : standing_at_end start (prints (before ++ c ∷ [])) ≡ standing [] (is_of_word c) false
  standing-clear =
      ap (standing_at_end start) joined ∙ standing_at_end-append start (prints before) (print c ∷ [])
      ∙ last (standing_at_end start (prints before)) front.unlinked front.clear

  pub handed-clear : handed_from start (prints (before ++ c ∷ [])) ≡ prints (before ++ c ∷ [])
  handed-clear =
      let calls = handed_from start (prints (before ++ c ∷ [])) in
      sym (append-nil calls) ∙ sym (ap (λ (it : Standing). calls ++ prints it.held) standing-clear) ∙ all.calls

-- the characters of a text whose bytes are no colon are none
no_colon-characters : (cs : List ℕ) → EachIs is_no_colon (encode_utf8_all cs) → EachIs is_no_colon cs
no_colon-characters [] each = tt
no_colon-characters (c ∷ cs) each =
    let parts = EachIs-parts is_no_colon (encode_utf8 c) (encode_utf8_all cs) each in (
      ⊎_elim
          (λ (low : c < 0x80). (subst (EachIs is_no_colon) (encode_one c low) parts.0).0)
          (λ (high : 0x80 ≤ c). ap not (ne_eqb c 0x3A (λ is. omega (arith, is, high))))
          (cases_lt c 0x80),
      no_colon-characters cs parts.1,
    )

pub characters-clear : (text : List ℕ) → IsUtf8 text → EachIs is_no_colon text → EachIs is_no_colon (chars text)
characters-clear text utf8 each = no_colon-characters (chars text) (subst (EachIs is_no_colon) (sym (encodes-chars text utf8)) each)
