-- What is left of the calls of a stream is text.
use Rattle.std.proofs.Common.{◌≡◌, ◌≤◌, ℕ, Bool, true, false, ◌||◌, eqb, List, [], ◌∷◌, refl, sym, ap, subst, ⊎_elim, arith}
use Rattle.std.specs.Prelude.{encode_utf8, nat_le, if◌then◌else◌}
use Rattle.std.specs.List.{AllByRecursion}
use Rattle.std.proofs.lemmas.Bool.{le-leb, or_left, or_cases, eqb-true, cases_lt}
use Rattle.anstyle_parse.specs.Stream.Bytes.{is_within}
use Rattle.anstyle_parse.specs.Stream.Call.{Call, print, execute, hook, put, unhook, osc_dispatch, csi_dispatch, esc_dispatch}
use Rattle.anstyle_parse.specs.Laws.Lawful.{is_character}
use Rattle.anstyle_parse.proofs.Characters.Encoding.{encode_one, within_parts}
use Rattle.ansi_strip.specs.Strip.{is_layout, stripped_call}
use Rattle.ansi_strip.proofs.Showable.{IsShowable}
use Rattle.ansi_html.proofs.HtmlLemmas.{AreHigh, AreHigh-encode}

-- a byte of text, with a meaning in HTML or without
unfoldable pub is_textual : ℕ → Bool
is_textual b = nat_le 0x20 b || (eqb b 0x09 || (eqb b 0x0D || eqb b 0x0A))

abbrev pub AreTextual : List ℕ → Type 0
AreTextual bytes = AllByRecursion (λ b. is_textual b ≡ true) bytes

textual_above : (b : ℕ) → 0x20 ≤ b → is_textual b ≡ true
unfolding is_textual
textual_above b low = or_left (nat_le 0x20 b) _ (le-leb 0x20 b low)

-- bytes that are no C0 controls
abbrev pub ArePrinted : List ℕ → Type 0
ArePrinted bytes = AllByRecursion (λ b. 0x20 ≤ b) bytes

ArePrinted-high : (bytes : List ℕ) → AreHigh bytes → ArePrinted bytes
ArePrinted-high [] high = tt
ArePrinted-high (b ∷ bytes) high = (omega (arith, high.0), ArePrinted-high bytes high.1)

pub AreTextual-printed : (bytes : List ℕ) → ArePrinted bytes → AreTextual bytes
AreTextual-printed [] printed = tt
AreTextual-printed (b ∷ bytes) printed = (textual_above b printed.0, AreTextual-printed bytes printed.1)

character_low : (c : ℕ) → is_character c ≡ true → 0x20 ≤ c
unfolding is_character
character_low c is =
    ⊎_elim (λ h. (within_parts 0x20 0xD7FF c h).0) (λ h. omega (arith, (within_parts 0xE000 0x10FFFF c h).0))
    (or_cases (is_within 0x20 0xD7FF c) (is_within 0xE000 0x10FFFF c) is)

pub ArePrinted-encode : (c : ℕ) → is_character c ≡ true → ArePrinted (encode_utf8 c)
ArePrinted-encode c is =
    ⊎_elim
    (λ k. subst ArePrinted (sym (encode_one c k)) (character_low c is, tt))
    (λ k. ArePrinted-high (encode_utf8 c) (AreHigh-encode c k))
    (cases_lt c 0x80)

textual_layout : (b : ℕ) → is_layout b ≡ true → is_textual b ≡ true
unfolding is_textual
textual_layout b is =
    ⊎_elim
    (λ either. ⊎_elim
    (λ h. ap is_textual (eqb-true b 0x09 h))
    (λ h. ap is_textual (eqb-true b 0x0A h))
    (or_cases (eqb b 0x09) (eqb b 0x0A) either))
    (λ h. ap is_textual (eqb-true b 0x0D h))
    (or_cases (eqb b 0x09 || eqb b 0x0A) (eqb b 0x0D) is)

AreTextual-executed : (b : ℕ) (layout : Bool) → is_layout b ≡ layout → AreTextual (if layout then b ∷ [] else [])
AreTextual-executed b true is = (textual_layout b is, tt)
AreTextual-executed b false is = tt

pub AreTextual-stripped : (call : Call) → IsShowable call → AreTextual (stripped_call call)
AreTextual-stripped (print c) is = AreTextual-printed (encode_utf8 c) (ArePrinted-encode c is)
AreTextual-stripped (execute b) is = AreTextual-executed b (is_layout b) refl
AreTextual-stripped (hook gs is ig f) h = tt
AreTextual-stripped (put b) h = tt
AreTextual-stripped unhook h = tt
AreTextual-stripped (osc_dispatch parts bell) h = tt
AreTextual-stripped (csi_dispatch gs is ig f) h = tt
AreTextual-stripped (esc_dispatch is ig f) h = tt
