-- Styles are the same where what they are made of is.
use Rattle.std.proofs.Common.{◌≡◌, ◌<◌, ℕ, zero, suc, Bool, true, false, List, [], ◌∷◌, get_or, refl, sym, ap, ◌∙◌, arith}
use Rattle.std.specs.Int.{from_le_bytes, w64}
use Rattle.std.proofs.lemmas.Nat.{le_bytes_8}
use mir.Val.{bool_byte}
use Rattle.ansi_style.specs.declared.style.Style.{Style}
use Rattle.screen_html.specs.Attributes.{bit, attributes_of}

-- what `as u8` makes of an attribute
byte_is : (has : Bool) → bool_byte has ≡ bit has
byte_is true = refl
byte_is false = refl

abbrev bytes_of : Style → List ℕ
bytes_of style =
    bool_byte style.bold
    ∷ bool_byte style.dim
    ∷ bool_byte style.italic
    ∷ bool_byte style.blink
    ∷ bool_byte style.reverse
    ∷ bool_byte style.hidden
    ∷ bool_byte style.struck_out
    ∷ bool_byte style.overlined
    ∷ []

pub bytes-are : (style : Style) → from_le_bytes w64 (bytes_of style) ≡ from_le_bytes w64 (attributes_of style)
bytes-are style =
    let bold = byte_is style.bold in
    let dim = byte_is style.dim in
    let italic = byte_is style.italic in
    let blink = byte_is style.blink in
    let reverse = byte_is style.reverse in
    let hidden = byte_is style.hidden in
    let struck_out = byte_is style.struck_out in
    let overlined = byte_is style.overlined in
    let same : bytes_of style ≡ attributes_of style = cc in
    ap (from_le_bytes w64) same

-- attributes that are the same number are the same
bit_same : (a b : Bool) → bit a ≡ bit b → a ≡ b
bit_same true true same = refl
bit_same false false same = refl
bit_same true false same = absurd (omega (arith, same))
bit_same false true same = absurd (omega (arith, same))

bit-below : (has : Bool) → bit has < 256
bit-below true = omega arith
bit-below false = omega arith

below : (style : Style) (i : ℕ) → get_or (attributes_of style) i 0 < 256
below style zero = bit-below style.bold
below style (suc zero) = bit-below style.dim
below style (suc (suc zero)) = bit-below style.italic
below style (suc (suc (suc zero))) = bit-below style.blink
below style (suc (suc (suc (suc zero)))) = bit-below style.reverse
below style (suc (suc (suc (suc (suc zero))))) = bit-below style.hidden
below style (suc (suc (suc (suc (suc (suc zero)))))) = bit-below style.struck_out
below style (suc (suc (suc (suc (suc (suc (suc zero))))))) = bit-below style.overlined
below style (suc (suc (suc (suc (suc (suc (suc (suc i)))))))) = omega arith

-- a style by its fields
abbrev made_of : Style → Style
made_of s = record {
  foreground = s.foreground;
  background = s.background;
  underline = s.underline;
  bold = s.bold;
  dim = s.dim;
  italic = s.italic;
  blink = s.blink;
  reverse = s.reverse;
  hidden = s.hidden;
  struck_out = s.struck_out;
  overlined = s.overlined;
}

module _ (a b : Style) (attributes : from_le_bytes w64 (attributes_of a) ≡ from_le_bytes w64 (attributes_of b)) where
  same_list : attributes_of a ≡ attributes_of b
  same_list = sym (le_bytes_8 (attributes_of a) (from_le_bytes w64 (attributes_of a)) refl (below a) refl)
      ∙ le_bytes_8 (attributes_of b) (from_le_bytes w64 (attributes_of a)) refl (below b) attributes

  same_at : (i : ℕ) → get_or (attributes_of a) i 0 ≡ get_or (attributes_of b) i 0
  same_at i = ap (λ l. get_or l i 0) same_list

  pub style_same : a.underline ≡ b.underline → a.foreground ≡ b.foreground → a.background ≡ b.background → a ≡ b
  style_same underline foreground background =
      let bold = bit_same a.bold b.bold (same_at 0) in
      let dim = bit_same a.dim b.dim (same_at 1) in
      let italic = bit_same a.italic b.italic (same_at 2) in
      let blink = bit_same a.blink b.blink (same_at 3) in
      let reverse = bit_same a.reverse b.reverse (same_at 4) in
      let hidden = bit_same a.hidden b.hidden (same_at 5) in
      let struck_out = bit_same a.struck_out b.struck_out (same_at 6) in
      let overlined = bit_same a.overlined b.overlined (same_at 7) in
      let same : made_of a ≡ made_of b = cc in
      same
