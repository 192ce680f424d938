-- Texts that are written at once.
use Rattle.std.proofs.Common.{◌≡◌, ℕ, arith, Bool, true, false, cond, List, [], ◌∷◌, ◌++◌, map, refl, sym, ap₂, ◌∙◌}
use Rattle.std.specs.Prelude.{encode_utf8}
use Rattle.std.specs.List.{flat_map}
use Rattle.std.specs.Str.{IsUtf8, chars, encode_utf8_all}
use Rattle.std.proofs.lemmas.Str.{encodes-chars}
use Rattle.anstyle_parse.specs.Stream.Call.{Call, print, execute}
use Rattle.anstyle_parse.specs.Stream.Texts.{text_calls, is_layout, layout_call, layout_calls}
use Rattle.anstyle_parse.proofs.Characters.Encoding.{encode_one}
use Rattle.anstyle_parse.proofs.Characters.Layout.{layout-low}

-- what is written of a text's calls, where a printed character is written in UTF-8, is the text
module _ (text_of : Call → List ℕ) (encodes : (c : ℕ) → text_of (print c) ≡ encode_utf8 c) where
  flat_map-prints : (cs : List ℕ) → flat_map text_of (map print cs) ≡ encode_utf8_all cs
  flat_map-prints [] = refl
  flat_map-prints (c ∷ cs) = ap₂ (λ x xs. x ++ xs) (encodes c) (flat_map-prints cs)

  pub flat_map-text_calls : (text : List ℕ) → IsUtf8 text → flat_map text_of (text_calls text) ≡ text
  flat_map-text_calls text utf8 = flat_map-prints (chars text) ∙ encodes-chars text utf8

  -- and of a text with layout, where such a control is written as it is
  module _ (lays_out : (b : ℕ) → is_layout b ≡ true → text_of (execute b) ≡ b ∷ []) where
    pub text_of-layout_call : (c : ℕ) (layout : Bool) → is_layout c ≡ layout → text_of (cond layout (execute c) (print c)) ≡ encode_utf8 c
    text_of-layout_call c true is = let low = layout-low c is in lays_out c is ∙ sym (encode_one c (omega arith))
    text_of-layout_call c false is = encodes c

    flat_map-layout : (cs : List ℕ) → flat_map text_of (map layout_call cs) ≡ encode_utf8_all cs
    flat_map-layout [] = refl
    flat_map-layout (c ∷ cs) = ap₂ (λ x xs. x ++ xs) (text_of-layout_call c (is_layout c) refl) (flat_map-layout cs)

    pub flat_map-layout_calls : (text : List ℕ) → IsUtf8 text → flat_map text_of (layout_calls text) ≡ text
    flat_map-layout_calls text utf8 = flat_map-layout (chars text) ∙ encodes-chars text utf8
