-- The HTML of a text that is printed at once.
use Rattle.std.proofs.Common.{◌≡◌, ◌<◌, ℕ, zero, suc, false, eqb, List, [], ◌∷◌, ◌++◌, length, map, refl, sym, ap, ap₂, ◌∙◌, append_assoc, arith}
use Rattle.std.specs.Prelude.{encode_utf8}
use Rattle.std.specs.Str.{IsUtf8, chars, encode_utf8_all}
use Rattle.std.proofs.lemmas.Grind.{flat_map-append}
use Rattle.std.proofs.lemmas.Str.{encodes-chars}
use Rattle.anstyle_parse.specs.Stream.Call.{print}
use Rattle.anstyle_parse.specs.Stream.Texts.{text_calls}
use Rattle.ansi_html.specs.declared.scheme.Styling.{Styling}
use Rattle.ansi_html.specs.Html.{escaped, escaped_text, Element, Standing, beginning, html_from, standing_at_end}
use Rattle.ansi_html.specs.Writer.{in_element}
use Rattle.ansi_html.proofs.HtmlLemmas.{call_html-print, standing_after-print, change-same}

-- the test whether there is text
pub some_from_test : (n : ℕ) → eqb n 0 ≡ false → 0 < n
some_from_test zero test = cc
some_from_test (suc n) test = omega arith

-- more text of an element behind text of it
module _ (styling : Styling) (element : Element) where
  html_from-same : (cs : List ℕ) → html_from styling (in_element element false) (map print cs) ≡ escaped_text (encode_utf8_all cs)
  html_from-same [] = refl
  html_from-same (c ∷ cs) =
      let at = in_element element false in
      ap₂ (λ text after. text ++ html_from styling after (map print cs))
      (call_html-print styling at c ∙ ap (λ l. (l ++ []) ++ escaped_text (encode_utf8 c)) (change-same styling element)) (standing_after-print styling at c)
      ∙ ap (λ l. escaped_text (encode_utf8 c) ++ l) (html_from-same cs) ∙ sym (flat_map-append escaped (encode_utf8 c) (encode_utf8_all cs))

  standing_at_end-same : (cs : List ℕ) → standing_at_end (in_element element false) (map print cs) ≡ in_element element false
  standing_at_end-same [] = refl
  standing_at_end-same (c ∷ cs) =
      ap (λ after. standing_at_end after (map print cs)) (standing_after-print styling (in_element element false) c) ∙ standing_at_end-same cs

-- a text
module _ (styling : Styling) (at : Standing) where
  html_from-prints : (cs : List ℕ) → 0 < length (encode_utf8_all cs) → html_from styling at (map print cs) ≡ beginning styling at false ++ escaped_text (encode_utf8_all cs)
  html_from-prints [] some = absurd (omega arith)
  html_from-prints (c ∷ cs) some =
      ap₂ (λ text after. text ++ html_from styling after (map print cs)) (call_html-print styling at c) (standing_after-print styling at c)
      ∙ ap (λ l. (beginning styling at false ++ escaped_text (encode_utf8 c)) ++ l) (html_from-same styling at.selected cs)
      ∙ append_assoc (beginning styling at false) (escaped_text (encode_utf8 c)) (escaped_text (encode_utf8_all cs))
      ∙ ap (λ l. beginning styling at false ++ l) (sym (flat_map-append escaped (encode_utf8 c) (encode_utf8_all cs)))

  standing_at_end-prints : (cs : List ℕ) → 0 < length (encode_utf8_all cs) → standing_at_end at (map print cs) ≡ in_element at.selected false
  standing_at_end-prints [] some = absurd (omega arith)
  standing_at_end-prints (c ∷ cs) some =
      ap (λ after. standing_at_end after (map print cs)) (standing_after-print styling at c) ∙ standing_at_end-same styling at.selected cs

  module _ (text : List ℕ) (utf8 : IsUtf8 text) (some : 0 < length text) where
    some_characters : 0 < length (encode_utf8_all (chars text))
    some_characters = omega (arith, ap length (encodes-chars text utf8))

    pub html_from-text : html_from styling at (text_calls text) ≡ beginning styling at false ++ escaped_text text
    html_from-text = html_from-prints (chars text) some_characters ∙ ap (λ t. beginning styling at false ++ escaped_text t) (encodes-chars text utf8)

    pub standing_at_end-text : standing_at_end at (text_calls text) ≡ in_element at.selected false
    standing_at_end-text = standing_at_end-prints (chars text) some_characters
