-- The HTML of a text with layout is that of its bytes.
use Rattle.std.proofs.Common.{◌≡◌, ◌<◌, ◌≤◌, ℕ, Bool, true, false, eqb, List, [], ◌∷◌, ◌++◌, length, map, ⊎_elim, refl, sym, ap, ap₂, ◌∙◌, subst, append_assoc, append-nil, arith}
use Rattle.std.specs.Prelude.{◌||◌, encode_utf8}
use Rattle.std.specs.Str.{IsUtf8, chars, encode_utf8_all}
use Rattle.std.proofs.lemmas.Bool.{ne_eqb, cases_lt, or_parts}
use Rattle.std.proofs.lemmas.Str.{encodes-chars}
use Rattle.anstyle_parse.specs.declared.io.devices.Sink.{Ghosts as SinkOf}
use Rattle.anstyle_parse.specs.Stream.Texts.{is_layout, layout_call, layout_calls}
use Rattle.anstyle_parse.specs.Io.Output.{Adds}
use Rattle.anstyle_parse.proofs.Written.Output.{Adds-nil, Adds-append}
use Rattle.anstyle_parse.proofs.Characters.Encoding.{encode_one}
use Rattle.anstyle_parse.proofs.Characters.Layout.{layout-low, layout_call-layout, layout_call-other}
use Rattle.anstyle_parse.proofs.Characters.Scalars.{length-encode-some}
use Rattle.ansi_html.specs.declared.performer.HtmlWriter.{HtmlWriter}
use Rattle.ansi_html.specs.declared.scheme.Styling.{Styling}
use Rattle.ansi_html.specs.Grammar.{AreClear}
use Rattle.ansi_html.specs.Html.{escaped, escaped_text, Element, Standing, beginning, call_html, standing_after, html_from, standing_at_end}
use Rattle.ansi_html.specs.Writer.{output_of, styling_of, standing_of, in_element, bytes_html, standing_after_bytes, TakesBytes, TakesAll}
use Rattle.ansi_html.proofs.HtmlLemmas.{AreHigh, AreHigh-encode, AreClear-high, escaped-clear, escaped_text-clear, not_return-clear, call_html-print, standing_after-print, call_html-layout, standing_after-layout, change-same}

-- two texts, one after another
bytes_html-append : (styling : Styling) (front back : List ℕ) (at : Standing)
    → bytes_html styling at (front ++ back) ≡ bytes_html styling at front ++ bytes_html styling (standing_after_bytes at front) back
bytes_html-append styling [] back at = refl
bytes_html-append styling (b ∷ front) back at =
    let text = beginning styling at (eqb b 0x0A) ++ escaped b in
    let after = in_element at.selected (eqb b 0x0D) in
    ap (λ l. text ++ l) (bytes_html-append styling front back after)
    ∙ sym (append_assoc text (bytes_html styling after front) (bytes_html styling (standing_after_bytes after front) back))

standing_after_bytes-append : (front back : List ℕ) (at : Standing)
    → standing_after_bytes at (front ++ back) ≡ standing_after_bytes (standing_after_bytes at front) back
standing_after_bytes-append [] back at = refl
standing_after_bytes-append (b ∷ front) back at = standing_after_bytes-append front back (in_element at.selected (eqb b 0x0D))

module _ {W : Type 0} (sink : SinkOf W) where
  pub TakesBytes-none : (performer : HtmlWriter W) → TakesBytes sink performer [] performer
  TakesBytes-none performer = record { styling = refl; standing = refl; added = Adds-nil sink (output_of performer) }

  pub TakesBytes-append : (old middle new : HtmlWriter W) (front back : List ℕ) → TakesBytes sink old front middle → TakesBytes sink middle back new
      → TakesBytes sink old (front ++ back) new
  TakesBytes-append old middle new front back first second =
      let styling = styling_of old in
      let at = standing_of old in
      record {
        styling = second.styling ∙ first.styling;
        standing = second.standing ∙ ap (λ it. standing_after_bytes it back) first.standing ∙ sym (standing_after_bytes-append front back at);
        added = subst (λ t. Adds sink t (output_of old) (output_of new))
            (ap₂ (λ it after. bytes_html styling at front ++ bytes_html it after back) first.styling first.standing ∙ sym (bytes_html-append styling front back at))
            (Adds-append sink (bytes_html styling at front) (bytes_html (styling_of middle) (standing_of middle) back) (output_of old) (output_of middle) (output_of new) first.added second.added);
      }

-- bytes with no meaning in HTML, behind text of their element
module _ (styling : Styling) (it : Element) where
  pub bytes_html-same : (bytes : List ℕ) → AreClear bytes → bytes_html styling (in_element it false) bytes ≡ bytes
  bytes_html-same [] clear = refl
  bytes_html-same (b ∷ bytes) clear =
      ap₂ (λ text after. text ++ bytes_html styling (in_element it after) bytes)
      (ap₂ (λ changed text. (changed ++ []) ++ text) (change-same styling it) (escaped-clear b clear.0)) (not_return-clear b clear.0)
      ∙ ap (λ l. b ∷ l) (bytes_html-same bytes clear.1)

  pub standing_after_bytes-same : (bytes : List ℕ) → AreClear bytes → standing_after_bytes (in_element it false) bytes ≡ in_element it false
  standing_after_bytes-same [] clear = refl
  standing_after_bytes-same (b ∷ bytes) clear =
      ap (λ after. standing_after_bytes (in_element it after) bytes) (not_return-clear b clear.0) ∙ standing_after_bytes-same bytes clear.1

-- bytes with no meaning in HTML
module _ (styling : Styling) (at : Standing) (b : ℕ) (bytes : List ℕ) (clear : AreClear (b ∷ bytes)) where
  pub bytes_html-clear : bytes_html styling at (b ∷ bytes) ≡ beginning styling at (eqb b 0x0A) ++ (b ∷ bytes)
  bytes_html-clear =
      ap₂ (λ text after. (beginning styling at (eqb b 0x0A) ++ text) ++ bytes_html styling (in_element at.selected after) bytes)
      (escaped-clear b clear.0) (not_return-clear b clear.0)
      ∙ ap (λ l. (beginning styling at (eqb b 0x0A) ++ b ∷ []) ++ l) (bytes_html-same styling at.selected bytes clear.1)
      ∙ append_assoc (beginning styling at (eqb b 0x0A)) (b ∷ []) bytes

  pub standing_after_bytes-clear : standing_after_bytes at (b ∷ bytes) ≡ in_element at.selected false
  standing_after_bytes-clear =
      ap (λ after. standing_after_bytes (in_element at.selected after) bytes) (not_return-clear b clear.0) ∙ standing_after_bytes-same styling at.selected bytes clear.1

-- a character, as its call and as its bytes
module _ (styling : Styling) (at : Standing) where
  -- These bytes are written as the call is.
  abbrev Same : ℕ → List ℕ → Type 0
  Same c bytes = (call_html styling at (layout_call c) ≡ bytes_html styling at bytes) × (standing_after (layout_call c) at ≡ standing_after_bytes at bytes)

  same-layout : (c : ℕ) → is_layout c ≡ true → Same c (c ∷ [])
  same-layout c is = (
    ap (call_html styling at) (layout_call-layout c is) ∙ call_html-layout styling at c is ∙ sym (append-nil (beginning styling at (eqb c 0x0A) ++ escaped c)),
    ap (λ call. standing_after call at) (layout_call-layout c is) ∙ standing_after-layout styling at c is,
  )

  same-high : (c : ℕ) (bytes : List ℕ) → encode_utf8 c ≡ bytes → is_layout c ≡ false → AreHigh bytes → 0 < length bytes → Same c bytes
  same-high c [] encoded other high some = absurd (omega arith)
  same-high c (b ∷ bytes) encoded other high some =
      let clear = AreClear-high (b ∷ bytes) high in (
        ap (call_html styling at) (layout_call-other c other) ∙ call_html-print styling at c
            ∙ ap (λ l. beginning styling at false ++ escaped_text l) encoded
            ∙ ap (λ l. beginning styling at false ++ l) (escaped_text-clear (b ∷ bytes) clear)
            ∙ ap (λ is. beginning styling at is ++ (b ∷ bytes)) (sym (ne_eqb b 0x0A (let far = high.0 in omega arith)))
            ∙ sym (bytes_html-clear styling at b bytes clear),
        ap (λ call. standing_after call at) (layout_call-other c other) ∙ standing_after-print styling at c ∙ sym (standing_after_bytes-clear styling at b bytes clear),
      )

  same-low : (c : ℕ) → c < 0x80 → is_layout c ≡ false → Same c (c ∷ [])
  same-low c low other =
      let parts = or_parts (eqb c 0x09 || eqb c 0x0A) (eqb c 0x0D) other in (
        ap (call_html styling at) (layout_call-other c other) ∙ call_html-print styling at c
            ∙ ap (λ l. beginning styling at false ++ escaped_text l) (encode_one c low)
            ∙ sym (append_assoc (beginning styling at false) (escaped c) [])
            ∙ ap (λ is. (beginning styling at is ++ escaped c) ++ []) (sym (or_parts (eqb c 0x09) (eqb c 0x0A) parts.0).1),
        ap (λ call. standing_after call at) (layout_call-other c other) ∙ standing_after-print styling at c
            ∙ ap (in_element at.selected) (sym parts.1),
      )

  same : (c : ℕ) → Same c (encode_utf8 c)
  same c = by_case (is_layout c) refl
    where
      by_case : (layout : Bool) → is_layout c ≡ layout → Same c (encode_utf8 c)
      by_case true is = let low = layout-low c is in subst (Same c) (sym (encode_one c (omega arith))) (same-layout c is)
      by_case false other =
          ⊎_elim
          (λ (low : c < 0x80). subst (Same c) (sym (encode_one c low)) (same-low c low other))
          (λ (high : 0x80 ≤ c). same-high c (encode_utf8 c) refl other (AreHigh-encode c high) (length-encode-some c))
          (cases_lt c 0x80)

-- characters, as their calls and as their bytes
module _ (styling : Styling) where
  pub html_from-characters : (cs : List ℕ) (at : Standing) → html_from styling at (map layout_call cs) ≡ bytes_html styling at (encode_utf8_all cs)
  html_from-characters [] at = refl
  html_from-characters (c ∷ cs) at =
      let one = same styling at c in
      ap₂ (λ text after. text ++ html_from styling after (map layout_call cs)) one.0 one.1
      ∙ ap (λ l. bytes_html styling at (encode_utf8 c) ++ l) (html_from-characters cs (standing_after_bytes at (encode_utf8 c)))
      ∙ sym (bytes_html-append styling (encode_utf8 c) (encode_utf8_all cs) at)

  pub standing_at_end-characters : (cs : List ℕ) (at : Standing) → standing_at_end at (map layout_call cs) ≡ standing_after_bytes at (encode_utf8_all cs)
  standing_at_end-characters [] at = refl
  standing_at_end-characters (c ∷ cs) at =
      ap (λ after. standing_at_end after (map layout_call cs)) (same styling at c).1
      ∙ standing_at_end-characters cs (standing_after_bytes at (encode_utf8 c))
      ∙ sym (standing_after_bytes-append (encode_utf8 c) (encode_utf8_all cs) at)

-- What takes the bytes of a text takes its calls.
pub TakesAll-bytes : {W : Type 0} (sink : SinkOf W) (old new : HtmlWriter W) (text : List ℕ) → IsUtf8 text → TakesBytes sink old text new → TakesAll sink old (layout_calls text) new
TakesAll-bytes sink old new text utf8 taken =
    let styling = styling_of old in
    let at = standing_of old in
    let encoded = sym (encodes-chars text utf8) in
    record {
      styling = taken.styling;
      standing = taken.standing ∙ ap (standing_after_bytes at) encoded ∙ sym (standing_at_end-characters styling (chars text) at);
      added = subst (λ t. Adds sink t (output_of old) (output_of new))
          (ap (bytes_html styling at) encoded ∙ sym (html_from-characters styling (chars text) at)) taken.added;
    }
