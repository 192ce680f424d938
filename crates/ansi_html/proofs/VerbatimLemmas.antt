-- Verbatim text leaves the machine at the beginning of a stream, and is its own HTML in the midst of an element.
use Rattle.std.proofs.Common.{◌≡◌, ◌<◌, ◌≤◌, ℕ, Bool, true, false, ◌||◌, eqb, ltb, List, [], ◌∷◌, ◌++◌, map, IsTrue, ⊎_elim, refl, sym, ap, ap₂, ◌∙◌, arith}
use Rattle.std.specs.Prelude.{not, nat_le}
use Rattle.std.specs.Str.{encode_utf8_all}
use Rattle.std.proofs.lemmas.Bool.{and_parts, or_cases, or_left, leb-true, ltb-true, false≢true}
use Rattle.anstyle_parse.specs.declared.state.definitions.State.TheVariants.{Anywhere, Ground}
use Rattle.anstyle_parse.specs.declared.state.definitions.Action.TheVariants.{Execute, Print}
use Rattle.anstyle_parse.specs.Stream.Items.{EachIs}
use Rattle.anstyle_parse.specs.Stream.Texts.{is_layout, layout_call}
use Rattle.anstyle_parse.specs.Machine.Decoder.{decoded}
use Rattle.anstyle_parse.specs.Machine.Table.{◌by◌}
use Rattle.anstyle_parse.specs.Machine.Step.{Machine, new_machine, step, step_calls, machine_after, machine_calls}
use Rattle.anstyle_parse.proofs.Characters.Encoding.{encode_one, within}
use Rattle.anstyle_parse.proofs.Characters.Layout.{layout-low, layout_call-layout, layout_call-other}
use Rattle.anstyle_parse.proofs.Machine.Runs.{KeepsTo-printed, change_at-control, step-by}
use Rattle.ansi_html.specs.declared.scheme.Styling.{Styling}
use Rattle.ansi_html.specs.Grammar.{is_special, is_text_byte, AreClear}
use Rattle.ansi_html.specs.Verbatim.{is_verbatim}
use Rattle.ansi_html.specs.Html.{Element, html_from, standing_at_end}
use Rattle.ansi_html.specs.Writer.{in_element, bytes_html, standing_after_bytes}
use Rattle.ansi_html.proofs.HtmlLemmas.{false-from_not}
use Rattle.ansi_html.proofs.BytesLemmas.{bytes_html-same, standing_after_bytes-same, html_from-characters, standing_at_end-characters}

-- what a byte of verbatim text is: ASCII with no meaning in HTML, from the space on where it is no layout
record IsVerbatim (b : ℕ) : Type 0 where
  ascii : b < 0x80
  clear : is_special b ≡ false
  shown : is_layout b ≡ false → 0x20 ≤ b

IsVerbatim-tested : (b : ℕ) → IsTrue (is_verbatim b) → IsVerbatim b
unfolding is_verbatim is_text_byte
IsVerbatim-tested b is =
    let parts = and_parts (ltb b 0x80) _ is in
    let text = and_parts (nat_le 0x20 b || (eqb b 0x09 || eqb b 0x0A)) (not (is_special b)) parts.1 in
    record {
      ascii = ltb-true b 0x80 parts.0;
      clear = false-from_not (is_special b) text.1;
      shown = λ other.
          ⊎_elim (leb-true 0x20 b)
          (λ layout. absurd (false≢true (sym other ∙ or_left (eqb b 0x09 || eqb b 0x0A) (eqb b 0x0D) layout)))
          (or_cases (nat_le 0x20 b) (eqb b 0x09 || eqb b 0x0A) text.0);
    }

AreClear-verbatim : (bytes : List ℕ) → EachIs is_verbatim bytes → AreClear bytes
AreClear-verbatim [] verbatim = tt
AreClear-verbatim (b ∷ bytes) verbatim = ((IsVerbatim-tested b verbatim.0).clear, AreClear-verbatim bytes verbatim.1)

encodes-verbatim : (bytes : List ℕ) → EachIs is_verbatim bytes → encode_utf8_all bytes ≡ bytes
encodes-verbatim [] verbatim = refl
encodes-verbatim (b ∷ bytes) verbatim =
    ap₂ (λ character text. character ++ text) (encode_one b (IsVerbatim-tested b verbatim.0).ascii) (encodes-verbatim bytes verbatim.1)

-- the machine at the beginning of a stream: a byte of verbatim text is printed or executed, and no more
abbrev first : Machine (List ℕ)
first = new_machine []

step-verbatim : (b : ℕ) → IsVerbatim b → (step decoded b first ≡ first) × (step_calls decoded b first ≡ layout_call b ∷ [])
step-verbatim b verbatim = by_case (is_layout b) refl
  where
    by_case : (layout : Bool) → is_layout b ≡ layout → (step decoded b first ≡ first) × (step_calls decoded b first ≡ layout_call b ∷ [])
    by_case true is =
        let low = layout-low b is in
        let stepped = step-by decoded first b (Anywhere by Execute) (λ inside. absurd (cc)) (change_at-control Ground b refl (omega (arith, low))) in
        (stepped.0, stepped.1 ∙ ap (λ call. call ∷ []) (sym (layout_call-layout b is)))
    by_case false other =
        let printed = (KeepsTo-printed Ground refl).1 b (within 0x20 0x7F b (verbatim.shown other) (omega (arith, verbatim.ascii))) in
        let stepped = step-by decoded first b (Anywhere by Print) (λ inside. absurd (cc)) printed in
        (stepped.0, stepped.1 ∙ ap (λ call. call ∷ []) (sym (layout_call-other b other)))

pub machine-verbatim : (bytes : List ℕ) → EachIs is_verbatim bytes
    → (machine_after decoded bytes (new_machine []) ≡ new_machine []) × (machine_calls decoded bytes (new_machine []) ≡ map layout_call bytes)
machine-verbatim [] verbatim = (refl, refl)
machine-verbatim (b ∷ bytes) verbatim =
    let one = step-verbatim b (IsVerbatim-tested b verbatim.0) in
    let others = machine-verbatim bytes verbatim.1 in (
      ap (machine_after decoded bytes) one.0 ∙ others.0,
      ap₂ (λ calls m. calls ++ machine_calls decoded bytes m) one.1 one.0 ∙ ap (λ calls. layout_call b ∷ calls) others.1,
    )

-- its HTML in the midst of an element, which stays
module _ (styling : Styling) (it : Element) (bytes : List ℕ) (verbatim : EachIs is_verbatim bytes) where
  pub html_from-verbatim : html_from styling (in_element it false) (map layout_call bytes) ≡ bytes
  html_from-verbatim =
      html_from-characters styling bytes (in_element it false)
      ∙ ap (bytes_html styling (in_element it false)) (encodes-verbatim bytes verbatim)
      ∙ bytes_html-same styling it bytes (AreClear-verbatim bytes verbatim)

  pub standing_at_end-verbatim : standing_at_end (in_element it false) (map layout_call bytes) ≡ in_element it false
  standing_at_end-verbatim =
      standing_at_end-characters styling bytes (in_element it false)
      ∙ ap (standing_after_bytes (in_element it false)) (encodes-verbatim bytes verbatim)
      ∙ standing_after_bytes-same styling it bytes (AreClear-verbatim bytes verbatim)
