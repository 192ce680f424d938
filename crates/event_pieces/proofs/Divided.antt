-- A short text, divided by the layout in it.
use Rattle.std.proofs.Common.{◌≡◌, ◌<◌, ◌+◌, ℕ, true, List, [], ◌∷◌, ◌++◌, length, take, drop, get_or, sym, ap, ◌∙◌, subst, arith, take-append-drop, length-drop}
use Rattle.std.specs.Prelude.{not, IsTrue}
use Rattle.std.specs.Str.{IsUtf8}
use Rattle.std.proofs.Math.Seq.{take-add}
use Rattle.std.proofs.lemmas.List.{take_more, get_or-drop}
use Rattle.anstyle_parse.specs.Stream.Call.{Call, execute}
use Rattle.anstyle_parse.specs.Stream.Items.{EachIs}
use Rattle.anstyle_parse.specs.Stream.Texts.{text_calls, is_layout, layout_calls}
use Rattle.anstyle_parse.specs.Views.Texts.{is_text_byte}
use Rattle.anstyle_parse.proofs.Bytes.Passing.{EachIs-parts}
use Rattle.anstyle_parse.proofs.Characters.Layout.{layout_calls-printed, receives-printed, receives-layout}
use Rattle.anstyle_parse.proofs.Characters.Layout.{IsUtf8-text_bytes}
use Rattle.event_pieces.specs.declared.writer.EventWriter.{EventWriter}
use Rattle.event_pieces.specs.Writer.{Adds}
use Rattle.event_pieces.specs.AddingProof.{Adds-none, Adds-more}

abbrev receives : EventWriter → List Call → EventWriter → Type 0
receives = λ old calls new. Adds calls old new

module _ (text : List ℕ) (each : EachIs is_text_byte text) where
  -- each part of it is UTF-8
  each-before : (n : ℕ) → EachIs is_text_byte (take n text)
  each-before n = (EachIs-parts is_text_byte (take n text) (drop n text) (subst (EachIs is_text_byte) (sym (take-append-drop n text)) each)).0

  pub IsUtf8-before : (n : ℕ) → IsUtf8 (take n text)
  IsUtf8-before n = IsUtf8-text_bytes (take n text) (each-before n)

  IsUtf8-part : (place n : ℕ) → IsUtf8 (take n (drop place text))
  IsUtf8-part place n =
      let parts = subst (EachIs is_text_byte) (take-add place n text) (each-before (place + n)) in
      IsUtf8-text_bytes (take n (drop place text)) (EachIs-parts is_text_byte (take place text) (take n (drop place text)) parts).1

  -- the text before the first layout
  pub Adds-before : (n : ℕ) (old new : EventWriter) → EachIs (λ b. not (is_layout b)) (take n text) → Adds (text_calls (take n text)) old new
      → Adds (layout_calls (take n text)) old new
  Adds-before n old new shown adds = subst (λ calls. Adds calls old new) (sym (layout_calls-printed (take n text) (IsUtf8-before n) shown)) adds

  -- what stands behind a control
  module _ (at n : ℕ) (behind : List ℕ) (short : at < length text) (are : behind ≡ drop (at + 1) text) where
    pub IsUtf8-behind : IsUtf8 (take n behind)
    IsUtf8-behind = subst (λ l. IsUtf8 (take n l)) (sym are) (IsUtf8-part (at + 1) n)

    pub ends-behind : (n < length behind → IsTrue (is_layout (get_or behind n 0))) → at + (1 + n) < length text → IsTrue (is_layout (get_or text (at + (1 + n)) 0))
    ends-behind ends more =
        let place : at + 1 + n ≡ at + (1 + n) = omega arith in
        let same : get_or behind n 0 ≡ get_or text (at + (1 + n)) 0 = ap (λ l. get_or l n 0) are ∙ get_or-drop (at + 1) text n 0 ∙ ap (λ k. get_or text k 0) place in
        subst (λ b. IsTrue (is_layout b)) same (ends (omega (arith, more, ap length are, length-drop (at + 1) text)))

    -- the control is executed, and the text behind it added
    module _ (first old middle new : EventWriter) (added : Adds (layout_calls (take at text)) first old)
        (is : is_layout (get_or text at 0) ≡ true) (executed : Adds (execute (get_or text at 0) ∷ []) old middle)
        (shown : EachIs (λ b. not (is_layout b)) (take n behind)) (printed : Adds (text_calls (take n behind)) middle new) where
      with_control : Adds (layout_calls (take (at + 1) text)) first middle
      with_control =
          subst (λ t. Adds (layout_calls t) first middle) (sym (take_more text at 0 short))
          (receives-layout receives Adds-none Adds-more first old middle (take at text) (IsUtf8-before at) added (get_or text at 0) is executed)

      pub Adds-further : Adds (layout_calls (take (at + (1 + n)) text)) first new
      Adds-further =
          let place : at + 1 + n ≡ at + (1 + n) = omega arith in
          let whole : take (at + 1) text ++ take n behind ≡ take (at + (1 + n)) text =
          ap (λ l. take (at + 1) text ++ take n l) are ∙ sym (take-add (at + 1) n text) ∙ ap (λ k. take k text) place in
          subst (λ t. Adds (layout_calls t) first new) whole
          (receives-printed receives Adds-none Adds-more first middle new (take (at + 1) text) (IsUtf8-before (at + 1)) with_control (take n behind) IsUtf8-behind shown printed)
