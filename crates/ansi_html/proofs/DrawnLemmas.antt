-- What is drawn of the HTML.
use Rattle.std.proofs.Common.{◌≡◌, ℕ, Bool, true, false, ◌&&◌, eqb, List, [], ◌∷◌, ◌++◌, map, refl, sym, ap, ap₂, ◌∙◌, append-nil, arith}
use Rattle.std.specs.Prelude.{not, if◌then◌else◌}
use Rattle.std.specs.List.{flat_map}
use Rattle.std.proofs.lemmas.Bool.{eqb-true, ne_eqb}
use Rattle.std.proofs.lemmas.Grind.{flat_map-append}
use Rattle.anstyle_parse.specs.Stream.Call.{Call, print, execute, hook, put, unhook, osc_dispatch, csi_dispatch, esc_dispatch}
use Rattle.std.specs.Prelude.{encode_utf8}
use Rattle.ansi_strip.specs.Strip.{is_layout, stripped_call, stripped}
use Rattle.ansi_strip.proofs.Showable.{IsShowable, AreShowable}
use Rattle.ansi_html.specs.declared.scheme.Styling.{Styling}
use Rattle.ansi_html.specs.Html.{Standing, at_start, after_text, is_executed, standing_after, html}
use Rattle.ansi_html.specs.Reader.{Attributes, attributes_of, normalized_from, normalized, text, break, drawn_of, drawn, ends_returned, ends_in_return}
use Rattle.ansi_html.proofs.LawfulText.{ArePrinted, ArePrinted-encode}
use Rattle.ansi_html.proofs.ReadLemmas.{seen_text, seen_calls, seen-html}

line_feed_if : Bool → List ℕ
line_feed_if wanted = if wanted then 0x0A ∷ [] else []

-- a text as it is drawn, where the newline of a 0D comes with what follows it
drawn_text : (returned : Bool) → List ℕ → List ℕ
drawn_text returned [] = []
drawn_text returned (b ∷ bytes) = line_feed_if (returned && not (eqb b 0x0A)) ++ ((if eqb b 0x0D then [] else b ∷ []) ++ drawn_text (eqb b 0x0D) bytes)

-- It is the text with its newlines normalized, but for the one of a 0D at the end.
normalized-drawn_text : (returned : Bool) (bytes : List ℕ)
    → line_feed_if returned ++ normalized_from returned bytes ≡ drawn_text returned bytes ++ line_feed_if (ends_returned returned bytes)
unfolding line_feed_if drawn_text
normalized-drawn_text returned [] = append-nil (if returned then 0x0A ∷ [] else [])
normalized-drawn_text returned (b ∷ bytes) = by_case returned (eqb b 0x0D) (eqb b 0x0A) refl refl (normalized-drawn_text true bytes) (normalized-drawn_text false bytes)
  where
    by_case : (before is feed : Bool) → eqb b 0x0D ≡ is → eqb b 0x0A ≡ feed
        → 0x0A ∷ normalized_from true bytes ≡ drawn_text true bytes ++ (if ends_returned true bytes then 0x0A ∷ [] else [])
        → normalized_from false bytes ≡ drawn_text false bytes ++ (if ends_returned false bytes then 0x0A ∷ [] else [])
        → (if before then 0x0A ∷ [] else []) ++ (if is then 0x0A ∷ normalized_from true bytes else if before && feed then normalized_from false bytes else b ∷ normalized_from false bytes)
        ≡ ((if before && not feed then 0x0A ∷ [] else []) ++ ((if is then [] else b ∷ []) ++ drawn_text is bytes)) ++ (if ends_returned is bytes then 0x0A ∷ [] else [])
    by_case false true feed e f behind other = behind
    by_case false false feed e f behind other = ap (λ l. b ∷ l) other
    by_case true true true e f behind other = absurd (let clash : 0x0D ≡ 0x0A = sym (eqb-true b 0x0D e) ∙ eqb-true b 0x0A f in cc)
    by_case true true false e f behind other = ap (λ l. 0x0A ∷ l) behind
    by_case true false true e f behind other = ap₂ (λ x l. x ∷ l) (sym (eqb-true b 0x0A f)) other
    by_case true false false e f behind other = ap (λ l. 0x0A ∷ b ∷ l) other

-- bytes that are no controls stay
drawn-printed : (attributes : Attributes) (bytes : List ℕ) → ArePrinted bytes → flat_map drawn_of (map (text attributes) bytes) ≡ bytes
drawn-printed attributes [] printed = refl
drawn-printed attributes (b ∷ bytes) printed =
    ap₂ (λ (is : Bool) l. (if is then [] else b ∷ []) ++ l) (ne_eqb b 0x0D (λ e. omega (arith, printed.0))) (drawn-printed attributes bytes printed.1)

drawn_text-printed : (bytes rest : List ℕ) → ArePrinted bytes → drawn_text false (bytes ++ rest) ≡ bytes ++ drawn_text false rest
unfolding drawn_text line_feed_if
drawn_text-printed [] rest printed = refl
drawn_text-printed (b ∷ bytes) rest printed =
    ap (λ (is : Bool). (if is then [] else b ∷ []) ++ drawn_text is (bytes ++ rest)) (ne_eqb b 0x0D (λ e. omega (arith, printed.0)))
    ∙ ap (λ l. b ∷ l) (drawn_text-printed bytes rest printed.1)

module _ (styling : Styling) (at : Standing) where
  drawn-text : (bytes rest : List ℕ) → ArePrinted bytes
      → flat_map drawn_of (seen_text styling at false bytes) ++ drawn_text (after_text at.returned false bytes) rest ≡ drawn_text at.returned (bytes ++ rest)
  unfolding drawn_text line_feed_if
  drawn-text [] rest printed = refl
  drawn-text (b ∷ bytes) rest printed =
      let no_feed = ne_eqb b 0x0A (λ e. omega (arith, printed.0)) in
      let no_return = ne_eqb b 0x0D (λ e. omega (arith, printed.0)) in
      by_case at.returned
      ∙ ap (λ l. (if at.returned && true then 0x0A ∷ [] else []) ++ l) (ap (λ l. b ∷ l) (sym (drawn_text-printed bytes rest printed.1)))
      ∙ sym (ap₂ (λ (feed is : Bool). (if at.returned && not feed then 0x0A ∷ [] else []) ++ ((if is then [] else b ∷ []) ++ drawn_text is (bytes ++ rest))) no_feed no_return)
    where
      by_case : (returned : Bool)
          → flat_map drawn_of ((if returned && true then break ∷ [] else []) ++ map (text (attributes_of styling at.selected)) (b ∷ bytes)) ++ drawn_text false rest
          ≡ (if returned && true then 0x0A ∷ [] else []) ++ ((b ∷ bytes) ++ drawn_text false rest)
      by_case true = ap (λ l. 0x0A ∷ (l ++ drawn_text false rest)) (drawn-printed (attributes_of styling at.selected) (b ∷ bytes) printed)
      by_case false = ap (λ l. l ++ drawn_text false rest) (drawn-printed (attributes_of styling at.selected) (b ∷ bytes) printed)

  drawn-executed : (b : ℕ) (rest : List ℕ) (layout : Bool)
      → flat_map drawn_of (seen_text styling at (eqb b 0x0A) (if layout then b ∷ [] else [])) ++ drawn_text (after_text at.returned (eqb b 0x0D) (if layout then b ∷ [] else [])) rest
      ≡ drawn_text at.returned ((if layout then b ∷ [] else []) ++ rest)
  unfolding drawn_text line_feed_if
  drawn-executed b rest false = refl
  drawn-executed b rest true = by_case (at.returned && not (eqb b 0x0A)) (eqb b 0x0D)
    where
      by_case : (wanted is : Bool)
          → flat_map drawn_of ((if wanted then break ∷ [] else []) ++ (text (attributes_of styling at.selected) b ∷ [])) ++ drawn_text is rest
          ≡ (if wanted then 0x0A ∷ [] else []) ++ ((if eqb b 0x0D then [] else b ∷ []) ++ drawn_text is rest)
      by_case true is = ap (λ l. 0x0A ∷ (l ++ drawn_text is rest)) (append-nil (if eqb b 0x0D then [] else b ∷ []))
      by_case false is = ap (λ l. l ++ drawn_text is rest) (append-nil (if eqb b 0x0D then [] else b ∷ []))

  -- what is drawn of the text of a call, and then of the rest
  Draws : Call → Type 0
  Draws call =
      (rest : List ℕ)
      → flat_map drawn_of (seen_text styling at (is_executed 0x0A call) (stripped_call call)) ++ drawn_text (after_text at.returned (is_executed 0x0D call) (stripped_call call)) rest
      ≡ drawn_text at.returned (stripped_call call ++ rest)

  Draws-call : (call : Call) → IsShowable call → Draws call
  unfolding Draws
  Draws-call (print c) is = λ rest. drawn-text (encode_utf8 c) rest (ArePrinted-encode c is)
  Draws-call (execute b) is = λ rest. drawn-executed b rest (is_layout b)
  Draws-call (hook gs is ig f) h = λ rest. refl
  Draws-call (put b) h = λ rest. refl
  Draws-call unhook h = λ rest. refl
  Draws-call (osc_dispatch parts bell) h = λ rest. refl
  Draws-call (csi_dispatch gs is ig f) h = λ rest. refl
  Draws-call (esc_dispatch is ig f) h = λ rest. refl

drawn-calls : (styling : Styling) (at : Standing) (calls : List Call) → AreShowable calls → flat_map drawn_of (seen_calls styling at calls) ≡ drawn_text at.returned (stripped calls)
unfolding Draws drawn_text
drawn-calls styling at [] are = refl
drawn-calls styling at (call ∷ calls) are =
    let here = seen_text styling at (is_executed 0x0A call) (stripped_call call) in
    flat_map-append drawn_of here (seen_calls styling (standing_after call at) calls)
    ∙ ap (λ l. flat_map drawn_of here ++ l) (drawn-calls styling (standing_after call at) calls are.1)
    ∙ Draws-call styling at call are.0 (stripped calls)

-- The HTML of calls that can be shown is drawn as their text with its newlines normalized.
pub drawn-html : (styling : Styling) (calls : List Call) → AreShowable calls → ends_in_return (stripped calls) ≡ false → drawn (html styling calls) ≡ normalized (stripped calls)
unfolding line_feed_if
drawn-html styling calls are ends =
    let text = stripped calls in
    ap (flat_map drawn_of) (seen-html styling calls) ∙ drawn-calls styling at_start calls are
    ∙ sym (
    normalized-drawn_text false text
    ∙ ap (λ (is : Bool). drawn_text false text ++ (if is then 0x0A ∷ [] else [])) ends ∙ append-nil (drawn_text false text)
    )
