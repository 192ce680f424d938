-- A quote leads to more HTML than U+FFFD, and CAN to no less than ESC \.
use Rattle.std.proofs.Common.{◌≡◌, ◌≤◌, Bool, true, false, List, [], ◌∷◌, length, sym, ap, ◌∙◌, arith, lit≤, ⊎_elim, length-append}
use Rattle.std.specs.Prelude.{encode_utf8}
use Rattle.anstyle_parse.specs.Stream.Call.{Call, print}
use Rattle.anstyle_parse.specs.Stream.Characters.{replacement}
use Rattle.anstyle_parse.proofs.Characters.Encoding.{encode_one, encode_three}
use Rattle.anstyle_parse.specs.Laws.Lighter.{IsLighter, AreLighter}
use Rattle.ansi_html.specs.declared.scheme.Styling.{Styling}
use Rattle.ansi_html.specs.Html.{escaped_text, Standing, call_html, standing_after, html_from, beginning}
use Rattle.stream_state.specs.Log.{end_calls}
use Rattle.ansi_html.proofs.LengthLemmas.{length-beginning}
use Rattle.ansi_html.proofs.SoundLemmas.{AreSound}
use Rattle.ansi_html.proofs.HtmlLemmas.{call_html-print, standing_after-print, escaped_high}

-- the text of each, as it is written
length-replacement : length (escaped_text (encode_utf8 replacement)) ≡ 3
length-replacement = ap length (escaped_high replacement (lit≤ tt)) ∙ ap length (encode_three replacement (lit≤ tt) (lit≤ tt))

length-quote : length (escaped_text (encode_utf8 0x22)) ≡ 6
length-quote = ap (λ l. length (escaped_text l)) (encode_one 0x22 (lit≤ tt))

module _ (styling : Styling) where
  call-lighter : (at : Standing) (call other : Call) → IsLighter call other
      → (length (call_html styling at call) ≤ length (call_html styling at other)) × (standing_after call at ≡ standing_after other at)
  call-lighter at call other is =
      ⊎_elim
      (λ same. (omega (arith, ap (λ (x : Call). length (call_html styling at x)) same), ap (λ (x : Call). standing_after x at) same))
      (λ others. ⊎_elim
      (λ both. (
        omega (
          arith,
          ap (λ (x : Call). length (call_html styling at x)) both.0,
          ap (λ (x : Call). length (call_html styling at x)) both.1,
          ap length (call_html-print styling at replacement),
          ap length (call_html-print styling at 0x22),
          length-append (beginning styling at false) (escaped_text (encode_utf8 replacement)),
          length-append (beginning styling at false) (escaped_text (encode_utf8 0x22)),
          length-replacement,
          length-quote,
        ),
        ap (λ (x : Call). standing_after x at) both.0 ∙ standing_after-print styling at replacement
            ∙ sym (ap (λ (x : Call). standing_after x at) both.1 ∙ standing_after-print styling at 0x22),
      ))
      (λ both. (
        omega (arith, ap (λ (x : Call). length (call_html styling at x)) both.0, ap (λ (x : Call). length (call_html styling at x)) both.1),
        ap (λ (x : Call). standing_after x at) both.0 ∙ sym (ap (λ (x : Call). standing_after x at) both.1),
      ))
      others)
      is

  pub html-lighter : (at : Standing) (calls others : List Call) → AreLighter calls others → length (html_from styling at calls) ≤ length (html_from styling at others)
  unfolding AreLighter
  html-lighter at [] [] are = omega arith
  html-lighter at [] (other ∷ others) are = absurd are
  html-lighter at (call ∷ calls) [] are = absurd are
  html-lighter at (call ∷ calls) (other ∷ others) are =
      let first = call-lighter at call other are.0 in
      omega (
        arith,
        first.0,
        length-append (call_html styling at call) (html_from styling (standing_after call at) calls),
        length-append (call_html styling at other) (html_from styling (standing_after other at) others),
        html-lighter (standing_after call at) calls others are.1,
        ap (λ (s : Standing). length (html_from styling s others)) first.1,
      )

  -- what the end of a stream leads to
  pub length-end_calls : (at : Standing) (is_begun : Bool) → AreSound at → length (html_from styling at (end_calls is_begun)) ≤ 6528
  length-end_calls at true sound =
      omega (
        arith,
        length-append (call_html styling at (print replacement)) [],
        ap length (call_html-print styling at replacement),
        length-append (beginning styling at false) (escaped_text (encode_utf8 replacement)),
        length-beginning styling at false sound.selected,
        length-replacement,
      )
  length-end_calls at false sound = omega arith
