-- How long the HTML of a log is, beside its bytes: U+FFFD is one unit, as any character, and ESC \ none.
use Rattle.std.proofs.Common.{◌≡◌, ◌≤◌, ℕ, ◌+◌, ◌*◌, false, List, [], ◌∷◌, ◌++◌, length, refl, ap, sym, ◌∙◌, arith, length-append, ⊎_elim}
use Rattle.anstyle_parse.specs.Stream.Call.{Call}
use Rattle.anstyle_parse.specs.Laws.Lighter.{IsLighter, AreLighter, AreEnough}
use Rattle.ansi_style.specs.declared.style.Style.{Style}
use Rattle.ansi_html.specs.declared.scheme.Styling.{Styling}
use Rattle.ansi_html.specs.declared.scheme.Styling.TheVariants.{Inline, Classes}
use Rattle.ansi_html.specs.Html.{span_begin, element_end, at_start, html_from, standing_at_end, html, html_of_a_byte}
use Rattle.ansi_html.proofs.BoundLemmas.{units, all_units, few-units, times-less, few-from, pending-same}
use Rattle.ansi_html.proofs.LengthLemmas.{AtMost, AtMost-end, AtMost-span_begin, AtMost-span_of_classes}

units-lighter : (call other : Call) → IsLighter call other → units call ≤ units other
unfolding units
units-lighter call other is =
    ⊎_elim (λ same. omega (arith, ap units same))
    (λ others. ⊎_elim (λ both. omega (arith, ap units both.0, ap units both.1)) (λ both. omega (arith, ap units both.0, ap units both.1)) others) is

all_units-lighter : (calls others : List Call) → AreLighter calls others → all_units calls ≤ all_units others
unfolding AreLighter all_units
all_units-lighter [] [] are = omega arith
all_units-lighter [] (other ∷ others) are = absurd are
all_units-lighter (call ∷ calls) [] are = absurd are
all_units-lighter (call ∷ calls) (other ∷ others) are = omega (arith, units-lighter call other are.0, all_units-lighter calls others are.1)

few-enough : (count : ℕ) (calls : List Call) → AreEnough count calls → all_units calls ≤ count
few-enough count calls enough =
    omega (arith, all_units-lighter calls enough.others enough.lighter, few-units enough.raw enough.others enough.made, enough.short)

module _ (styling : Styling) (rate span : ℕ) (much : 30 ≤ rate) (four : 4 * rate ≡ span + 21)
    (spans : (style : Style) → length (span_begin styling style) ≤ span) where
  few-log : (count : ℕ) (calls : List Call) → AreEnough count calls → length (html styling calls) ≤ rate * count + 11
  unfolding AtMost
  few-log count calls enough =
      let last = (standing_at_end at_start calls).shown in
      omega (
        arith,
        length-append (html_from styling at_start calls) (element_end last),
        few-from styling rate span much four spans at_start calls,
        pending-same styling rate span much four spans at_start.shown false,
        times-less rate (all_units calls) count (few-enough count calls enough),
        AtMost-end last,
      )

pub length-enough : (styling : Styling) (count : ℕ) (calls : List Call) → AreEnough count calls → length (html styling calls) ≤ html_of_a_byte styling * count + 11
unfolding AtMost
length-enough (Inline scheme) count calls enough = few-log (Inline scheme) 74 275 (omega arith) refl (λ style. AtMost-span_begin (Inline scheme) style) count calls enough
length-enough Classes count calls enough = few-log Classes 35 119 (omega arith) refl AtMost-span_of_classes count calls enough
