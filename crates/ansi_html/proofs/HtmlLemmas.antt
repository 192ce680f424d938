-- Text as HTML.
use Rattle.std.proofs.Common.{◌≡◌, ◌≢◌, ◌<◌, ◌≤◌, ℕ, Bool, true, false, ◌&&◌, ⊎_elim, eqb, List, [], ◌∷◌, ◌++◌, ◌-◌, length, take, refl, sym, ap, ap₂, ◌∙◌, subst, arith, append_assoc, append-nil, length-append}
use Rattle.std.specs.Prelude.{not, encode_utf8, if◌then◌else◌}
use Rattle.std.specs.List.{AllByRecursion}
use Rattle.std.proofs.lemmas.Grind.{flat_map-append}
use Rattle.std.proofs.lemmas.List.{take_at}
use Rattle.std.proofs.lemmas.Bool.{ne_eqb, cases_lt, or_parts, and_parts}
use Rattle.anstyle_parse.proofs.Characters.Scalars.{length-encode-some}
use Rattle.anstyle_parse.proofs.Characters.Encoding.{encode_one, encode_two, encode_three, encode_four}
use Rattle.ansi_strip.specs.Strip.{is_layout}
use Rattle.std.specs.Str.{bytes_eq}
use Rattle.std.proofs.lemmas.Slice.Eq.{bytes_eq-Decides}
use Rattle.ansi_style.specs.Style.{are_equal}
use Rattle.ansi_style.proofs.EqualityLemmas.{are_equal-refl, are_equal-same}
use Rattle.ansi_html.specs.declared.scheme.Styling.{Styling}
use Rattle.anstyle_parse.specs.Stream.Call.{print, execute}
use Rattle.ansi_html.specs.Html.{escaped, escaped_text, Element, element, are_same, Standing, beginning, span_begin, span_end, element_begin, element_end, after_text, text_html, call_html, standing_after, change}
use Rattle.ansi_html.specs.Writer.{in_element}
use Rattle.ansi_html.specs.Grammar.{is_special, AreClear, BeginWithClear}

pub false-from_not : (b : Bool) → not b ≡ true → b ≡ false
false-from_not true h = cc
false-from_not false h = refl

pub true-from_not : (b : Bool) → not b ≡ false → b ≡ true
true-from_not true h = refl
true-from_not false h = cc

-- text that is not empty
pub text_html-some : (styling : Styling) (at : Standing) (is_line_feed : Bool) (bytes : List ℕ) → 0 < length bytes
    → text_html styling at is_line_feed bytes ≡ beginning styling at is_line_feed ++ escaped_text bytes
unfolding text_html
text_html-some styling at is_line_feed [] some = absurd (omega arith)
text_html-some styling at is_line_feed (b ∷ bytes) some = refl

pub after_text-some : {A : Type 0} (before after : A) (bytes : List ℕ) → 0 < length bytes → after_text before after bytes ≡ after
after_text-some before after [] some = absurd (omega arith)
after_text-some before after (b ∷ bytes) some = refl

-- Each byte of a character that is not ASCII is 80 or above.
abbrev pub AreHigh : List ℕ → Type 0
AreHigh bytes = AllByRecursion (λ b. 0x80 ≤ b) bytes

pub AreHigh-encode : (c : ℕ) → 0x80 ≤ c → AreHigh (encode_utf8 c)
AreHigh-encode c high =
    ⊎_elim
    (λ (k : c < 0x800). subst AreHigh (sym (encode_two c high k)) (omega arith, (omega arith, tt)))
    (λ (k : 0x800 ≤ c). ⊎_elim
    (λ (j : c < 0x10000). subst AreHigh (sym (encode_three c k j)) (omega arith, (omega arith, (omega arith, tt))))
    (λ (j : 0x10000 ≤ c). subst AreHigh (sym (encode_four c j)) (omega arith, (omega arith, (omega arith, (omega arith, tt)))))
    (cases_lt c 0x10000))
    (cases_lt c 0x800)

pub is_special-other : (b : ℕ) → b ≢ 0x26 → b ≢ 0x3C → b ≢ 0x3E → b ≢ 0x22 → b ≢ 0x27 → b ≢ 0x0D → is_special b ≡ false
unfolding is_special
is_special-other b amp lt gt quot apos return =
    rw (ne_eqb b 0x26 amp, ne_eqb b 0x3C lt, ne_eqb b 0x3E gt, ne_eqb b 0x22 quot, ne_eqb b 0x27 apos, ne_eqb b 0x0D return) refl

pub is_special-high : (b : ℕ) → 0x80 ≤ b → is_special b ≡ false
is_special-high b high = is_special-other b (omega arith) (omega arith) (omega arith) (omega arith) (omega arith) (omega arith)

pub AreClear-high : (bytes : List ℕ) → AreHigh bytes → AreClear bytes
AreClear-high [] high = tt
AreClear-high (b ∷ bytes) high = (is_special-high b high.0, AreClear-high bytes high.1)

-- a character with no meaning in HTML
pub AreClear-encode : (c : ℕ) → is_special c ≡ false → AreClear (encode_utf8 c)
AreClear-encode c clear =
    ⊎_elim
    (λ (k : c < 0x80). subst AreClear (sym (encode_one c k)) (clear, tt))
    (λ (k : 0x80 ≤ c). AreClear-high (encode_utf8 c) (AreHigh-encode c k))
    (cases_lt c 0x80)

pub escaped-clear : (b : ℕ) → is_special b ≡ false → escaped b ≡ b ∷ []
unfolding is_special
escaped-clear b clear =
    let h0 = or_parts (eqb b 0x26) _ clear in
    let h1 = or_parts (eqb b 0x3C) _ h0.1 in
    let h2 = or_parts (eqb b 0x3E) _ h1.1 in
    let h3 = or_parts (eqb b 0x22) _ h2.1 in
    let h4 = or_parts (eqb b 0x27) (eqb b 0x0D) h3.1 in
    rw (h0.0, h1.0, h2.0, h3.0, h4.0, h4.1) refl

pub not_return-clear : (b : ℕ) → is_special b ≡ false → eqb b 0x0D ≡ false
unfolding is_special
not_return-clear b clear =
    let h2 = (or_parts (eqb b 0x3E) _ (or_parts (eqb b 0x3C) _ (or_parts (eqb b 0x26) _ clear).1).1).1 in
    (or_parts (eqb b 0x27) (eqb b 0x0D) (or_parts (eqb b 0x22) _ h2).1).1

pub escaped_one : (b : ℕ) → escaped_text (b ∷ []) ≡ escaped b
escaped_one b = append-nil (escaped b)

pub escaped_text-clear : (bytes : List ℕ) → AreClear bytes → escaped_text bytes ≡ bytes
escaped_text-clear [] clear = refl
escaped_text-clear (b ∷ bytes) clear = ap (λ l. l ++ escaped_text bytes) (escaped-clear b clear.0) ∙ ap (λ l. b ∷ l) (escaped_text-clear bytes clear.1)

-- a character, escaped
pub escaped_ascii : (c : ℕ) → c < 0x80 → escaped_text (encode_utf8 c) ≡ escaped c
escaped_ascii c ascii = ap escaped_text (encode_one c ascii) ∙ escaped_one c

pub escaped_high : (c : ℕ) → 0x80 ≤ c → escaped_text (encode_utf8 c) ≡ encode_utf8 c
escaped_high c high = escaped_text-clear (encode_utf8 c) (AreClear-high (encode_utf8 c) (AreHigh-encode c high))

-- bytes with no meaning, one after another
AreClear-append : (bytes more : List ℕ) → AreClear bytes → AreClear more → AreClear (bytes ++ more)
AreClear-append [] more first second = second
AreClear-append (b ∷ bytes) more first second = (first.0, AreClear-append bytes more first.1 second)

pub BeginWithClear-none : (bytes : List ℕ) → BeginWithClear bytes bytes
BeginWithClear-none bytes = ([], tt, refl)

pub BeginWithClear-more : (bytes rest clear left : List ℕ) → AreClear clear → rest ≡ clear ++ left → BeginWithClear bytes rest → BeginWithClear bytes left
BeginWithClear-more bytes rest clear left are joined begun = (
  begun.0 ++ clear,
  AreClear-append begun.0 clear begun.1 are,
  begun.2 ∙ ap (λ l. begun.0 ++ l) joined ∙ sym (append_assoc begun.0 clear left),
)

-- those that stand before what is left, and the text from them on
pub clear_before : (bytes left : List ℕ) (begun : BeginWithClear bytes left) → take (length bytes - length left) bytes ≡ begun.0
clear_before bytes left begun =
    ap (take (length bytes - length left)) begun.2 ∙ take_at begun.0 left (length bytes - length left) (omega (arith, ap length begun.2, length-append begun.0 left))

pub escaped_text-begun : (bytes left : List ℕ) (begun : BeginWithClear bytes left) → escaped_text bytes ≡ begun.0 ++ escaped_text left
escaped_text-begun bytes left begun =
    ap escaped_text begun.2 ∙ flat_map-append escaped begun.0 left ∙ ap (λ l. l ++ escaped_text left) (escaped_text-clear begun.0 begun.1)

-- a printed character
module _ (styling : Styling) (at : Standing) (c : ℕ) where
  pub call_html-print : call_html styling at (print c) ≡ beginning styling at false ++ escaped_text (encode_utf8 c)
  call_html-print = text_html-some styling at false (encode_utf8 c) (length-encode-some c)

  pub standing_after-print : standing_after (print c) at ≡ in_element at.selected false
  standing_after-print =
      ap₂ (λ shown returned. record { shown = shown; selected = at.selected; returned = returned })
      (after_text-some at.shown at.selected (encode_utf8 c) (length-encode-some c))
      (after_text-some at.returned false (encode_utf8 c) (length-encode-some c))

-- a control: where it is text, and where it is none
module _ (styling : Styling) (at : Standing) (b : ℕ) where
  abbrev executed : Bool → List ℕ
  executed layout = if layout then b ∷ [] else []

  abbrev after_executed : List ℕ → Standing
  after_executed bytes = record {
    shown = after_text at.shown at.selected bytes;
    selected = at.selected;
    returned = after_text at.returned (eqb b 0x0D) bytes;
  }

  pub call_html-layout : is_layout b ≡ true → call_html styling at (execute b) ≡ beginning styling at (eqb b 0x0A) ++ escaped b
  unfolding text_html
  call_html-layout is = ap (λ layout. text_html styling at (eqb b 0x0A) (executed layout)) is ∙ ap (λ l. beginning styling at (eqb b 0x0A) ++ l) (escaped_one b)

  pub standing_after-layout : is_layout b ≡ true → standing_after (execute b) at ≡ in_element at.selected (eqb b 0x0D)
  standing_after-layout is = ap (λ layout. after_executed (executed layout)) is

  pub call_html-other : is_layout b ≡ false → call_html styling at (execute b) ≡ []
  unfolding text_html
  call_html-other is = ap (λ layout. text_html styling at (eqb b 0x0A) (executed layout)) is

  pub standing_after-other : is_layout b ≡ false → standing_after (execute b) at ≡ at
  standing_after-other is = ap (λ layout. after_executed (executed layout)) is

pub bytes_eq-refl : (bytes : List ℕ) → bytes_eq bytes bytes ≡ true
bytes_eq-refl bytes = (bytes_eq-Decides bytes bytes).1 refl

pub are_same-refl : (element : Element) → are_same element element ≡ true
are_same-refl element = ap₂ (λ (x y : Bool). x && y) (are_equal-refl element.style) (bytes_eq-refl element.link)

-- equal elements are the same
pub are_same-same : (one other : Element) → are_same one other ≡ true → one ≡ other
are_same-same one other same =
    let parts = and_parts (are_equal one.style other.style) (bytes_eq one.link other.link) same in
    ap₂ element (are_equal-same one.style other.style parts.0) ((bytes_eq-Decides one.link other.link).0 parts.1)

-- where the element stays nothing changes
pub change-same : (styling : Styling) → (element : Element) → change styling element element ≡ []
change-same styling element =
    ap (λ (same : Bool). if same then [] else if bytes_eq element.link element.link then span_end element.style ++ span_begin styling element.style else element_end element ++ element_begin styling element)
    (are_same-refl element)

-- What a change of links writes, what one of styles in a link does, and what no change does.
and_false : (first : Bool) → (first && false) ≡ false
and_false true = refl
and_false false = refl

module _ (styling : Styling) (shown next : Element) where
  abbrev changed_by : (same linked : Bool) → List ℕ
  changed_by same linked =
      if same then []
      else if linked then span_end shown.style ++ span_begin styling next.style
      else element_end shown ++ element_begin styling next

  pub change-link : bytes_eq shown.link next.link ≡ false → change styling shown next ≡ element_end shown ++ element_begin styling next
  change-link other =
      ap (λ (linked : Bool). changed_by (are_equal shown.style next.style && linked) linked) other
      ∙ ap (λ (same : Bool). changed_by same false) (and_false (are_equal shown.style next.style))

  pub change-style : bytes_eq shown.link next.link ≡ true → are_equal shown.style next.style ≡ false → change styling shown next ≡ span_end shown.style ++ span_begin styling next.style
  change-style same other = ap₂ (λ (equal linked : Bool). changed_by (equal && linked) linked) other same

  pub change-none : bytes_eq shown.link next.link ≡ true → are_equal shown.style next.style ≡ true → change styling shown next ≡ []
  change-none same equal = ap₂ (λ (equal linked : Bool). changed_by (equal && linked) linked) equal same
