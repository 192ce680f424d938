-- How long HTML in lines is, and in blocks, beside the bytes of its stream. A text pays for its line too.
use Rattle.std.proofs.Common.{◌≡◌, ◌≤◌, ℕ, suc, ◌+◌, ◌*◌, ◌-◌, Bool, true, false, List, [], ◌∷◌, ◌++◌, codes, length, refl, ap, arith, length-append}
use Rattle.std.specs.Prelude.{nat_lt, decimal, if◌then◌else◌}
use Rattle.std.specs.Str.{bytes_eq}
use Rattle.std.proofs.lemmas.Fmt.{length-decimal-le}
use Rattle.std.proofs.lemmas.Bool.{ltb-true, leb-true}
use Rattle.anstyle_parse.specs.Stream.Call.{Call, print, execute, hook, put, unhook, osc_dispatch, csi_dispatch, esc_dispatch}
use Rattle.anstyle_parse.specs.Stream.Calls.{AreCalls}
use Rattle.ansi_strip.specs.Strip.{stripped_call}
use Rattle.ansi_style.specs.declared.style.Style.{Style}
use Rattle.ansi_style.specs.Style.{are_equal}
use Rattle.ansi_html.specs.declared.scheme.Styling.{Styling}
use Rattle.ansi_html.specs.declared.scheme.Styling.TheVariants.{Inline, Classes}
use Rattle.ansi_html.specs.Affordable.{feed_counts, earned, earned_by_text, link_cost, is_paid, left_of}
use Rattle.ansi_html.specs.Html.{span_begin, link_begin, element_end, Standing, at_start, after_text, is_executed, call_html, standing_after}
use Rattle.ansi_html.specs.Lines.{max_number, next_number, line_begin, line_end, Lined, lined, lined_at_start, text_number, line_opening, ended, going_on, after_feed, after_others, lined_call, lined_after, lined_from, lined_at_end, lined_end, lined_html, lined_html_of_a_byte}
use Rattle.ansi_html.proofs.AffordableLemmas.{few-earned, few-earned_by_text}
use Rattle.ansi_html.proofs.ColorLemmas.{choose}
use Rattle.ansi_html.proofs.LengthLemmas.{AtMost, AtMost-end, few-link_begin, AtMost-span_begin, AtMost-span_of_classes}
use Rattle.ansi_html.proofs.BoundLemmas.{units, all_units, few-units, times-add, times-less, pending_by, pending, pending-same, Few, few-call}

-- products, from the left
pub add-times : (m n k : ℕ) → (m + n) * k ≡ m * k + n * k
add-times m n k = grind arith

less-times : (m n k : ℕ) → m ≤ n → m * k ≤ n * k
less-times m n k less = grind (arith, less)

-- Numbers have twenty digits at most.
next-few : (number : ℕ) → number ≤ max_number → next_number number ≤ max_number
next-few number few = by_case (nat_lt number max_number) refl
  where
    by_case : (less : Bool) → nat_lt number max_number ≡ less → (if less then suc number else number) ≤ max_number
    by_case true e = ltb-true number max_number e
    by_case false e = few

AtMost-line_begin : (number : ℕ) → number ≤ max_number → length (line_begin number) ≤ 103
AtMost-line_begin number few =
    let digits = decimal number in
    let last = codes "\"></a>" in
    let named = codes "\" data-line=\"" ++ (digits ++ last) in
    let linked = codes "\"><a href=\"#L" ++ (digits ++ named) in
    omega (
      arith,
      length-decimal-le 20 number (omega arith) (omega (arith, few)) (omega (arith, few)),
      length-append (codes "<span id=\"L") (digits ++ linked),
      length-append digits linked,
      length-append (codes "\"><a href=\"#L") (digits ++ named),
      length-append digits named,
      length-append (codes "\" data-line=\"") (digits ++ last),
      length-append digits last,
    )

-- what begins a line is paid for by its first text
few-opening : (it : Lined) (call : Call) → it.number ≤ max_number → length (line_opening it (stripped_call call)) ≤ 103 * units call
unfolding units
few-opening it call few = by_call call
  where
    before : (text : List ℕ) → length (line_opening it text) ≤ 103
    before [] = omega arith
    before (b ∷ text) = choose (λ l. length l ≤ 103) it.is_open [] (line_begin (next_number it.number)) (omega arith) (AtMost-line_begin (next_number it.number) (next-few it.number few))

    by_call : (call : Call) → length (line_opening it (stripped_call call)) ≤ 103 * units call
    by_call (print c) = before (stripped_call (print c))
    by_call (execute b) = before (stripped_call (execute b))
    by_call (osc_dispatch parts bell) = omega arith
    by_call (csi_dispatch gs is ig f) = omega arith
    by_call (hook gs is ig f) = omega arith
    by_call (put b) = omega arith
    by_call unhook = omega arith
    by_call (esc_dispatch is ig f) = omega arith

-- a call that is a line feed pays for one text
pub units-feed : (call : Call) → is_executed 0x0A call ≡ true → units call ≡ 1
unfolding units
units-feed (execute b) feeds = refl
units-feed (print c) feeds = refl
units-feed (hook gs is ig f) feeds = absurd (cc feeds)
units-feed (put b) feeds = absurd (cc feeds)
units-feed unhook feeds = absurd (cc feeds)
units-feed (osc_dispatch parts bell) feeds = absurd (cc feeds)
units-feed (csi_dispatch gs is ig f) feeds = absurd (cc feeds)
units-feed (esc_dispatch is ig f) feeds = absurd (cc feeds)

pub number-few : (call : Call) (it : Lined) → it.number ≤ max_number → (lined_after call it).number ≤ max_number
number-few call it few = by_case (is_executed 0x0A call) (stripped_call call)
  where
    by_open : (is_open : Bool) → (if is_open then it.number else next_number it.number) ≤ max_number
    by_open true = few
    by_open false = next-few it.number few

    next : text_number it ≤ max_number
    next = by_open it.is_open

    by_case : (feed : Bool) (text : List ℕ)
        → (if feed then after_feed call it
        else lined (standing_after call it.at) (after_text it.number (text_number it) text) (after_text it.is_open true text) (earned_by_text text it.spare)).number
        ≤ max_number
    by_case true text = next
    by_case false [] = few
    by_case false (b ∷ text) = next

module _ (styling : Styling) (rate span : ℕ) (much : 30 ≤ rate) (four : 4 * rate ≡ span + 21)
    (spans : (style : Style) → length (span_begin styling style) ≤ span) where
  abbrev pending_at : Standing → ℕ
  pending_at at = pending styling rate span much four spans at

  -- what is to be written anew where a line or a block has ended
  pub pending-ended : (at : Standing) → pending_at (ended at) ≤ 3 * rate + length (link_begin styling at.selected.link)
  unfolding pending_by
  pending-ended at = by_case (bytes_eq [] at.selected.link) (are_equal (ended at).shown.style at.selected.style)
    where
      by_case : (linked same : Bool)
          → (if linked then (if same then 0 else 3 * rate) else 3 * rate + length (link_begin styling at.selected.link))
          ≤ 3 * rate + length (link_begin styling at.selected.link)
      by_case true true = omega arith
      by_case true false = omega arith
      by_case false same = omega arith

  -- what each text pays
  abbrev pub all_rate : ℕ
  all_rate = 4 * rate + 281

  all_times : (n : ℕ) → rate * n + 103 * n + 100 * n ≤ all_rate * n
  all_times n = omega (arith, less-times (rate + 203) all_rate n (omega arith), add-times rate 203 n, add-times 103 100 n)

  -- what is still to be written, and may be by what is spare
  abbrev pub owed : Lined → ℕ
  owed it = pending_at it.at + it.spare

  -- A line feed pays for the link that goes on with what is spare, but for the rest of its tag.
  few-going_on : (at : Standing) (spare : ℕ)
      → pending_at (going_on (is_paid spare at.selected.link) (ended at)) + left_of spare at.selected.link ≤ 3 * rate + 60 + spare
  few-going_on at spare = by_case (is_paid spare at.selected.link) refl
    where
      cost : ℕ
      cost = link_cost at.selected.link

      by_case : (paid : Bool) → is_paid spare at.selected.link ≡ paid
          → pending_at (going_on paid (ended at)) + (if paid then spare - cost else spare) ≤ 3 * rate + 60 + spare
      by_case true e = omega (arith, pending-ended (going_on true at), few-link_begin styling at.selected.link, leb-true cost spare e)
      by_case false e = omega (arith, pending-ended (going_on false at))

  pub few-lined_call : (call : Call) (it : Lined) → it.number ≤ max_number
      → length (lined_call styling it call) + owed (lined_after call it) ≤ owed it + all_rate * units call
  unfolding Few AtMost
  few-lined_call call it few = by_case (is_executed 0x0A call) refl
    where
      opening : List ℕ
      opening = line_opening it (stripped_call call)

      text : List ℕ
      text = call_html styling it.at call

      after : Standing
      after = standing_after call it.at

      earns : ℕ
      earns = earned feed_counts it.spare

      by_case : (feed : Bool) → is_executed 0x0A call ≡ feed
          → length (opening ++ (text ++ (if feed then element_end it.at.selected ++ line_end else [])))
          + owed (if feed then after_feed call it else after_others call it)
          ≤ owed it + all_rate * units call
      by_case true feeds =
          omega (
            arith,
            length-append opening (text ++ (element_end it.at.selected ++ line_end)),
            length-append text (element_end it.at.selected ++ line_end),
            length-append (element_end it.at.selected) line_end,
            AtMost-end it.at.selected,
            few-opening it call few,
            few-call styling rate span much four spans it.at call,
            few-going_on after (earned feed_counts it.spare),
            few-earned feed_counts it.spare,
            ap (λ (n : ℕ). all_rate * n) (units-feed call feeds),
            ap (λ (n : ℕ). rate * n) (units-feed call feeds),
            units-feed call feeds,
          )
      by_case false other =
          omega (
            arith,
            length-append opening (text ++ []),
            length-append text [],
            few-opening it call few,
            few-call styling rate span much four spans it.at call,
            few-earned_by_text call it.spare,
            all_times (units call),
          )

  few-lined : (it : Lined) (calls : List Call) → it.number ≤ max_number
      → length (lined_from styling it calls) ≤ owed it + all_rate * all_units calls
  unfolding all_units
  few-lined it [] few = omega arith
  few-lined it (call ∷ calls) few =
      let after = lined_after call it in
      omega (
        arith,
        length-append (lined_call styling it call) (lined_from styling after calls),
        few-lined_call call it few,
        few-lined after calls (number-few call it few),
        times-add all_rate (units call) (all_units calls),
      )

  pub few-end : (it : Lined) → length (lined_end it) ≤ 18
  unfolding AtMost
  few-end it =
      omega (
        arith,
        length-append (element_end it.at.shown) (if it.is_open then line_end else []),
        AtMost-end it.at.shown,
        choose (λ l. length l ≤ 7) it.is_open line_end [] (omega arith) (omega arith),
      )

  few-lined_html : (calls : List Call) → length (lined_html styling calls) ≤ all_rate * all_units calls + 18
  few-lined_html calls =
      let last = lined_end (lined_at_end lined_at_start calls) in
      omega (
        arith,
        length-append (lined_from styling lined_at_start calls) last,
        few-lined lined_at_start calls (omega arith),
        pending-same styling rate span much four spans at_start.shown false,
        few-end (lined_at_end lined_at_start calls),
      )

-- The HTML in lines of calls, beside what they may lead to,
pub length-lined_units : (styling : Styling) (calls : List Call) → length (lined_html styling calls) ≤ lined_html_of_a_byte styling * all_units calls + 18
unfolding AtMost
length-lined_units (Inline scheme) calls = few-lined_html (Inline scheme) 74 275 (omega arith) refl (λ style. AtMost-span_begin (Inline scheme) style) calls
length-lined_units Classes calls = few-lined_html Classes 35 119 (omega arith) refl AtMost-span_of_classes calls

-- and that of a stream.
pub length-lined_html : (styling : Styling) (bytes : List ℕ) (calls : List Call) → AreCalls bytes calls
    → length (lined_html styling calls) ≤ lined_html_of_a_byte styling * length bytes + 18
length-lined_html styling bytes calls are =
    omega (arith, length-lined_units styling calls, times-less (lined_html_of_a_byte styling) (all_units calls) (length bytes) (few-units bytes calls are))
