-- How long HTML in blocks is, beside the bytes of its stream.
use Rattle.std.proofs.Common.{◌≡◌, ◌≢◌, ◌≤◌, ℕ, ◌+◌, ◌*◌, ◌-◌, Bool, true, false, eqb-true, List, [], ◌∷◌, ◌++◌, length, refl, sym, ap, ◌∙◌, arith, length-append}
use Rattle.std.specs.Prelude.{◌&&◌, ◌==◌, if◌then◌else◌}
use Rattle.std.proofs.lemmas.Bool.{ne_eqb}
use Rattle.anstyle_parse.specs.Stream.Call.{Call, print, execute, hook, put, unhook, osc_dispatch, csi_dispatch, esc_dispatch}
use Rattle.anstyle_parse.specs.Stream.Calls.{AreCalls}
use Rattle.ansi_strip.specs.Strip.{stripped_call}
use Rattle.ansi_style.specs.declared.style.Style.{Style}
use Rattle.ansi_html.specs.declared.scheme.Styling.{Styling}
use Rattle.ansi_html.specs.declared.scheme.Styling.TheVariants.{Inline, Classes}
use Rattle.ansi_html.specs.Html.{span_begin, element_end, Standing, at_start, after_text, is_executed, call_html, standing_after, html_of_a_byte}
use Rattle.ansi_html.specs.Lines.{max_number, Lined, lined, ended, lined_call, lined_after, lined_end, lined_html_of_a_byte}
use Rattle.ansi_html.specs.Blocks.{lines_a_block, block_begin, block_end, Blocked, blocked, blocked_at_start, left_with_text, block_opening, ends_block, block_closing, left_after, block_ended, blocked_call, blocked_after, blocked_from, blocked_at_end, blocked_end, blocked_html, block_of_a_byte, block_tags}
use Rattle.ansi_html.proofs.ColorLemmas.{choose}
use Rattle.ansi_html.proofs.SoundLemmas.{AreSound, AreSound-start, AreSound-after}
use Rattle.ansi_html.proofs.LengthLemmas.{AtMost, AtMost-end, AtMost-span_begin, AtMost-span_of_classes, length-link}
use Rattle.ansi_html.proofs.BoundLemmas.{units, all_units, few-units, times-add, times-less, pending, pending-same, Few, few-call}
use Rattle.ansi_html.proofs.LinerLemmas.{element_end-none}
use Rattle.ansi_html.proofs.LineBoundLemmas as lines
use Rattle.ansi_html.proofs.LineBoundLemmas.{add-times, units-feed, number-few, pending-ended, few-lined_call, few-end}
use Rattle.ansi_html.proofs.PartLemmas.{lined_after-feed}
use Rattle.ansi_html.proofs.BlockLemmas.{left-some, one-less, AreSound-blocked}

-- what begins a block of which so many lines are left, and what its lines have paid for
unfoldable room : (left : ℕ) → ℕ
room left = if left == 0 then 23 else 14 * (500 - left)

room-none : room 0 ≡ 23
unfolding room
room-none = refl

room-open : (left : ℕ) → left ≢ 0 → room left ≡ 14 * (500 - left)
unfolding room
room-open left some = ap (λ (none : Bool). if none then 23 else 14 * (500 - left)) (ne_eqb left 0 some)

room-opening : (it : Blocked) → length (block_opening it) + 14 * (500 - left_with_text it) ≤ room it.left
unfolding room
room-opening it = by_case (it.left == 0)
  where
    by_case : (none : Bool)
        → length (if none then block_begin else []) + 14 * (500 - (if none then lines_a_block else it.left)) ≤ (if none then 23 else 14 * (500 - it.left))
    by_case true = omega arith
    by_case false = omega arith

few-block_opening : (it : Blocked) → length (block_opening it) ≤ 23
few-block_opening it = choose (λ l. length l ≤ 23) (it.left == 0) block_begin [] (omega arith) (omega arith)

-- A text pays for what begins its block.
few-opened : (it : Blocked) (call : Call) → length (after_text [] (block_opening it) (stripped_call call)) ≤ 23 * units call
unfolding units
few-opened it call = by_call call
  where
    before : (text : List ℕ) → length (after_text [] (block_opening it) text) ≤ 23
    before [] = omega arith
    before (b ∷ text) = few-block_opening it

    by_call : (call : Call) → length (after_text [] (block_opening it) (stripped_call call)) ≤ 23 * units call
    by_call (print c) = before (stripped_call (print c))
    by_call (execute b) = before (stripped_call (execute b))
    by_call (osc_dispatch parts bell) = omega arith
    by_call (csi_dispatch gs is ig f) = omega arith
    by_call (hook gs is ig f) = omega arith
    by_call (put b) = omega arith
    by_call unhook = omega arith
    by_call (esc_dispatch is ig f) = omega arith

module _ (styling : Styling) (rate span : ℕ) (much : 30 ≤ rate) (most : rate ≤ 74) (four : 4 * rate ≡ span + 21)
    (spans : (style : Style) → length (span_begin styling style) ≤ span) where
  abbrev pending_at : Standing → ℕ
  pending_at at = pending styling rate span much four spans at

  abbrev owed : Standing → (left : ℕ) → ℕ
  owed at left = pending_at at + room left

  few-blocked_call : (call : Call) (it : Blocked) → AreSound it.inside.at
      → length (blocked_call false styling it call) + owed (blocked_after false call it).inside.at (blocked_after false call it).left
      ≤ owed it.inside.at it.left + (rate * units call + 14 * units call)
  unfolding Few AtMost
  few-blocked_call call it sound = by_case (is_executed 0x0A call) refl (left_with_text it == 1) refl (stripped_call call)
    where
      text : List ℕ
      text = call_html styling it.inside.at call

      at : Standing
      at = standing_after call it.inside.at

      after : Lined
      after = lined at it.inside.number it.inside.is_open it.inside.spare

      after_by : (feed full : Bool) → List ℕ → Blocked
      after_by feed full bytes =
          if feed && full then block_ended after
          else blocked after (if feed then left_with_text it - 1 else after_text it.left (left_with_text it) bytes)

      here : length text + pending_at at ≤ pending_at it.inside.at + rate * units call
      here = few-call styling rate span much four spans it.inside.at call

      opened : (bytes : List ℕ) → length (after_text [] (block_opening it) bytes) ≤ length (block_opening it)
      opened [] = omega arith
      opened (b ∷ bytes) = omega arith

      by_case : (feed : Bool) → is_executed 0x0A call ≡ feed → (full : Bool) → (left_with_text it == 1) ≡ full → (bytes : List ℕ)
          → length (after_text [] (block_opening it) bytes ++ (text ++ block_closing after (feed && full)))
          + owed (after_by feed full bytes).inside.at (after_by feed full bytes).left
          ≤ owed it.inside.at it.left + (rate * units call + 14 * units call)
      by_case false other full f [] = omega (arith, here, length-append text [])
      by_case false other full f (b ∷ bytes) =
          omega (
            arith,
            here,
            length-append (block_opening it) (text ++ []),
            length-append text [],
            room-opening it,
            room-open (left_with_text it) (left-some it),
          )
      by_case true feeds false f bytes =
          omega (
            arith,
            here,
            units-feed call feeds,
            length-append (after_text [] (block_opening it) bytes) (text ++ []),
            length-append text [],
            opened bytes,
            room-opening it,
            room-open (left_with_text it - 1) (one-less (left_with_text it) (left-some it) f),
          )
      by_case true feeds true f bytes =
          omega (
            arith,
            most,
            here,
            units-feed call feeds,
            length-append (after_text [] (block_opening it) bytes) (text ++ (element_end at.shown ++ block_end)),
            length-append text (element_end at.shown ++ block_end),
            length-append (element_end at.shown) block_end,
            AtMost-end at.shown,
            opened bytes,
            room-opening it,
            room-none,
            eqb-true (left_with_text it) 1 f,
            pending-ended styling rate span much four spans at,
            length-link styling at.selected.link (AreSound-after call it.inside.at sound).selected,
          )

  few-blocked : (it : Blocked) (calls : List Call) → AreSound it.inside.at
      → length (blocked_from false styling it calls) ≤ owed it.inside.at it.left + (rate * all_units calls + 14 * all_units calls)
  unfolding all_units
  few-blocked it [] sound = omega arith
  few-blocked it (call ∷ calls) sound =
      let after = blocked_after false call it in
      omega (
        arith,
        length-append (blocked_call false styling it call) (blocked_from false styling after calls),
        few-blocked_call call it sound,
        few-blocked after calls (AreSound-blocked false styling call it sound),
        times-add rate (units call) (all_units calls),
      )

  few-blocked_html : (calls : List Call) → length (blocked_html false styling calls) ≤ (rate + 14) * all_units calls + 41
  unfolding AtMost
  few-blocked_html calls =
      let last = blocked_at_end false blocked_at_start calls in
      let close = if last.left == 0 then [] else block_end in
      omega (
        arith,
        length-append (blocked_from false styling blocked_at_start calls) (blocked_end false last),
        length-append (element_end last.inside.at.shown) close,
        AtMost-end last.inside.at.shown,
        choose (λ l. length l ≤ 7) (last.left == 0) [] block_end (omega arith) (omega arith),
        few-blocked blocked_at_start calls AreSound-start,
        room-none,
        pending-same styling rate span much four spans at_start.shown false,
        add-times rate 14 (all_units calls),
      )

  -- numbered lines
  abbrev lines_rate : ℕ
  lines_rate = 4 * rate + 281

  abbrev owed_in : Lined → ℕ
  owed_in it = lines.owed styling rate span much four spans it

  few-numbered_call : (call : Call) (it : Blocked) → it.inside.number ≤ max_number
      → length (blocked_call true styling it call) + owed_in (blocked_after true call it).inside
      ≤ owed_in it.inside + (lines_rate * units call + 30 * units call)
  few-numbered_call call it few = by_case (is_executed 0x0A call) refl (left_with_text it == 1)
    where
      opening : List ℕ
      opening = after_text [] (block_opening it) (stripped_call call)

      text : List ℕ
      text = lined_call styling it.inside call

      after : Lined
      after = lined_after call it.inside

      here : length text + owed_in after ≤ owed_in it.inside + lines_rate * units call
      here = few-lined_call styling rate span much four spans call it.inside few

      same : is_executed 0x0A call ≡ true → (element_end after.at.shown ≡ []) × (pending_at (ended after.at) ≡ pending_at after.at)
      same feeds =
          let is = lined_after-feed call it.inside feeds in (
            ap (λ (l : Lined). element_end l.at.shown) is ∙ element_end-none,
            ap (λ (l : Lined). pending_at (ended l.at)) is ∙ sym (ap (λ (l : Lined). pending_at l.at) is),
          )

      by_case : (feed : Bool) → is_executed 0x0A call ≡ feed → (full : Bool)
          → length (opening ++ (text ++ block_closing after (feed && full)))
          + owed_in (if feed && full then block_ended after else blocked after (left_after it call)).inside
          ≤ owed_in it.inside + (lines_rate * units call + 30 * units call)
      by_case false other full = omega (arith, here, few-opened it call, length-append opening (text ++ []), length-append text [])
      by_case true feeds false = omega (arith, here, few-opened it call, length-append opening (text ++ []), length-append text [])
      by_case true feeds true =
          omega (
            arith,
            here,
            few-opened it call,
            units-feed call feeds,
            length-append opening (text ++ (element_end after.at.shown ++ block_end)),
            length-append text (element_end after.at.shown ++ block_end),
            length-append (element_end after.at.shown) block_end,
            ap length (same feeds).0,
            (same feeds).1,
          )

  number-numbered : (call : Call) (it : Blocked) → it.inside.number ≤ max_number → (blocked_after true call it).inside.number ≤ max_number
  number-numbered call it few = by_case (ends_block it call)
    where
      after : Lined
      after = lined_after call it.inside

      by_case : (ends : Bool) → (if ends then block_ended after else blocked after (left_after it call)).inside.number ≤ max_number
      by_case true = number-few call it.inside few
      by_case false = number-few call it.inside few

  few-numbered : (it : Blocked) (calls : List Call) → it.inside.number ≤ max_number
      → length (blocked_from true styling it calls) ≤ owed_in it.inside + (lines_rate * all_units calls + 30 * all_units calls)
  unfolding all_units
  few-numbered it [] few = omega arith
  few-numbered it (call ∷ calls) few =
      let after = blocked_after true call it in
      omega (
        arith,
        length-append (blocked_call true styling it call) (blocked_from true styling after calls),
        few-numbered_call call it few,
        few-numbered after calls (number-numbered call it few),
        times-add lines_rate (units call) (all_units calls),
      )

  few-numbered_html : (calls : List Call) → length (blocked_html true styling calls) ≤ (lines_rate + 30) * all_units calls + 25
  few-numbered_html calls =
      let last = blocked_at_end true blocked_at_start calls in
      let close = if last.left == 0 then [] else block_end in
      omega (
        arith,
        length-append (blocked_from true styling blocked_at_start calls) (blocked_end true last),
        length-append (lined_end last.inside) close,
        few-end styling rate span much four spans last.inside,
        choose (λ l. length l ≤ 7) (last.left == 0) [] block_end (omega arith) (omega arith),
        few-numbered blocked_at_start calls (omega arith),
        pending-same styling rate span much four spans at_start.shown false,
        add-times lines_rate 30 (all_units calls),
      )

-- The HTML of calls in blocks, text or numbered lines, beside what they may lead to;
pub length-blocked_units : (styling : Styling) (calls : List Call)
    → length (blocked_html false styling calls) ≤ (html_of_a_byte styling + block_of_a_byte) * all_units calls + 41
unfolding AtMost
length-blocked_units (Inline scheme) calls =
    few-blocked_html (Inline scheme) 74 275 (omega arith) (omega arith) refl (λ style. AtMost-span_begin (Inline scheme) style) calls
length-blocked_units Classes calls = few-blocked_html Classes 35 119 (omega arith) (omega arith) refl AtMost-span_of_classes calls

pub length-numbered_units : (styling : Styling) (calls : List Call)
    → length (blocked_html true styling calls) ≤ (lined_html_of_a_byte styling + block_tags) * all_units calls + 25
unfolding AtMost
length-numbered_units (Inline scheme) calls =
    few-numbered_html (Inline scheme) 74 275 (omega arith) (omega arith) refl (λ style. AtMost-span_begin (Inline scheme) style) calls
length-numbered_units Classes calls = few-numbered_html Classes 35 119 (omega arith) (omega arith) refl AtMost-span_of_classes calls

-- that of text of a stream,
pub length-blocked_html : (styling : Styling) (bytes : List ℕ) (calls : List Call) → AreCalls bytes calls
    → length (blocked_html false styling calls) ≤ (html_of_a_byte styling + block_of_a_byte) * length bytes + 41
length-blocked_html styling bytes calls are =
    omega (
      arith,
      length-blocked_units styling calls,
      times-less (html_of_a_byte styling + block_of_a_byte) (all_units calls) (length bytes) (few-units bytes calls are),
    )

-- and of numbered lines.
pub length-numbered_html : (styling : Styling) (bytes : List ℕ) (calls : List Call) → AreCalls bytes calls
    → length (blocked_html true styling calls) ≤ (lined_html_of_a_byte styling + block_tags) * length bytes + 25
length-numbered_html styling bytes calls are =
    omega (
      arith,
      length-numbered_units styling calls,
      times-less (lined_html_of_a_byte styling + block_tags) (all_units calls) (length bytes) (few-units bytes calls are),
    )
