-- How long the HTML of a stream is, beside its bytes. What calls may lead to is counted in units, of which each byte of a stream
-- pays for one: a text is one, a change of style three, and a link five and one for each of its bytes.
use Rattle.std.proofs.Common.{◌≡◌, ◌≤◌, ℕ, ◌+◌, ◌*◌, Bool, true, false, ◌&&◌, eqb, cond, List, [], ◌∷◌, ◌++◌, length, map, refl, ap, ap₂, arith, length-append}
use Rattle.std.specs.Prelude.{encode_utf8, if◌then◌else◌}
use Rattle.std.specs.Str.{bytes_eq}
use Rattle.std.specs.List.{AllByRecursion, filter}
use Rattle.std.proofs.lemmas.Bool.{cond_both, false≢true}
use Rattle.anstyle_parse.specs.Stream.Bytes.{is_control, semicolon}
use Rattle.anstyle_parse.specs.Stream.Arguments.{is_kept, parts_of, significant, has_shape, groups_of, collected_of, ignore_of}
use Rattle.anstyle_parse.specs.Stream.Call.{Call, print, execute, hook, put, unhook, osc_dispatch, csi_dispatch, esc_dispatch}
use Rattle.anstyle_parse.specs.Stream.Items.{Body, escape, csi, dcs_header, dcs, dcs_ignored, osc, sos_pm_apc, End, complete, cancelled, broken_off, unfinished, Item, single, character, broken, begun, sequence, body_text, end_text, item_text, items_text, IsItem}
use Rattle.anstyle_parse.specs.Stream.Calls.{is_executed as executes_alone, is_printed, single_calls, is_put, executes, control_dispatch, body_calls, end_calls, item_calls, items_calls, AreCalls}
use Rattle.anstyle_parse.proofs.Characters.Tests.{length-IsProperFront}
use Rattle.anstyle_parse.proofs.Characters.Scalars.{well_formed-AreOfCharacter, length-encode-some}
use Rattle.anstyle_parse.specs.Stream.Characters.{character_of}
use Rattle.anstyle_parse.proofs.Lists.Parts.{length-filter_le}
use Rattle.ansi_strip.specs.Strip.{is_layout}
use Rattle.ansi_style.specs.declared.style.Style.{Style}
use Rattle.ansi_style.specs.Style.{are_equal}
use Rattle.ansi_style.specs.Rendition.{style_after}
use Rattle.ansi_style.proofs.EqualityLemmas.{are_equal-refl}
use Rattle.ansi_html.specs.declared.scheme.Styling.{Styling}
use Rattle.ansi_html.specs.declared.scheme.Styling.TheVariants.{Inline, Classes}
use Rattle.ansi_html.specs.Links.{is_link_command, link_of}
use Rattle.ansi_html.specs.Html.{escaped, escaped_text, span_begin, span_end, Element, element, link_begin, element_begin, element_end, change, Standing, at_start, line_break, beginning, text_html, call_html, standing_after, html_from, standing_at_end, html, html_of_a_byte}
use Rattle.anstyle_parse.specs.Stream.Calls.{Continues}
use Rattle.anstyle_parse.specs.Machine.Decoder.{decoded}
use Rattle.anstyle_parse.specs.Machine.Step.{new_machine, machine_calls}
use Rattle.anstyle_parse.proofs.Agreement.Whole.{AreCalls-machine}
use Rattle.ansi_html.proofs.SoundLemmas.{AreSound}
use Rattle.ansi_html.specs.Writer.{in_element}
use Rattle.ansi_html.proofs.HtmlLemmas.{call_html-print, standing_after-print, call_html-layout, standing_after-layout, call_html-other, standing_after-other, bytes_eq-refl}
use Rattle.ansi_html.proofs.LengthLemmas.{AtMost, AtMost-end, AtMost-span_end, AtMost-link_begin, AtMost-span_begin, AtMost-span_of_classes, AtMost-line_break, length-escaped, length-stripped, length-link}
use Rattle.ansi_html.proofs.WholeLemmas.{says_link}

-- the units of a link, of a call, and of calls
unfoldable pub link_units : List ℕ → ℕ
link_units [] = 3
link_units (b ∷ link) = 5 + length (b ∷ link)

unfoldable pub units : Call → ℕ
units (print c) = 1
units (execute b) = 1
units (osc_dispatch parts bell) = if is_link_command parts then link_units (link_of parts) else 0
units (csi_dispatch gs is ig f) = 3
units call = 0

unfoldable pub all_units : List Call → ℕ
all_units [] = 0
all_units (call ∷ calls) = units call + all_units calls

pub all_units-append : (calls more : List Call) → all_units (calls ++ more) ≡ all_units calls + all_units more
unfolding all_units
all_units-append [] more = omega arith
all_units-append (call ∷ calls) more = omega (arith, all_units-append calls more)

-- What the bytes pay for.
units-executes : (bytes : List ℕ) → all_units (map execute bytes) ≡ length bytes
unfolding all_units units
units-executes [] = refl
units-executes (b ∷ bytes) = omega (arith, units-executes bytes)

few-executes : (bytes : List ℕ) → all_units (executes bytes) ≤ length bytes
few-executes bytes = omega (arith, units-executes (filter is_control bytes), length-filter_le is_control bytes)

units-puts : (bytes : List ℕ) → all_units (map put bytes) ≡ 0
unfolding all_units units
units-puts [] = refl
units-puts (b ∷ bytes) = omega (arith, units-puts bytes)

-- a command is as long as its link and what stands before that
some-command : (text : List ℕ) → is_link_command (parts_of text) ≡ true → 1 ≤ length text
unfolding parts_of
some-command [] command = absurd (false≢true command)
some-command (b ∷ text) command = omega arith

few-command : (text : List ℕ) → is_link_command (parts_of text) ≡ true → link_units (link_of (parts_of text)) ≤ 2 + length text
unfolding link_units
few-command text command = by_link (link_of (parts_of text)) refl
  where
    by_link : (link : List ℕ) → link_of (parts_of text) ≡ link → link_units link ≤ 2 + length text
    by_link [] is = omega (arith, some-command text command)
    by_link (b ∷ link) is =
        let says = says_link text command (λ none. cc (none, is)) in
        omega (
          arith,
          ap length says.whole,
          ap length is,
          length-append says.params (semicolon ∷ link_of (parts_of text)),
          length-filter_le is_kept text,
        )

few-osc : (text : List ℕ) (bell : Bool) → units (osc_dispatch (parts_of text) bell) ≤ 2 + length text
unfolding units
few-osc text bell = by_case (is_link_command (parts_of text)) refl
  where
    by_case : (command : Bool) → is_link_command (parts_of text) ≡ command → (if command then link_units (link_of (parts_of text)) else 0) ≤ 2 + length text
    by_case true is = few-command text is
    by_case false is = omega arith

few-control : (header : List ℕ) (final : ℕ) → all_units (control_dispatch header final) ≤ 3
unfolding all_units units
few-control header final =
    cond_both (has_shape header) (csi_dispatch (groups_of header) (collected_of header) (ignore_of header) final ∷ []) [] (λ l. all_units l ≤ 3) (λ e. omega arith) (λ e. omega arith)

-- what a body keeps for its end
kept_for : Body → ℕ
kept_for (csi between header) = 2
kept_for (osc between text) = 2 + length text
kept_for (dcs between header final text) = 1
kept_for body = 1

few-body : (body : Body) → all_units (body_calls body) + kept_for body ≤ length (body_text body)
unfolding kept_for all_units units
few-body (escape bytes) = omega (arith, few-executes bytes)
few-body (csi between header) =
    omega (arith, all_units-append (executes between) (executes header), length-append between (0x5B ∷ header), few-executes between, few-executes header)
few-body (dcs_header between header) = omega (arith, length-append between (0x50 ∷ header), few-executes between)
few-body (dcs between header final text) =
    omega (
      arith,
      all_units-append (executes between) (hook (groups_of (significant header)) (collected_of (significant header)) (ignore_of (significant header)) final ∷ map put (filter is_put text)),
      length-append between (0x50 ∷ (header ++ final ∷ text)),
      few-executes between,
      units-puts (filter is_put text),
    )
few-body (dcs_ignored between header byte text) = omega (arith, length-append between (0x50 ∷ (header ++ byte ∷ text)), few-executes between)
few-body (osc between text) = omega (arith, length-append between (0x5D ∷ text), few-executes between)
few-body (sos_pm_apc between kind text) = omega (arith, length-append between (kind ∷ text), few-executes between)

few-end : (body : Body) (end : End) → all_units (end_calls body end) ≤ kept_for body + length (end_text end)
unfolding kept_for all_units units
few-end (csi between header) (complete byte) = few-control (significant header) byte
few-end (osc between text) (complete byte) = omega (arith, few-osc text true)
few-end (osc between text) (cancelled byte) = omega (arith, few-osc text false)
few-end (osc between text) broken_off = omega (arith, few-osc text false)
few-end (osc between text) unfinished = omega arith
few-end (csi between header) (cancelled byte) = omega arith
few-end (csi between header) broken_off = omega arith
few-end (csi between header) unfinished = omega arith
few-end (escape bytes) (complete byte) = omega arith
few-end (escape bytes) (cancelled byte) = omega arith
few-end (escape bytes) broken_off = omega arith
few-end (escape bytes) unfinished = omega arith
few-end (dcs_header between header) (complete byte) = omega arith
few-end (dcs_header between header) (cancelled byte) = omega arith
few-end (dcs_header between header) broken_off = omega arith
few-end (dcs_header between header) unfinished = omega arith
few-end (dcs between header final text) (complete byte) = omega arith
few-end (dcs between header final text) (cancelled byte) = omega arith
few-end (dcs between header final text) broken_off = omega arith
few-end (dcs between header final text) unfinished = omega arith
few-end (dcs_ignored between header x text) (complete byte) = omega arith
few-end (dcs_ignored between header x text) (cancelled byte) = omega arith
few-end (dcs_ignored between header x text) broken_off = omega arith
few-end (dcs_ignored between header x text) unfinished = omega arith
few-end (sos_pm_apc between kind text) (complete byte) = omega arith
few-end (sos_pm_apc between kind text) (cancelled byte) = omega arith
few-end (sos_pm_apc between kind text) broken_off = omega arith
few-end (sos_pm_apc between kind text) unfinished = omega arith

few-single : (b : ℕ) → all_units (single_calls b) ≤ 1
unfolding single_calls all_units units
few-single b =
    cond_both (is_printed b) (print b ∷ []) (cond (executes_alone b) (execute b ∷ []) []) (λ l. all_units l ≤ 1) (λ e. omega arith)
    (λ e. cond_both (executes_alone b) (execute b ∷ []) [] (λ l. all_units l ≤ 1) (λ f. omega arith) (λ f. omega arith))

few-item : (item : Item) → IsItem item → all_units (item_calls item) ≤ length (item_text item)
unfolding all_units units
few-item (single byte) is = few-single byte
few-item (character bytes) is = omega (arith, ap length (well_formed-AreOfCharacter bytes is).1, length-encode-some (character_of bytes))
few-item (broken front) is = omega (arith, length-IsProperFront front is)
few-item (begun front) is = omega arith
few-item (sequence body end) is =
    omega (arith, all_units-append (body_calls body) (end_calls body end), length-append (body_text body) (end_text end), few-body body, few-end body end)

few-items : (items : List Item) → AllByRecursion IsItem items → all_units (items_calls items) ≤ length (items_text items)
unfolding all_units
few-items [] each = omega arith
few-items (item ∷ items) each =
    omega (arith, all_units-append (item_calls item) (items_calls items), length-append (item_text item) (items_text items), few-item item each.0, few-items items each.1)

pub few-units : (bytes : List ℕ) (calls : List Call) → AreCalls bytes calls → all_units calls ≤ length bytes
few-units bytes calls are = omega (arith, ap all_units are.2, ap length are.1.whole, few-items are.0 are.1.each)

-- products
pub times-add : (k m n : ℕ) → k * (m + n) ≡ k * m + k * n
times-add k m n = grind arith

pub times-less : (k m n : ℕ) → m ≤ n → k * m ≤ k * n
times-less k m n less = grind (arith, less)

six-times : (k n : ℕ) → 30 ≤ k → 6 * n ≤ k * n
six-times k n much = grind (arith, much)

-- Four units are a change of styles and of links, a line break and a text.
module _ (styling : Styling) (rate span : ℕ) (much : 30 ≤ rate) (four : 4 * rate ≡ span + 21)
    (spans : (style : Style) → length (span_begin styling style) ≤ span) where
  -- what is still to be written by a change that is selected, but for what its text pays
  unfoldable pub pending_by : (linked same : Bool) → (link : ℕ) → ℕ
  pending_by linked same link = if linked then (if same then 0 else 3 * rate) else 3 * rate + link

  abbrev pub pending : Standing → ℕ
  pending at =
      pending_by (bytes_eq at.shown.link at.selected.link) (are_equal at.shown.style at.selected.style) (length (link_begin styling at.selected.link))

  few-change : (at : Standing) → length (change styling at.shown at.selected) + 10 ≤ pending at + rate
  unfolding AtMost pending_by
  few-change at = by_case (bytes_eq at.shown.link at.selected.link) (are_equal at.shown.style at.selected.style)
    where
      changed : length (element_end at.shown ++ element_begin styling at.selected) ≤ 11 + (length (link_begin styling at.selected.link) + span)
      changed =
          omega (
            arith,
            length-append (element_end at.shown) (element_begin styling at.selected),
            length-append (link_begin styling at.selected.link) (span_begin styling at.selected.style),
            AtMost-end at.shown,
            spans at.selected.style,
          )

      by_case : (linked same : Bool)
          → length (if same && linked then [] else if linked then span_end at.shown.style ++ span_begin styling at.selected.style else element_end at.shown ++ element_begin styling at.selected) + 10
          ≤ (if linked then (if same then 0 else 3 * rate) else 3 * rate + length (link_begin styling at.selected.link)) + rate
      by_case true true = omega (arith, much)
      by_case true false = omega (arith, four, length-append (span_end at.shown.style) (span_begin styling at.selected.style), AtMost-span_end at.shown.style, spans at.selected.style)
      by_case false true = omega (arith, four, changed)
      by_case false false = omega (arith, four, changed)

  pub pending-same : (it : Element) (returned : Bool) → pending (in_element it returned) ≡ 0
  unfolding pending_by
  pending-same it returned = ap₂ (λ linked same. pending_by linked same (length (link_begin styling it.link))) (bytes_eq-refl it.link) (are_equal-refl it.style)

  -- a text
  few-text : (at : Standing) (is_line_feed : Bool) (text : List ℕ) → length text ≤ 6 → length (beginning styling at is_line_feed ++ text) ≤ pending at + rate
  unfolding AtMost
  few-text at is_line_feed text few =
      let changed = change styling at.shown at.selected in
      let broken = line_break at.returned is_line_feed in
      omega (arith, few, few-change at, length-append (changed ++ broken) text, length-append changed broken, AtMost-line_break at.returned is_line_feed)

  -- What a call writes, and what is then to be written.
  unfoldable pub Few : Standing → Call → Type 0
  Few at call = length (call_html styling at call) + pending (standing_after call at) ≤ pending at + rate * units call

  few-print : (at : Standing) (c : ℕ) → Few at (print c)
  unfolding Few units
  few-print at c =
      omega (
        arith,
        ap length (call_html-print styling at c),
        few-text at false (escaped_text (encode_utf8 c)) (length-stripped (print c)),
        ap (λ (it : Standing). pending it) (standing_after-print styling at c),
        pending-same at.selected false,
      )

  few-execute : (at : Standing) (b : ℕ) → Few at (execute b)
  unfolding Few units
  few-execute at b = by_case (is_layout b) refl
    where
      by_case : (layout : Bool) → is_layout b ≡ layout → length (call_html styling at (execute b)) + pending (standing_after (execute b) at) ≤ pending at + rate * 1
      by_case true is =
          omega (
            arith,
            ap length (call_html-layout styling at b is),
            few-text at (eqb b 0x0A) (escaped b) (length-escaped b),
            ap (λ (it : Standing). pending it) (standing_after-layout styling at b is),
            pending-same at.selected (eqb b 0x0D),
          )
      by_case false is =
          omega (arith, ap length (call_html-other styling at b is), ap (λ (it : Standing). pending it) (standing_after-other styling at b is))

  few-csi : (at : Standing) (style : Style)
      → pending (record { shown = at.shown; selected = element style at.selected.link; returned = at.returned }) ≤ pending at + rate * 3
  unfolding pending_by
  few-csi at style = by_case (bytes_eq at.shown.link at.selected.link) (are_equal at.shown.style style) (are_equal at.shown.style at.selected.style)
    where
      by_case : (linked same before : Bool)
          → (if linked then (if same then 0 else 3 * rate) else 3 * rate + length (link_begin styling at.selected.link))
          ≤ (if linked then (if before then 0 else 3 * rate) else 3 * rate + length (link_begin styling at.selected.link)) + rate * 3
      by_case true true true = omega arith
      by_case true true false = omega arith
      by_case true false true = omega arith
      by_case true false false = omega arith
      by_case false same before = omega arith

  -- a link that is selected
  length-link_begin : (link : List ℕ) → 3 * rate + length (link_begin styling link) ≤ rate * link_units link
  unfolding link_units AtMost
  length-link_begin [] = omega arith
  length-link_begin (b ∷ link) =
      omega (arith, much, AtMost-link_begin styling (b ∷ link), six-times rate (length (b ∷ link)) much, times-add rate 5 (length (b ∷ link)))

  few-link : (at : Standing) (link : List ℕ) → pending (record { shown = at.shown; selected = element at.selected.style link; returned = at.returned }) ≤ rate * link_units link
  unfolding pending_by
  few-link at link = by_case (bytes_eq at.shown.link link) (are_equal at.shown.style at.selected.style)
    where
      by_case : (linked same : Bool) → (if linked then (if same then 0 else 3 * rate) else 3 * rate + length (link_begin styling link)) ≤ rate * link_units link
      by_case true true = omega (arith, length-link_begin link)
      by_case true false = omega (arith, length-link_begin link)
      by_case false same = length-link_begin link

  few-osc_dispatch : (at : Standing) (parts : List (List ℕ)) (bell : Bool) → Few at (osc_dispatch parts bell)
  unfolding Few units text_html
  few-osc_dispatch at parts bell = by_case (is_link_command parts)
    where
      by_case : (command : Bool)
          → 0 + pending (record { shown = at.shown; selected = element at.selected.style (if command then link_of parts else at.selected.link); returned = at.returned })
          ≤ pending at + rate * (if command then link_units (link_of parts) else 0)
      by_case true = omega (arith, few-link at (link_of parts))
      by_case false = omega arith

  pub few-call : (at : Standing) (call : Call) → Few at call
  unfolding Few units text_html
  few-call at (print c) = few-print at c
  few-call at (execute b) = few-execute at b
  few-call at (csi_dispatch gs is ig f) = omega (arith, few-csi at (style_after (csi_dispatch gs is ig f) at.selected.style))
  few-call at (osc_dispatch parts bell) = few-osc_dispatch at parts bell
  few-call at (hook gs is ig f) = omega arith
  few-call at (put b) = omega arith
  few-call at unhook = omega arith
  few-call at (esc_dispatch is ig f) = omega arith

  pub few-from : (at : Standing) (calls : List Call) → length (html_from styling at calls) ≤ pending at + rate * all_units calls
  unfolding all_units Few
  few-from at [] = omega arith
  few-from at (call ∷ calls) =
      let after = standing_after call at in
      omega (
        arith,
        length-append (call_html styling at call) (html_from styling after calls),
        few-call at call,
        few-from after calls,
        times-add rate (units call) (all_units calls),
      )

  -- where a stream is open at its pieces
  pending-few : (at : Standing) → AreSound at → pending at ≤ 3 * rate + 6235
  unfolding pending_by
  pending-few at sound = by_case (bytes_eq at.shown.link at.selected.link) (are_equal at.shown.style at.selected.style)
    where
      by_case : (linked same : Bool) → (if linked then (if same then 0 else 3 * rate) else 3 * rate + length (link_begin styling at.selected.link)) ≤ 3 * rate + 6235
      by_case true true = omega arith
      by_case true false = omega arith
      by_case false same = omega (arith, length-link styling at.selected.link sound.selected)

  pub few-continued : (held bytes : List ℕ) (calls : List Call) (at : Standing) → AreSound at → Continues held bytes calls
      → length (html_from styling at calls) ≤ rate * (length held + length bytes) + (3 * rate + 6235)
  few-continued held bytes calls at sound continues =
      let first = machine_calls decoded held (new_machine []) in
      let paid = few-units (held ++ bytes) (first ++ calls) (continues first (AreCalls-machine held)) in
      omega (
        arith,
        few-from at calls,
        pending-few at sound,
        times-less rate (all_units calls) (length held + length bytes) (omega (arith, paid, all_units-append first calls, length-append held bytes)),
      )

  few-html : (calls : List Call) → length (html styling calls) ≤ rate * all_units calls + 11
  unfolding AtMost
  few-html calls =
      let last = (standing_at_end at_start calls).shown in
      omega (
        arith,
        length-append (html_from styling at_start calls) (element_end last),
        few-from at_start calls,
        pending-same at_start.shown false,
        AtMost-end last,
      )

-- The HTML of calls, beside what they may lead to,
pub length-html_units : (styling : Styling) (calls : List Call) → length (html styling calls) ≤ html_of_a_byte styling * all_units calls + 11
unfolding AtMost
length-html_units (Inline scheme) calls = few-html (Inline scheme) 74 275 (omega arith) refl (λ style. AtMost-span_begin (Inline scheme) style) calls
length-html_units Classes calls = few-html Classes 35 119 (omega arith) refl AtMost-span_of_classes calls

-- and that of a stream.
pub length-html : (styling : Styling) (bytes : List ℕ) (calls : List Call) → AreCalls bytes calls → length (html styling calls) ≤ html_of_a_byte styling * length bytes + 11
length-html styling bytes calls are =
    omega (arith, length-html_units styling calls, times-less (html_of_a_byte styling) (all_units calls) (length bytes) (few-units bytes calls are))

-- The HTML of some of its bytes, after others, of which so many are held.
pub length-together : (styling : Styling) (held bytes : List ℕ) (calls : List Call) (at : Standing) → AreSound at → Continues held bytes calls
    → length (html_from styling at calls) ≤ html_of_a_byte styling * (length held + length bytes) + 6457
unfolding AtMost
length-together (Inline scheme) held bytes calls at sound continues =
    omega (arith, few-continued (Inline scheme) 74 275 (omega arith) refl (λ style. AtMost-span_begin (Inline scheme) style) held bytes calls at sound continues)
length-together Classes held bytes calls at sound continues =
    omega (arith, few-continued Classes 35 119 (omega arith) refl AtMost-span_of_classes held bytes calls at sound continues)
