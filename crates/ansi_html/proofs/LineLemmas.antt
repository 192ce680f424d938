-- HTML in lines: a reader sees what it sees of the HTML without them; it has no 0D, and is UTF-8.
use Rattle.std.proofs.Common.{◌≡◌, ℕ, Bool, true, false, List, [], ◌∷◌, ◌++◌, codes, map, refl, sym, ap, ap₂, ◌∙◌, append_assoc, append-nil}
use Rattle.std.specs.Prelude.{not, ◌&&◌, if◌then◌else◌}
use Rattle.std.specs.List.{flat_map}
use Rattle.std.specs.Str.{IsUtf8}
use Rattle.std.proofs.lemmas.Bool.{eqb-true}
use Rattle.std.proofs.lemmas.Str.{IsUtf8-append, IsUtf8-nil}
use Rattle.anstyle_parse.specs.Stream.Call.{Call, print, execute, hook, put, unhook, osc_dispatch, csi_dispatch, esc_dispatch}
use Rattle.ansi_strip.specs.Strip.{stripped_call, stripped}
use Rattle.ansi_strip.proofs.Showable.{IsShowable, AreShowable}
use Rattle.ansi_html.specs.declared.scheme.Styling.{Styling}
use Rattle.ansi_html.specs.Links.{link_after}
use Rattle.ansi_html.specs.Affordable.{earned, feed_counts, earned_by_text, is_paid, link_paid, left_of, spare_after, link_kept, end_of_link, end_unpaid, affordable_from, affordable}
use Rattle.ansi_html.specs.Html.{Element, element, no_element, element_end, Standing, after_text, is_executed, call_html, standing_after, html}
use Rattle.ansi_html.specs.Lines.{line_begin, line_end, next_number, Lined, lined_at_start, line_opening, line_closing, ended, going_on, after_feed, after_others, lined_call, lined_after, lined_from, lined_at_end, lined_end, lined_html}
use Rattle.ansi_html.specs.Reader.{Attributes, no_attributes, in_force, within, Seen, seen_from, seen, in_text, read_of, read, byte_of, shown_from}
use Rattle.ansi_html.proofs.AffordableLemmas.{link-ended, stripped-affordable}
use Rattle.ansi_html.proofs.ColorLemmas.{choose}
use Rattle.ansi_html.proofs.NewlineLemmas.{is_not_return, HasNoReturn, HasNoReturn-append, HasNoReturn-text, HasNoReturn-end, normalized-same}
use Rattle.ansi_html.proofs.TextLemmas.{IsUtf8-text_html, IsUtf8-stripped, IsUtf8-end, IsUtf8-ascii}
use Rattle.ansi_html.proofs.SoundLemmas.{IsSound, AreSound, AreSound-start, AreSound-after, IsSound-none}
use Rattle.ansi_html.proofs.ReadLemmas.{seen_text, seen_calls, open_in, open-none, seen-text, seen-element_end, seen-html, read-html, text-html}
use Rattle.ansi_html.proofs.LineTagLemmas.{in_line, seen-line_begin, HasNoReturn-line_begin, IsUtf8-line_begin}

-- the elements around the text of a stream, where a line is open and where none is
abbrev pub around_text : (outer : List Attributes) → (is_open : Bool) → List Attributes
around_text outer is_open = if is_open then in_line outer else outer

pub outermost : (outer : List Attributes) → in_force outer ≡ no_attributes → (is_open : Bool) → in_force (around_text outer is_open) ≡ no_attributes
outermost outer nothing true = ap (λ (it : Attributes). within it no_attributes) nothing
outermost outer nothing false = nothing

-- what is seen of calls does not depend on the element of the text before them
seen_text-ended : (styling : Styling) (shown : Element) (at : Standing) (is_line_feed : Bool) (bytes : List ℕ)
    → seen_text styling (record { shown = shown; selected = at.selected; returned = at.returned }) is_line_feed bytes ≡ seen_text styling at is_line_feed bytes
seen_text-ended styling shown at is_line_feed [] = refl
seen_text-ended styling shown at is_line_feed (b ∷ bytes) = refl

pub seen_calls-ended : (styling : Styling) (shown : Element) (at : Standing) (calls : List Call)
    → seen_calls styling (record { shown = shown; selected = at.selected; returned = at.returned }) calls ≡ seen_calls styling at calls
seen_calls-ended styling shown at [] = refl
seen_calls-ended styling shown at (call ∷ calls) =
    let bytes = stripped_call call in
    ap₂ (λ a b. a ++ b) (seen_text-ended styling shown at (is_executed 0x0A call) bytes)
    (seen_calls-ended styling (after_text shown at.selected bytes) (standing_after call at) calls)

-- a call that is a line feed has that one for its text
pub feed-text : (call : Call) → is_executed 0x0A call ≡ true → stripped_call call ≡ 0x0A ∷ []
feed-text (execute b) is = ap (λ k. stripped_call (execute k)) (eqb-true b 0x0A is)
feed-text (print c) is = absurd (cc is)
feed-text (hook gs is ig f) e = absurd (cc e)
feed-text (put b) e = absurd (cc e)
feed-text unhook e = absurd (cc e)
feed-text (osc_dispatch parts bell) e = absurd (cc e)
feed-text (csi_dispatch gs is ig f) e = absurd (cc e)
feed-text (esc_dispatch is ig f) e = absurd (cc e)

-- Where no line is open no element is.
abbrev pub IsClosed : Lined → Type 0
IsClosed it = it.is_open ≡ false → it.at.shown ≡ no_element

-- within elements that say nothing
module _ (styling : Styling) (outer : List Attributes) where
  -- where a reader is between two calls
  abbrev pub there : Lined → List Attributes
  there it = open_in (around_text outer it.is_open) styling it.at.shown

  abbrev pub seen_at : Lined → List ℕ → List Seen
  seen_at it bytes = seen_from (in_text (there it)) bytes

  -- A line begins before text.
  abbrev open_of : Lined → List ℕ → Bool
  open_of it bytes = after_text it.is_open true bytes

  seen-opening : (it : Lined) (bytes rest : List ℕ) → IsClosed it
      → seen_at it (line_opening it bytes ++ rest) ≡ seen_from (in_text (open_in (around_text outer (open_of it bytes)) styling it.at.shown)) rest
  seen-opening it [] rest closed = refl
  seen-opening it (b ∷ bytes) rest closed = by_case it.is_open closed
    where
      by_case : (is_open : Bool) → (is_open ≡ false → it.at.shown ≡ no_element)
          → seen_from (in_text (open_in (around_text outer is_open) styling it.at.shown)) ((if is_open then [] else line_begin (next_number it.number)) ++ rest)
          ≡ seen_from (in_text (open_in (in_line outer) styling it.at.shown)) rest
      by_case true none = refl
      by_case false none =
          ap (λ shown. seen_from (in_text (open_in outer styling shown)) (line_begin (next_number it.number) ++ rest)) (none refl)
          ∙ ap (λ opened. seen_from (in_text opened) (line_begin (next_number it.number) ++ rest)) (open-none styling outer)
          ∙ seen-line_begin outer (next_number it.number) rest
          ∙ ap (λ opened. seen_from (in_text opened) rest) (sym (open-none styling (in_line outer)) ∙ ap (λ shown. open_in (in_line outer) styling shown) (sym (none refl)))

  -- A line ends after its line feed.
  module _ (call : Call) (it : Lined) (rest : List ℕ) where
    abbrev text_place : List ℕ → List Attributes
    text_place bytes = open_in (around_text outer (open_of it bytes)) styling (after_text it.at.shown it.at.selected bytes)

    closed_after : seen_from (in_text (open_in (in_line outer) styling it.at.selected)) ((element_end it.at.selected ++ line_end) ++ rest)
        ≡ seen_from (in_text (open_in outer styling no_element)) rest
    closed_after =
        ap (seen_from (in_text (open_in (in_line outer) styling it.at.selected))) (append_assoc (element_end it.at.selected) line_end rest)
        ∙ seen-element_end (in_line outer) (line_end ++ rest) styling it.at.selected
        ∙ ap (λ opened. seen_from (in_text opened) rest) (sym (open-none styling outer))

    seen-closing : seen_from (in_text (text_place (stripped_call call))) (line_closing it (is_executed 0x0A call) ++ rest) ≡ seen_at (lined_after call it) rest
    seen-closing = by_case (is_executed 0x0A call) refl
      where
        by_case : (feed : Bool) → is_executed 0x0A call ≡ feed
            → seen_from (in_text (text_place (stripped_call call))) ((if feed then element_end it.at.selected ++ line_end else []) ++ rest)
            ≡ seen_at (if feed then after_feed call it else after_others call it) rest
        by_case true is =
            ap (λ bytes. seen_from (in_text (text_place bytes)) ((element_end it.at.selected ++ line_end) ++ rest)) (feed-text call is) ∙ closed_after
        by_case false is = refl

  -- What is seen of a call is its text.
  pub seen-lined_call : in_force outer ≡ no_attributes → (it : Lined) (call : Call) (rest : List ℕ) → IsClosed it
      → seen_at it (lined_call styling it call ++ rest)
      ≡ seen_text styling it.at (is_executed 0x0A call) (stripped_call call) ++ seen_at (lined_after call it) rest
  seen-lined_call nothing it call rest closed =
      let bytes = stripped_call call in
      let feed = is_executed 0x0A call in
      let opening = line_opening it bytes in
      let text = call_html styling it.at call in
      let closing = line_closing it feed in
      let is_open = open_of it bytes in
      ap (seen_at it) (append_assoc opening (text ++ closing) rest ∙ ap (λ l. opening ++ l) (append_assoc text closing rest))
      ∙ seen-opening it bytes (text ++ (closing ++ rest)) closed
      ∙ seen-text styling (around_text outer is_open) (outermost outer nothing is_open) it.at feed bytes (closing ++ rest)
      ∙ ap (λ l. seen_text styling it.at feed bytes ++ l) (seen-closing call it rest)

  -- at the end of all text
  pub seen-lined_end : (it : Lined) (rest : List ℕ) → seen_at it (lined_end it ++ rest) ≡ seen_from (in_text outer) rest
  seen-lined_end it rest = by_case it.is_open
    where
      by_case : (is_open : Bool)
          → seen_from (in_text (open_in (around_text outer is_open) styling it.at.shown)) ((element_end it.at.shown ++ (if is_open then line_end else [])) ++ rest)
          ≡ seen_from (in_text outer) rest
      by_case true =
          ap (seen_from (in_text (open_in (in_line outer) styling it.at.shown))) (append_assoc (element_end it.at.shown) line_end rest)
          ∙ seen-element_end (in_line outer) (line_end ++ rest) styling it.at.shown
      by_case false =
          ap (seen_from (in_text (open_in outer styling it.at.shown))) (append_assoc (element_end it.at.shown) [] rest)
          ∙ seen-element_end outer rest styling it.at.shown

module _ (styling : Styling) where
  closed-text : (it : Lined) (bytes : List ℕ) → IsClosed it → after_text it.is_open true bytes ≡ false → after_text it.at.shown it.at.selected bytes ≡ no_element
  closed-text it [] closed none = closed none
  closed-text it (b ∷ bytes) closed none = absurd (cc none)

  pub closed-after : (call : Call) (it : Lined) → IsClosed it → IsClosed (lined_after call it)
  closed-after call it closed = by_case (is_executed 0x0A call)
    where
      by_case : (feed : Bool) → IsClosed (if feed then after_feed call it else after_others call it)
      by_case true = λ none. refl
      by_case false = λ none. closed-text it (stripped_call call) closed none

  -- Where a line feed leads, what is seen of calls is what is seen of them after the command that ends the link, where that
  -- can't pay.
  seen_calls-feed : (at : Standing) (paid : Bool) (calls : List Call)
      → seen_calls styling (going_on paid (ended at)) calls ≡ seen_calls styling at ((if not paid then end_of_link ∷ [] else []) ++ calls)
  seen_calls-feed at true calls = seen_calls-ended styling no_element at calls
  seen_calls-feed at false calls =
      seen_calls-ended styling no_element (going_on false at) calls
      ∙ ap (λ link. seen_calls styling (record { shown = at.shown; selected = element at.selected.style link; returned = at.returned }) calls) (sym link-ended)

  pub seen_calls-after : (call : Call) (it : Lined) (calls : List Call)
      → seen_calls styling (lined_after call it).at calls
      ≡ seen_calls styling (standing_after call it.at) (end_unpaid call it.spare it.at.selected.link ++ calls)
  seen_calls-after call it calls = by_case (is_executed 0x0A call)
    where
      paid : Bool
      paid = is_paid (earned feed_counts it.spare) (link_after call it.at.selected.link)

      by_case : (feed : Bool)
          → seen_calls styling (if feed then after_feed call it else after_others call it).at calls
          ≡ seen_calls styling (standing_after call it.at) ((if feed && not paid then end_of_link ∷ [] else []) ++ calls)
      by_case true = seen_calls-feed (standing_after call it.at) paid calls
      by_case false = refl

  -- what is spare after a call, and the link that is then selected
  pub affordable-after : (call : Call) (it : Lined) (calls : List Call)
      → affordable_from (lined_after call it).spare (lined_after call it).at.selected.link calls
      ≡ affordable_from (spare_after call it.spare it.at.selected.link) (link_kept call it.spare it.at.selected.link) calls
  affordable-after call it calls = ap₂ (λ spare link. affordable_from spare link calls) (spare (is_executed 0x0A call)) (link (is_executed 0x0A call))
    where
      after : Bool → Lined
      after feed = if feed then after_feed call it else after_others call it

      earns : ℕ
      earns = earned feed_counts it.spare

      next : List ℕ
      next = link_after call it.at.selected.link

      spare : (feed : Bool) → (after feed).spare ≡ (if feed then left_of earns next else earned_by_text (stripped_call call) it.spare)
      spare true = refl
      spare false = refl

      link : (feed : Bool) → (after feed).at.selected.link ≡ (if feed then link_paid earns next else next)
      link true = refl
      link false = refl

  -- the calls whose links can pay, from where HTML in lines stands
  abbrev pub paid_from : Lined → List Call → List Call
  paid_from it calls = affordable_from it.spare it.at.selected.link calls

  pub seen-paid : (call : Call) (it : Lined) (calls : List Call)
      → seen_calls styling (lined_after call it).at (paid_from (lined_after call it) calls)
      ≡ seen_calls styling (standing_after call it.at) (end_unpaid call it.spare it.at.selected.link
      ++ affordable_from (spare_after call it.spare it.at.selected.link) (link_kept call it.spare it.at.selected.link) calls)
  seen-paid call it calls =
      ap (seen_calls styling (lined_after call it).at) (affordable-after call it calls)
      ∙ seen_calls-after call it (affordable_from (spare_after call it.spare it.at.selected.link) (link_kept call it.spare it.at.selected.link) calls)

  seen-lined : (it : Lined) (calls : List Call) → IsClosed it
      → seen_at styling [] it (lined_from styling it calls ++ lined_end (lined_at_end it calls)) ≡ seen_calls styling it.at (paid_from it calls)
  seen-lined it [] closed = ap (seen_at styling [] it) (sym (append-nil (lined_end it))) ∙ seen-lined_end styling [] it []
  seen-lined it (call ∷ calls) closed =
      let after = lined_after call it in
      let rest = lined_from styling after calls ++ lined_end (lined_at_end after calls) in
      ap (seen_at styling [] it) (append_assoc (lined_call styling it call) (lined_from styling after calls) (lined_end (lined_at_end after calls)))
      ∙ seen-lined_call styling [] refl it call rest closed
      ∙ ap (λ l. seen_text styling it.at (is_executed 0x0A call) (stripped_call call) ++ l)
      (seen-lined after calls (closed-after call it closed) ∙ seen-paid call it calls)

  -- None of it is 0D.
  HasNoReturn-opening : (it : Lined) (bytes : List ℕ) → HasNoReturn (line_opening it bytes)
  HasNoReturn-opening it [] = refl
  HasNoReturn-opening it (b ∷ bytes) = choose HasNoReturn it.is_open [] (line_begin (next_number it.number)) refl (HasNoReturn-line_begin (next_number it.number))

  HasNoReturn-closing : (it : Lined) (feed : Bool) → HasNoReturn (line_closing it feed)
  unfolding is_not_return
  HasNoReturn-closing it feed =
      choose HasNoReturn feed (element_end it.at.selected ++ line_end) []
      (HasNoReturn-append (element_end it.at.selected) line_end (HasNoReturn-end it.at.selected) refl) refl

  pub HasNoReturn-lined_call : (it : Lined) (call : Call) → HasNoReturn (lined_call styling it call)
  HasNoReturn-lined_call it call =
      let bytes = stripped_call call in
      let feed = is_executed 0x0A call in
      HasNoReturn-append (line_opening it bytes) (call_html styling it.at call ++ line_closing it feed) (HasNoReturn-opening it bytes)
      (HasNoReturn-append (call_html styling it.at call) (line_closing it feed) (HasNoReturn-text styling it.at feed bytes) (HasNoReturn-closing it feed))

  HasNoReturn-lined : (it : Lined) (calls : List Call) → HasNoReturn (lined_from styling it calls)
  HasNoReturn-lined it [] = refl
  HasNoReturn-lined it (call ∷ calls) =
      HasNoReturn-append (lined_call styling it call) (lined_from styling (lined_after call it) calls)
      (HasNoReturn-lined_call it call) (HasNoReturn-lined (lined_after call it) calls)

  pub HasNoReturn-lined_end : (it : Lined) → HasNoReturn (lined_end it)
  unfolding is_not_return
  HasNoReturn-lined_end it =
      HasNoReturn-append (element_end it.at.shown) (if it.is_open then line_end else []) (HasNoReturn-end it.at.shown) (choose HasNoReturn it.is_open line_end [] refl refl)

  -- A reader sees what it sees of the HTML without lines of the calls whose links can pay,
  pub seen-lined_html : (calls : List Call) → seen (lined_html styling calls) ≡ seen (html styling (affordable calls))
  seen-lined_html calls =
      let last = lined_at_end lined_at_start calls in
      ap (seen_from (in_text [])) (normalized-same (lined_html styling calls)
      (HasNoReturn-append (lined_from styling lined_at_start calls) (lined_end last) (HasNoReturn-lined lined_at_start calls) (HasNoReturn-lined_end last)))
      ∙ ap (λ opened. seen_from (in_text opened) (lined_html styling calls)) (sym (open-none styling []))
      ∙ seen-lined lined_at_start calls (λ none. refl)
      ∙ sym (seen-html styling (affordable calls))

  -- and reads it; its text is that of the stream.
  pub read-lined_html : (calls : List Call) → read (lined_html styling calls) ≡ shown_from styling no_element (affordable calls)
  read-lined_html calls = ap (flat_map read_of) (seen-lined_html calls) ∙ read-html styling (affordable calls)

  pub text-lined_html : (calls : List Call) → map byte_of (read (lined_html styling calls)) ≡ stripped calls
  text-lined_html calls =
      ap (λ seen. map byte_of (flat_map read_of seen)) (seen-lined_html calls) ∙ text-html styling (affordable calls) ∙ stripped-affordable calls

  -- It is UTF-8.
  IsUtf8-opening : (it : Lined) (bytes : List ℕ) → IsUtf8 (line_opening it bytes)
  IsUtf8-opening it [] = IsUtf8-nil
  IsUtf8-opening it (b ∷ bytes) = choose IsUtf8 it.is_open [] (line_begin (next_number it.number)) IsUtf8-nil (IsUtf8-line_begin (next_number it.number))

  IsUtf8-line_end : IsUtf8 line_end
  IsUtf8-line_end = IsUtf8-ascii (codes "</span>") refl

  IsUtf8-closing : (it : Lined) (feed : Bool) → IsUtf8 (line_closing it feed)
  IsUtf8-closing it feed =
      choose IsUtf8 feed (element_end it.at.selected ++ line_end) []
      (IsUtf8-append (element_end it.at.selected) line_end (IsUtf8-end it.at.selected) IsUtf8-line_end) IsUtf8-nil

  pub AreSound-lined : (call : Call) (it : Lined) → AreSound it.at → AreSound (lined_after call it).at
  AreSound-lined call it sound = by_case (is_executed 0x0A call)
    where
      after : AreSound (standing_after call it.at)
      after = AreSound-after call it.at sound

      by_case : (feed : Bool) → AreSound (if feed then after_feed call it else after_others call it).at
      by_case true =
          let paid = is_paid (earned feed_counts it.spare) (link_after call it.at.selected.link) in
          record { shown = IsSound-none; selected = choose IsSound paid (link_after call it.at.selected.link) [] after.selected IsSound-none }
      by_case false = after

  pub IsUtf8-lined_call : (it : Lined) (call : Call) → AreSound it.at → IsShowable call → IsUtf8 (lined_call styling it call)
  IsUtf8-lined_call it call sound is =
      let bytes = stripped_call call in
      let feed = is_executed 0x0A call in
      IsUtf8-append (line_opening it bytes) (call_html styling it.at call ++ line_closing it feed) (IsUtf8-opening it bytes)
      (IsUtf8-append (call_html styling it.at call) (line_closing it feed)
      (IsUtf8-text_html styling it.at feed bytes sound (IsUtf8-stripped call is)) (IsUtf8-closing it feed))

  IsUtf8-lined : (it : Lined) (calls : List Call) → AreSound it.at → AreShowable calls → IsUtf8 (lined_from styling it calls)
  IsUtf8-lined it [] sound are = IsUtf8-nil
  IsUtf8-lined it (call ∷ calls) sound are =
      IsUtf8-append (lined_call styling it call) (lined_from styling (lined_after call it) calls) (IsUtf8-lined_call it call sound are.0)
      (IsUtf8-lined (lined_after call it) calls (AreSound-lined call it sound) are.1)

  pub IsUtf8-lined_end : (it : Lined) → IsUtf8 (lined_end it)
  IsUtf8-lined_end it =
      IsUtf8-append (element_end it.at.shown) (if it.is_open then line_end else []) (IsUtf8-end it.at.shown) (choose IsUtf8 it.is_open line_end [] IsUtf8-line_end IsUtf8-nil)

  pub IsUtf8-lined_html : (calls : List Call) → AreShowable calls → IsUtf8 (lined_html styling calls)
  IsUtf8-lined_html calls are =
      let last = lined_at_end lined_at_start calls in
      IsUtf8-append (lined_from styling lined_at_start calls) (lined_end last) (IsUtf8-lined lined_at_start calls AreSound-start are) (IsUtf8-lined_end last)
