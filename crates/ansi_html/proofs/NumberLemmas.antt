-- Each line of HTML in lines is one element, with its number.
use Rattle.std.proofs.Common.{◌≡◌, ◌≢◌, ℕ, Bool, true, false, ◌⊎◌, inl, inr, eqb, List, [], ◌∷◌, ◌++◌, map, refl, sym, ap, ◌∙◌, subst, append_assoc, append-nil, arith}
use Rattle.std.specs.Prelude.{not, encode_utf8, if◌then◌else◌}
use Rattle.std.specs.List.{flat_map, list_all}
use Rattle.std.proofs.lemmas.Bool.{and_from, ne_eqb}
use Rattle.std.proofs.lemmas.List.Folds.{list_all-append}
use Rattle.std.proofs.lemmas.Grind.{flat_map-append}
use Rattle.anstyle_parse.specs.Stream.Call.{Call, print, execute, hook, put, unhook, osc_dispatch, csi_dispatch, esc_dispatch}
use Rattle.ansi_strip.specs.Strip.{is_layout, stripped_call}
use Rattle.ansi_strip.proofs.Showable.{IsShowable, AreShowable}
use Rattle.ansi_html.specs.declared.scheme.Styling.{Styling}
use Rattle.ansi_html.specs.Html.{Element, no_element, element_end, Standing, after_text, text_html, is_executed, call_html}
use Rattle.ansi_html.specs.Lines.{line_begin, line_end, next_number, Lined, text_number, lined_at_start, line_opening, line_closing, lined_after, lined_from, lined_at_end, lined_end, lined_html, is_no_feed, HasNoLineFeed, text_in, AreLines, no_line, line, last, after_feed, after_others}
use Rattle.ansi_html.specs.Grammar.{IsFragment}
use Rattle.ansi_html.specs.Reader.{attributes_of, in_text, seen_from, read_of, byte_of}
use Rattle.ansi_html.proofs.NewlineLemmas.{HasNoReturn, HasNoReturn-append, HasNoReturn-text, HasNoReturn-end, normalized-same}
use Rattle.ansi_html.proofs.SoundLemmas.{AreSound, AreSound-start}
use Rattle.ansi_html.proofs.LawfulText.{is_textual, AreTextual, ArePrinted, ArePrinted-encode, AreTextual-stripped}
use Rattle.ansi_html.proofs.GrammarLemmas.{IsInElement, IsInside-text_html, IsInside-nothing, IsFragment-outside}
use Rattle.ansi_html.proofs.ReadLemmas.{seen_text, read-seen_text, open_in, open-none, seen-text, seen-element_end, bytes-under, map-append_bytes}
use Rattle.ansi_html.proofs.LinerLemmas.{element_end-none}
use Rattle.ansi_html.proofs.LineLemmas.{IsClosed, feed-text, closed-after, AreSound-lined}

-- text of a call that is no line feed has none
HasNoFeed-printed : (bytes : List ℕ) → ArePrinted bytes → HasNoLineFeed bytes
HasNoFeed-printed [] printed = refl
HasNoFeed-printed (b ∷ bytes) printed =
    and_from (is_no_feed b) (list_all is_no_feed bytes) (ap not (ne_eqb b 0x0A (λ e. omega (arith, printed.0)))) (HasNoFeed-printed bytes printed.1)

HasNoFeed-executed : (b : ℕ) (layout : Bool) → eqb b 0x0A ≡ false → HasNoLineFeed (if layout then b ∷ [] else [])
HasNoFeed-executed b true other = and_from (is_no_feed b) true (ap not other) refl
HasNoFeed-executed b false other = refl

pub HasNoFeed-stripped : (call : Call) → IsShowable call → is_executed 0x0A call ≡ false → HasNoLineFeed (stripped_call call)
HasNoFeed-stripped (print c) is other = HasNoFeed-printed (encode_utf8 c) (ArePrinted-encode c is)
HasNoFeed-stripped (execute b) is other = HasNoFeed-executed b (is_layout b) other
HasNoFeed-stripped (hook gs is ig f) h other = refl
HasNoFeed-stripped (put b) h other = refl
HasNoFeed-stripped unhook h other = refl
HasNoFeed-stripped (osc_dispatch parts bell) h other = refl
HasNoFeed-stripped (csi_dispatch gs is ig f) h other = refl
HasNoFeed-stripped (esc_dispatch is ig f) h other = refl

HasNoFeed-append : (first second : List ℕ) → HasNoLineFeed first → HasNoLineFeed second → HasNoLineFeed (first ++ second)
HasNoFeed-append first second one other =
    list_all-append is_no_feed first second ∙ and_from (list_all is_no_feed first) (list_all is_no_feed second) one other

-- the bytes that are read after text of an element
abbrev bytes_in : Styling → Element → List ℕ → List ℕ
bytes_in styling shown html = map byte_of (flat_map read_of (seen_from (in_text (open_in [] styling shown)) html))

-- What may follow inside a line after text of an element: the rest of the line, its end, and the lines after the one of this
-- number. It has a line feed, or it is the last.
pub record InLine (styling : Styling) (number : ℕ) (shown : Element) (all : List ℕ) : Type 0 where
  pub inside : List ℕ
  pub text : List ℕ
  pub feed : List ℕ
  pub rest : List ℕ
  pub whole : all ≡ inside ++ (line_end ++ rest)
  pub stands : IsInElement styling shown inside
  pub clear : HasNoReturn inside
  pub bytes : bytes_in styling shown inside ≡ text ++ feed
  pub no_feed : HasNoLineFeed text
  pub ends : ((feed ≡ 0x0A ∷ []) × AreLines styling number rest) ⊎ ((feed ≡ []) × (rest ≡ []))

-- the same where some of its text is still to come
abbrev SomeLine : Styling → (number : ℕ) → Element → List ℕ → Type 0
SomeLine styling number shown all = (it : InLine styling number shown all) × (it.text ++ it.feed ≢ [])

module _ (styling : Styling) where
  pub bytes-seen_text : (at : Standing) (is_line_feed : Bool) (bytes : List ℕ) → map byte_of (flat_map read_of (seen_text styling at is_line_feed bytes)) ≡ bytes
  bytes-seen_text at is_line_feed bytes =
      ap (map byte_of) (read-seen_text styling at is_line_feed bytes) ∙ bytes-under (attributes_of styling at.selected) bytes

  bytes-text : (at : Standing) (is_line_feed : Bool) (bytes inside : List ℕ)
      → bytes_in styling at.shown (text_html styling at is_line_feed bytes ++ inside) ≡ bytes ++ bytes_in styling (after_text at.shown at.selected bytes) inside
  bytes-text at is_line_feed bytes inside =
      let here = seen_text styling at is_line_feed bytes in
      let others = seen_from (in_text (open_in [] styling (after_text at.shown at.selected bytes))) inside in
      ap (λ seen. map byte_of (flat_map read_of seen)) (seen-text styling [] refl at is_line_feed bytes inside)
      ∙ ap (map byte_of) (flat_map-append read_of here others)
      ∙ map-append_bytes (flat_map read_of here) (flat_map read_of others)
      ∙ ap (λ l. l ++ bytes_in styling (after_text at.shown at.selected bytes) inside) (bytes-seen_text at is_line_feed bytes)

  bytes-end : (shown : Element) → bytes_in styling shown (element_end shown) ≡ []
  bytes-end shown =
      ap (bytes_in styling shown) (sym (append-nil (element_end shown)))
      ∙ ap (λ seen. map byte_of (flat_map read_of seen)) (seen-element_end [] [] styling shown)

  -- the end of a stream
  InLine-end : (number : ℕ) (shown : Element) → InLine styling number shown (element_end shown ++ line_end)
  InLine-end number shown = record {
    inside = element_end shown;
    text = [];
    feed = [];
    rest = [];
    whole = ap (λ l. element_end shown ++ l) (sym (append-nil line_end));
    stands = IsInside-nothing styling shown;
    clear = HasNoReturn-end shown;
    bytes = bytes-end shown;
    no_feed = refl;
    ends = inr (refl, refl);
  }

  -- a line feed, and lines
  InLine-feed : (number : ℕ) (at : Standing) (rest : List ℕ) → AreSound at → AreLines styling number rest
      → SomeLine styling number at.shown (text_html styling at true (0x0A ∷ []) ++ ((element_end at.selected ++ line_end) ++ rest))
  unfolding is_textual
  InLine-feed number at rest sound are =
      let text = text_html styling at true (0x0A ∷ []) in
      let close = element_end at.selected in (
        record {
          inside = text ++ close;
          text = [];
          feed = 0x0A ∷ [];
          rest = rest;
          whole = ap (λ l. text ++ l) (append_assoc close line_end rest) ∙ sym (append_assoc text close (line_end ++ rest));
          stands = IsInside-text_html styling at true (0x0A ∷ []) close sound (refl, tt) (IsInside-nothing styling at.selected);
          clear = HasNoReturn-append text close (HasNoReturn-text styling at true (0x0A ∷ [])) (HasNoReturn-end at.selected);
          bytes = bytes-text at true (0x0A ∷ []) close ∙ ap (λ l. 0x0A ∷ l) (bytes-end at.selected);
          no_feed = refl;
          ends = inl (refl, are);
        },
        (λ none. cc none),
      )

  -- other text, and the rest of the line
  InLine-text : (number : ℕ) (at : Standing) (b : ℕ) (bytes rest : List ℕ) → AreSound at → AreTextual (b ∷ bytes) → HasNoLineFeed (b ∷ bytes)
      → InLine styling number at.selected rest → SomeLine styling number at.shown (text_html styling at false (b ∷ bytes) ++ rest)
  InLine-text number at b bytes rest sound are none more =
      let here = b ∷ bytes in
      let text = text_html styling at false here in (
        record {
          inside = text ++ more.inside;
          text = here ++ more.text;
          feed = more.feed;
          rest = more.rest;
          whole = ap (λ l. text ++ l) more.whole ∙ sym (append_assoc text more.inside (line_end ++ more.rest));
          stands = IsInside-text_html styling at false here more.inside sound are more.stands;
          clear = HasNoReturn-append text more.inside (HasNoReturn-text styling at false here) more.clear;
          bytes = bytes-text at false here more.inside ∙ ap (λ l. here ++ l) more.bytes ∙ sym (append_assoc here more.text more.feed);
          no_feed = HasNoFeed-append here more.text none more.no_feed;
          ends = more.ends;
        },
        (λ none. cc none),
      )

  -- Before a line that has text stands its beginning.
  AreLines-begin : (number : ℕ) (all : List ℕ) (it : InLine styling (next_number number) no_element all) → it.text ++ it.feed ≢ []
      → AreLines styling number (line_begin (next_number number) ++ all)
  AreLines-begin number all it some = subst (λ l. AreLines styling number (line_begin (next_number number) ++ l)) (sym it.whole) (by_end it.ends)
    where
      begin : List ℕ
      begin = line_begin (next_number number)

      fragment : IsFragment styling it.inside
      fragment = IsFragment-outside styling it.inside it.stands

      reads : text_in it.inside ≡ it.text ++ it.feed
      reads =
          ap (λ l. map byte_of (flat_map read_of (seen_from (in_text []) l))) (normalized-same it.inside it.clear)
          ∙ ap (λ opened. map byte_of (flat_map read_of (seen_from (in_text opened) it.inside))) (sym (open-none styling [])) ∙ it.bytes

      by_end : ((it.feed ≡ 0x0A ∷ []) × AreLines styling (next_number number) it.rest) ⊎ ((it.feed ≡ []) × (it.rest ≡ []))
          → AreLines styling number (begin ++ (it.inside ++ (line_end ++ it.rest)))
      by_end (inl more) = line number it.inside it.text it.rest fragment it.no_feed (reads ∙ ap (λ l. it.text ++ l) more.0) more.1
      by_end (inr no_more) =
          let same = ap (λ l. it.text ++ l) no_more.0 ∙ append-nil it.text in
          subst (λ l. AreLines styling number (begin ++ (it.inside ++ l))) (sym (ap (λ l. line_end ++ l) no_more.1 ∙ append-nil line_end))
          (last number it.inside it.text fragment it.no_feed (λ none. some (same ∙ none)) (reads ∙ same))

  -- lines, or the rest of one that is open
  abbrev pub Follow : (is_open : Bool) (number : ℕ) (shown : Element) (all : List ℕ) → Type 0
  Follow true number shown all = InLine styling number shown all
  Follow false number shown all = AreLines styling number all

  Follow-opening : (it : Lined) (b : ℕ) (bytes all : List ℕ) → IsClosed it → SomeLine styling (text_number it) it.at.shown all
      → Follow it.is_open it.number it.at.shown (line_opening it (b ∷ bytes) ++ all)
  Follow-opening it b bytes all closed inside = by_case it.is_open closed inside
    where
      by_case : (is_open : Bool) → (is_open ≡ false → it.at.shown ≡ no_element)
          → SomeLine styling (if is_open then it.number else next_number it.number) it.at.shown all
          → Follow is_open it.number it.at.shown ((if is_open then [] else line_begin (next_number it.number)) ++ all)
      by_case true none more = more.0
      by_case false none more =
          let begun = subst (λ (shown : Element). SomeLine styling (next_number it.number) shown all) (none refl) more in
          AreLines-begin it.number all begun.0 begun.1

  abbrev all_from : Lined → List Call → List ℕ
  all_from it calls = lined_from styling it calls ++ lined_end (lined_at_end it calls)

  -- a line feed
  Follow-feed : (it : Lined) (rest : List ℕ) → IsClosed it → AreSound it.at → AreLines styling (text_number it) rest
      → Follow it.is_open it.number it.at.shown
      (line_opening it (0x0A ∷ []) ++ (text_html styling it.at true (0x0A ∷ []) ++ ((element_end it.at.selected ++ line_end) ++ rest)))
  Follow-feed it rest closed sound are =
      Follow-opening it 0x0A [] (text_html styling it.at true (0x0A ∷ []) ++ ((element_end it.at.selected ++ line_end) ++ rest)) closed
      (InLine-feed (text_number it) it.at rest sound are)

  -- A call writes its text, and what follows it follows.
  pub Follow-call : (call : Call) (it : Lined) (rest : List ℕ) → IsClosed it → AreSound it.at → IsShowable call
      → Follow (lined_after call it).is_open (lined_after call it).number (lined_after call it).at.shown rest
      → Follow it.is_open it.number it.at.shown
      (line_opening it (stripped_call call) ++ (call_html styling it.at call ++ (line_closing it (is_executed 0x0A call) ++ rest)))
  unfolding text_html
  Follow-call call it rest closed sound is more = by_case (is_executed 0x0A call) refl more
    where
      after : (feed : Bool) → Lined
      after feed =
          if feed then after_feed call it
          else after_others call it

      others : (bytes : List ℕ) → AreTextual bytes → HasNoLineFeed bytes
          → Follow (after_text it.is_open true bytes) (after_text it.number (text_number it) bytes) (after_text it.at.shown it.at.selected bytes) rest
          → Follow it.is_open it.number it.at.shown (line_opening it bytes ++ (text_html styling it.at false bytes ++ rest))
      others [] are none more = more
      others (b ∷ bytes) are none more =
          Follow-opening it b bytes (text_html styling it.at false (b ∷ bytes) ++ rest) closed
          (InLine-text (text_number it) it.at b bytes rest sound are none more)

      by_case : (feed : Bool) → is_executed 0x0A call ≡ feed
          → Follow (after feed).is_open (after feed).number (after feed).at.shown rest
          → Follow it.is_open it.number it.at.shown
          (line_opening it (stripped_call call) ++ (text_html styling it.at feed (stripped_call call)
          ++ ((if feed then element_end it.at.selected ++ line_end else []) ++ rest)))
      by_case true feeds lines =
          subst
          (λ bytes. Follow it.is_open it.number it.at.shown
          (line_opening it bytes ++ (text_html styling it.at true bytes ++ ((element_end it.at.selected ++ line_end) ++ rest))))
          (sym (feed-text call feeds)) (Follow-feed it rest closed sound lines)
      by_case false other follow = others (stripped_call call) (AreTextual-stripped call is) (HasNoFeed-stripped call is other) follow

  -- At the end of a stream nothing follows but the ends of what is open.
  pub Follow-end : (it : Lined) → IsClosed it → Follow it.is_open it.number it.at.shown (lined_end it)
  Follow-end it closed = by_case it.is_open closed
    where
      by_case : (is_open : Bool) → (is_open ≡ false → it.at.shown ≡ no_element)
          → Follow is_open it.number it.at.shown (element_end it.at.shown ++ (if is_open then line_end else []))
      by_case true none = InLine-end it.number it.at.shown
      by_case false none =
          subst (AreLines styling it.number) (sym (append-nil (element_end it.at.shown) ∙ ap element_end (none refl) ∙ element_end-none)) (no_line it.number)

  Follow-all : (it : Lined) (calls : List Call) → IsClosed it → AreSound it.at → AreShowable calls
      → Follow it.is_open it.number it.at.shown (all_from it calls)
  Follow-all it [] closed sound are = Follow-end it closed
  Follow-all it (call ∷ calls) closed sound are =
      let after = lined_after call it in
      let opening = line_opening it (stripped_call call) in
      let text = call_html styling it.at call in
      let closing = line_closing it (is_executed 0x0A call) in
      let others = lined_from styling after calls in
      let close = lined_end (lined_at_end after calls) in
      subst (Follow it.is_open it.number it.at.shown)
      (sym (append_assoc (opening ++ (text ++ closing)) others close ∙ append_assoc opening (text ++ closing) (others ++ close)
      ∙ ap (λ l. opening ++ l) (append_assoc text closing (others ++ close))))
      (Follow-call call it (all_from after calls) closed sound are.0
      (Follow-all after calls (closed-after styling call it closed) (AreSound-lined styling call it sound) are.1))

  -- Each line of the HTML of calls that can be shown is one element.
  pub AreLines-html : (calls : List Call) → AreShowable calls → AreLines styling 0 (lined_html styling calls)
  AreLines-html calls are = Follow-all lined_at_start calls (λ none. refl) AreSound-start are
