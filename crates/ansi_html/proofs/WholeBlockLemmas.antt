-- Each block of HTML is whole lines, as many as a block has, and the last one what is left.
use Rattle.std.proofs.Common.{◌≡◌, ◌≢◌, ◌<◌, ◌⊎◌, inl, inr, ℕ, zero, suc, Bool, true, false, ◌+◌, ◌-◌, eqb-true, List, [], ◌∷◌, ◌++◌, length, length-append, map, refl, sym, ap, ap₂, ◌∙◌, subst, append_assoc, append-nil, arith}
use Rattle.std.specs.Prelude.{◌&&◌, ◌==◌, not, filter, if◌then◌else◌}
use Rattle.std.specs.List.{flat_map, list_all}
use Rattle.std.proofs.lemmas.Bool.{and_parts, ne_eqb}
use Rattle.std.proofs.lemmas.Grind.{flat_map-append}
use Rattle.std.proofs.lemmas.List.Elements.{filter-append}
use Rattle.anstyle_parse.specs.Stream.Call.{Call}
use Rattle.ansi_strip.specs.Strip.{stripped_call}
use Rattle.ansi_strip.proofs.Showable.{IsShowable, AreShowable}
use Rattle.ansi_html.specs.declared.scheme.Styling.{Styling}
use Rattle.ansi_html.specs.Affordable.{earned_by_text}
use Rattle.ansi_html.specs.Html.{Element, no_element, element_end, after_text, text_html, is_executed, standing_after}
use Rattle.ansi_html.specs.Lines.{Lined, lined, next_number, text_number, line_opening, line_closing, line_end, is_no_feed, HasNoLineFeed, text_in, AreLines, no_line, after_feed}
use Rattle.ansi_html.specs.Blocks.{lines_a_block, block_begin, block_end, inside_call, inside_after, inside_end, Blocked, blocked, blocked_at_start, left_with_text, block_opening, ends_block, block_closing, block_ended, blocked_after, blocked_from, blocked_at_end, blocked_end, blocked_html, line_feeds, AreWholeLines, AreLinesUpTo, fewer, StandsInBlock, number_after, number_after_block, AreBlocks, no_block, block, last_block}
use Rattle.ansi_html.specs.Reader.{in_text, seen_from, read_of, byte_of}
use Rattle.ansi_html.proofs.NewlineLemmas.{HasNoReturn, HasNoReturn-append, HasNoReturn-end, normalized-same}
use Rattle.ansi_html.proofs.SoundLemmas.{AreSound, AreSound-start}
use Rattle.ansi_html.proofs.LawfulText.{AreTextual-stripped}
use Rattle.ansi_html.proofs.GrammarLemmas.{IsInElement, IsInside-text_html, IsInside-nothing, IsFragment-outside}
use Rattle.ansi_html.proofs.ReadLemmas.{seen_text, open_in, seen-element_end, map-append_bytes}
use Rattle.ansi_html.proofs.LinerLemmas.{element_end-none}
use Rattle.ansi_html.proofs.LineLemmas.{IsClosed, feed-text}
use Rattle.ansi_html.proofs.NumberLemmas.{HasNoFeed-stripped, bytes-seen_text, Follow, Follow-call, Follow-end}
use Rattle.ansi_html.proofs.PartLemmas.{lined_call-none, lined_after-feed, regroup}
use Rattle.ansi_html.proofs.BlockLemmas.{around_inside, IsOutside, IsOutside-start, left-some, one-less, inside-open, seen-inside_call, seen-inside_end, seen-closed, HasNoReturn-inside, HasNoReturn-inside_end, outside-after, AreSound-blocked}

-- line feeds of texts
feeds-append : (first second : List ℕ) → line_feeds (first ++ second) ≡ line_feeds first + line_feeds second
feeds-append first second =
    ap length (filter-append (λ b. b == 0x0A) first second)
    ∙ length-append (filter (λ b. b == 0x0A) first) (filter (λ b. b == 0x0A) second)

feeds-none : (text : List ℕ) → HasNoLineFeed text → line_feeds text ≡ 0
feeds-none [] none = refl
feeds-none (b ∷ text) none =
    let parts = and_parts (is_no_feed b) (list_all is_no_feed text) none in
    by_case (b == 0x0A) parts.0 (feeds-none text parts.1)
  where
    by_case : (feed : Bool) → not feed ≡ true → line_feeds text ≡ 0
        → length (if feed then b ∷ filter (λ b. b == 0x0A) text else filter (λ b. b == 0x0A) text) ≡ 0
    by_case true is others = absurd (cc is)
    by_case false is others = others

one-feed : line_feeds (0x0A ∷ []) ≡ 1
one-feed = refl

some-left : (left : ℕ) → (left == 0) ≡ false → left ≢ 0
some-left left other none = cc (sym other ∙ ap (λ n. n == 0) none)

-- the number of a line after more lines
number-step : (count number : ℕ) → count ≢ 0 → number_after (count - 1) (next_number number) ≡ number_after count number
unfolding number_after
number-step zero number some = absurd (some refl)
number-step (suc count) number some =
    let less : suc count - 1 ≡ count = omega arith in
    ap (λ (k : ℕ). number_after k (next_number number)) less

number-none : (number : ℕ) → number_after 0 number ≡ number
unfolding number_after
number-none number = refl

number-block : (numbered : Bool) (number : ℕ) → (if numbered then number_after lines_a_block number else number) ≡ number_after_block numbered number
number-block false number = refl
number-block true number = refl

-- What may follow inside of a block that is open.
abbrev Follows : (numbered : Bool) → Styling → Lined → List ℕ → Type 0
Follows false styling it all = IsInElement styling it.at.shown all
Follows true styling it all = Follow styling it.is_open it.number it.at.shown all

follows-call : (numbered : Bool) (styling : Styling) (call : Call) (it : Lined) (rest : List ℕ) → (numbered ≡ true → IsClosed it) → AreSound it.at → IsShowable call
    → Follows numbered styling (inside_after numbered call it) rest → Follows numbered styling it (inside_call numbered styling it call ++ rest)
follows-call false styling call it rest closed sound is more =
    IsInside-text_html styling it.at (is_executed 0x0A call) (stripped_call call) rest sound (AreTextual-stripped call is) more
follows-call true styling call it rest closed sound is more =
    let opening = line_opening it (stripped_call call) in
    let text = text_html styling it.at (is_executed 0x0A call) (stripped_call call) in
    let closing = line_closing it (is_executed 0x0A call) in
    subst (Follow styling it.is_open it.number it.at.shown)
    (sym (append_assoc opening (text ++ closing) rest ∙ ap (λ l. opening ++ l) (append_assoc text closing rest)))
    (Follow-call styling call it rest (closed refl) sound is more)

follows-end : (numbered : Bool) (styling : Styling) (it : Lined) → (numbered ≡ true → IsClosed it) → Follows numbered styling it (inside_end numbered it)
follows-end false styling it closed = IsInside-nothing styling it.at.shown
follows-end true styling it closed = Follow-end styling it (closed refl)

-- the end of the last line of a block
follows-close : (numbered : Bool) (styling : Styling) (call : Call) (it : Lined) → is_executed 0x0A call ≡ true
    → Follows numbered styling (inside_after numbered call it) (element_end (inside_after numbered call it).at.shown)
follows-close false styling call it feeds = IsInside-nothing styling (inside_after false call it).at.shown
follows-close true styling call it feeds =
    subst (λ (after : Lined). Follows true styling after (element_end after.at.shown)) (sym (lined_after-feed call it feeds))
    (subst (AreLines styling (text_number it)) (sym element_end-none) (no_line (text_number it)))

-- At the beginning of a block that is what stands in one.
stands-in : (numbered : Bool) (styling : Styling) (it : Lined) (all : List ℕ) → it.at.shown ≡ no_element → it.is_open ≡ false
    → Follows numbered styling it all → StandsInBlock numbered styling it.number all
stands-in false styling it all shown closed follows = IsFragment-outside styling all (subst (λ (element : Element). IsInElement styling element all) shown follows)
stands-in true styling it all shown closed follows = subst (λ (is_open : Bool). Follow styling is_open it.number it.at.shown all) closed follows

-- the number of the last line of a block that is open, with so many lines left
abbrev number_at_end : (numbered : Bool) → (left : ℕ) → Lined → ℕ
number_at_end false left it = it.number
number_at_end true left it = number_after (left - 1) (text_number it)

-- it stays by a call without text,
number-same : (numbered : Bool) (call : Call) (it : Lined) → is_executed 0x0A call ≡ false → stripped_call call ≡ [] → (inside_after numbered call it).number ≡ it.number
number-same false call it other none = refl
number-same true call it other none =
    ap₂ (λ (feed : Bool) (bytes : List ℕ). (if feed then after_feed call it
    else lined (standing_after call it.at) (after_text it.number (text_number it) bytes) (after_text it.is_open true bytes) (earned_by_text bytes it.spare)).number) other none

end-same : (numbered : Bool) (call : Call) (it : Lined) (left : ℕ) → is_executed 0x0A call ≡ false → stripped_call call ≡ []
    → number_at_end numbered left (inside_after numbered call it) ≡ number_at_end numbered left it
end-same false call it left other none = refl
end-same true call it left other none =
    ap₂ (λ (is_open : Bool) (number : ℕ). number_after (left - 1) (if is_open then number else next_number number))
    (inside-open true call it other none) (number-same true call it other none)

-- and by one with text that is no line feed;
end-text : (numbered : Bool) (call : Call) (it : Lined) (left b : ℕ) (bytes : List ℕ) → is_executed 0x0A call ≡ false → stripped_call call ≡ b ∷ bytes
    → number_at_end numbered left (inside_after numbered call it) ≡ number_at_end numbered left it
end-text false call it left b bytes other some = refl
end-text true call it left b bytes other some =
    ap₂ (λ (feed : Bool) (text : List ℕ). number_after (left - 1) (text_number (if feed then after_feed call it
    else lined (standing_after call it.at) (after_text it.number (text_number it) text) (after_text it.is_open true text) (earned_by_text text it.spare)))) other some

-- by a line feed one line less is left, and after the last one it is the number that is reached.
end-feed : (numbered : Bool) (call : Call) (it : Lined) (left : ℕ) → is_executed 0x0A call ≡ true → left - 1 ≢ 0
    → number_at_end numbered (left - 1) (inside_after numbered call it) ≡ number_at_end numbered left it
end-feed false call it left feeds some = refl
end-feed true call it left feeds some =
    ap (λ (after : Lined). number_after (left - 1 - 1) (text_number after)) (lined_after-feed call it feeds) ∙ number-step (left - 1) (text_number it) some

end-last : (numbered : Bool) (call : Call) (it : Lined) → is_executed 0x0A call ≡ true → (inside_after numbered call it).number ≡ number_at_end numbered 1 it
end-last false call it feeds = refl
end-last true call it feeds = ap (λ (after : Lined). after.number) (lined_after-feed call it feeds) ∙ sym (number-none (text_number it))

end-first : (numbered : Bool) (it : Lined) (left : ℕ) → left ≢ 0 → it.is_open ≡ false
    → number_at_end numbered left it ≡ (if numbered then number_after left it.number else it.number)
end-first false it left some closed = refl
end-first true it left some closed =
    ap (λ (is_open : Bool). number_after (left - 1) (if is_open then it.number else next_number it.number)) closed ∙ number-step left it.number some

module _ (numbered : Bool) (styling : Styling) where
  -- the bytes that are read there, beside the block's own element
  abbrev bytes_at : Lined → List ℕ → List ℕ
  bytes_at it html = map byte_of (flat_map read_of (seen_from (in_text (open_in (around_inside numbered [] it.is_open) styling it.at.shown)) html))

  bytes-call : (call : Call) (it : Lined) (rest : List ℕ) → (numbered ≡ true → IsClosed it)
      → bytes_at it (inside_call numbered styling it call ++ rest) ≡ stripped_call call ++ bytes_at (inside_after numbered call it) rest
  bytes-call call it rest closed =
      let feed = is_executed 0x0A call in
      let after = inside_after numbered call it in
      let here = seen_text styling it.at feed (stripped_call call) in
      let others = seen_from (in_text (open_in (around_inside numbered [] after.is_open) styling after.at.shown)) rest in
      ap (λ seen. map byte_of (flat_map read_of seen)) (seen-inside_call numbered styling [] refl it call rest closed)
      ∙ ap (map byte_of) (flat_map-append read_of here others)
      ∙ map-append_bytes (flat_map read_of here) (flat_map read_of others)
      ∙ ap (λ l. l ++ bytes_at after rest) (bytes-seen_text styling it.at feed (stripped_call call))

  bytes-end : (it : Lined) → bytes_at it (inside_end numbered it) ≡ []
  bytes-end it =
      ap (bytes_at it) (sym (append-nil (inside_end numbered it)))
      ∙ ap (λ seen. map byte_of (flat_map read_of seen)) (seen-inside_end numbered styling [] it [])

  bytes-close : (it : Lined) → bytes_at it (element_end it.at.shown) ≡ []
  bytes-close it =
      let outer = around_inside numbered [] it.is_open in
      ap (bytes_at it) (sym (append-nil (element_end it.at.shown)))
      ∙ ap (λ seen. map byte_of (flat_map read_of seen)) (seen-element_end outer [] styling it.at.shown)

  bytes-start : (it : Lined) (all : List ℕ) → it.at.shown ≡ no_element → it.is_open ≡ false → HasNoReturn all → text_in all ≡ bytes_at it all
  bytes-start it all shown closed clear =
      ap (λ l. map byte_of (flat_map read_of (seen_from (in_text []) l))) (normalized-same all clear)
      ∙ ap (λ seen. map byte_of (flat_map read_of seen)) (sym (seen-closed numbered styling [] it all shown closed))

  -- What ends a block with so many lines left: as many whole lines, and blocks; or fewer, and nothing.
  abbrev Ends : (left : ℕ) → Lined → (text rest : List ℕ) → Type 0
  Ends left it text rest =
      (AreWholeLines left text × AreBlocks numbered styling (number_at_end numbered left it) rest) ⊎ ((line_feeds text < left) × (rest ≡ []))

  -- the rest of a block that is open, and what follows it
  record Open (left : ℕ) (it : Lined) (html : List ℕ) : Type 0 where
    pub first : List ℕ
    pub text : List ℕ
    pub rest : List ℕ
    pub whole : html ≡ first ++ (block_end ++ rest)
    pub stands : Follows numbered styling it first
    pub clear : HasNoReturn first
    pub reads : bytes_at it first ≡ text
    pub ends : Ends left it text rest

  abbrev Remains : (none : Bool) → (left : ℕ) → Lined → (html : List ℕ) → Type 0
  Remains true left it html = AreBlocks numbered styling it.number html
  Remains false left it html = Open left it html

  -- a call comes before it
  Open-call : (call : Call) (it : Lined) (left next : ℕ) (html : List ℕ) → (numbered ≡ true → IsClosed it) → AreSound it.at → IsShowable call
      → ((text rest : List ℕ) → Ends next (inside_after numbered call it) text rest → Ends left it (stripped_call call ++ text) rest)
      → Open next (inside_after numbered call it) html → (some : Open left it (inside_call numbered styling it call ++ html)) × ((b : ℕ) (bytes : List ℕ) → stripped_call call ≡ b ∷ bytes → some.text ≢ [])
  Open-call call it left next html closed sound is ends more =
      let here = inside_call numbered styling it call in (
        record {
          first = here ++ more.first;
          text = stripped_call call ++ more.text;
          rest = more.rest;
          whole = ap (λ l. here ++ l) more.whole ∙ sym (append_assoc here more.first (block_end ++ more.rest));
          stands = follows-call numbered styling call it more.first closed sound is more.stands;
          clear = HasNoReturn-append here more.first (HasNoReturn-inside numbered styling numbered it call) more.clear;
          reads = bytes-call call it more.first closed ∙ ap (λ l. stripped_call call ++ l) more.reads;
          ends = ends more.text more.rest more.ends;
        },
        λ b bytes some none. cc (sym (ap (λ l. l ++ more.text) some) ∙ none),
      )

  same-call : (call : Call) (it : Lined) → is_executed 0x0A call ≡ false → stripped_call call ≡ [] → inside_call numbered styling it call ≡ []
  unfolding text_html
  same-call call it other none = by_case numbered
    where
      by_case : (is : Bool) → inside_call is styling it call ≡ []
      by_case false = ap (λ bytes. text_html styling it.at (is_executed 0x0A call) bytes) none
      by_case true = lined_call-none styling it call other none

  -- A call without text changes nothing of it.
  Remains-none : (call : Call) (it : Lined) (none : Bool) (left : ℕ) (html : List ℕ) → (numbered ≡ true → IsClosed it) → AreSound it.at → IsShowable call
      → is_executed 0x0A call ≡ false → stripped_call call ≡ []
      → Remains none left (inside_after numbered call it) html → Remains none left it (inside_call numbered styling it call ++ html)
  Remains-none call it true left html closed sound is other nothing more =
      subst (λ l. AreBlocks numbered styling it.number (l ++ html)) (sym (same-call call it other nothing))
      (subst (λ (number : ℕ). AreBlocks numbered styling number html) (number-same numbered call it other nothing) more)
  Remains-none call it false left html closed sound is other nothing more = (Open-call call it left left html closed sound is same more).0
    where
      same : (text rest : List ℕ) → Ends left (inside_after numbered call it) text rest → Ends left it (stripped_call call ++ text) rest
      same text rest ends =
          subst (λ bytes. Ends left it (bytes ++ text) rest) (sym nothing)
          (subst (λ (number : ℕ). (AreWholeLines left text × AreBlocks numbered styling number rest) ⊎ ((line_feeds text < left) × (rest ≡ [])))
          (end-same numbered call it left other nothing) ends)

  -- what ends it, after text that is no line feed,
  ends-text : (call : Call) (it : Lined) (left b : ℕ) (bytes : List ℕ) → IsShowable call → is_executed 0x0A call ≡ false → stripped_call call ≡ b ∷ bytes
      → (text rest : List ℕ) → Ends left (inside_after numbered call it) text rest → Ends left it (stripped_call call ++ text) rest
  ends-text call it left b bytes is other some text rest (inl whole) =
      let here = stripped_call call in inl (
        record {
          before = here ++ whole.0.before;
          ends = ap (λ l. here ++ l) whole.0.ends ∙ sym (append_assoc here whole.0.before (0x0A ∷ []));
          counted = omega (arith, feeds-append here text, feeds-none here (HasNoFeed-stripped call is other), whole.0.counted);
        },
        subst (λ (number : ℕ). AreBlocks numbered styling number rest) (end-text numbered call it left b bytes other some) whole.1,
      )
  ends-text call it left b bytes is other some text rest (inr few) =
      inr (omega (arith, few.0, feeds-append (stripped_call call) text, feeds-none (stripped_call call) (HasNoFeed-stripped call is other)), few.1)

  -- and after a line feed that is not the last.
  ends-feed : (call : Call) (it : Lined) (left : ℕ) → left ≢ 0 → left - 1 ≢ 0 → is_executed 0x0A call ≡ true
      → (text rest : List ℕ) → Ends (left - 1) (inside_after numbered call it) text rest → Ends left it (stripped_call call ++ text) rest
  ends-feed call it left some others feeds text rest ends = subst (λ bytes. Ends left it (bytes ++ text) rest) (sym (feed-text call feeds)) (by_end ends)
    where
      by_end : Ends (left - 1) (inside_after numbered call it) text rest → Ends left it (0x0A ∷ text) rest
      by_end (inl whole) = inl (
        record {
          before = 0x0A ∷ whole.0.before;
          ends = ap (λ l. 0x0A ∷ l) whole.0.ends;
          counted = omega (arith, whole.0.counted, some, feeds-append (0x0A ∷ []) text, one-feed);
        },
        subst (λ (number : ℕ). AreBlocks numbered styling number rest) (end-feed numbered call it left feeds others) whole.1,
      )
      by_end (inr few) = inr (omega (arith, few.0, some, feeds-append (0x0A ∷ []) text, one-feed), few.1)

  -- The line feed of the last line of a block, and what ends that.
  Open-last : (call : Call) (it : Lined) (html : List ℕ) → (numbered ≡ true → IsClosed it) → AreSound it.at → IsShowable call → is_executed 0x0A call ≡ true
      → AreBlocks numbered styling (inside_after numbered call it).number html
      → (some : Open 1 it (inside_call numbered styling it call ++ ((element_end (inside_after numbered call it).at.shown ++ block_end) ++ html))) × (some.text ≢ [])
  Open-last call it html closed sound is feeds more =
      let here = inside_call numbered styling it call in
      let after = inside_after numbered call it in
      let close = element_end after.at.shown in (
        record {
          first = here ++ close;
          text = 0x0A ∷ [];
          rest = html;
          whole = regroup here close html ∙ append_assoc (here ++ close) block_end html;
          stands = follows-call numbered styling call it close closed sound is (follows-close numbered styling call it feeds);
          clear = HasNoReturn-append here close (HasNoReturn-inside numbered styling numbered it call) (HasNoReturn-end after.at.shown);
          reads = bytes-call call it close closed ∙ ap₂ (λ a b. a ++ b) (feed-text call feeds) (bytes-close after);
          ends = inl (
            record { before = []; ends = refl; counted = refl },
            subst (λ (number : ℕ). AreBlocks numbered styling number html) (end-last numbered call it feeds) more,
          );
        },
        λ none. cc none,
      )

  -- Before a block that has text stands its beginning.
  AreBlocks-begin : (it : Lined) (html : List ℕ) → it.at.shown ≡ no_element → it.is_open ≡ false
      → (some : Open lines_a_block it html) → some.text ≢ [] → AreBlocks numbered styling it.number (block_begin ++ html)
  AreBlocks-begin it html shown closed some text = subst (λ l. AreBlocks numbered styling it.number (block_begin ++ l)) (sym some.whole) (by_end some.ends)
    where
      stands : StandsInBlock numbered styling it.number some.first
      stands = stands-in numbered styling it some.first shown closed some.stands

      reads : text_in some.first ≡ some.text
      reads = bytes-start it some.first shown closed some.clear ∙ some.reads

      number : number_at_end numbered lines_a_block it ≡ number_after_block numbered it.number
      number = end-first numbered it lines_a_block (λ none. cc none) closed ∙ number-block numbered it.number

      by_end : Ends lines_a_block it some.text some.rest → AreBlocks numbered styling it.number (block_begin ++ (some.first ++ (block_end ++ some.rest)))
      by_end (inl whole) =
          block it.number some.first some.rest stands (subst (AreWholeLines lines_a_block) (sym reads) whole.0)
          (subst (λ (number : ℕ). AreBlocks numbered styling number some.rest) number whole.1)
      by_end (inr few) =
          subst (λ l. AreBlocks numbered styling it.number (block_begin ++ (some.first ++ l))) (sym (ap (λ l. block_end ++ l) few.1 ∙ append-nil block_end))
          (last_block it.number some.first stands (subst (AreLinesUpTo lines_a_block) (sym reads) (fewer text few.0)))

  Remains-begin : (it : Blocked) (html : List ℕ) → IsOutside numbered it → (some : Open (left_with_text it) it.inside html) → some.text ≢ []
      → Remains (it.left == 0) it.left it.inside (block_opening it ++ html)
  Remains-begin it html outside some text = by_case (it.left == 0) outside.shown outside.closed some text
    where
      by_case : (none : Bool) → (none ≡ true → it.inside.at.shown ≡ no_element) → (none ≡ true → it.inside.is_open ≡ false)
          → (some : Open (if none then lines_a_block else it.left) it.inside html) → some.text ≢ []
          → Remains none it.left it.inside ((if none then block_begin else []) ++ html)
      by_case true shown closed some text = AreBlocks-begin it.inside html (shown refl) (closed refl) some text
      by_case false shown closed some text = some

  Remains-call : (call : Call) (it : Blocked) (html : List ℕ) → IsOutside numbered it → AreSound it.inside.at → IsShowable call
      → Remains ((blocked_after numbered call it).left == 0) (blocked_after numbered call it).left (blocked_after numbered call it).inside html
      → Remains (it.left == 0) it.left it.inside
      (after_text [] (block_opening it) (stripped_call call) ++ (inside_call numbered styling it.inside call
      ++ (block_closing (inside_after numbered call it.inside) (ends_block it call) ++ html)))
  Remains-call call it html outside sound is = by_case (is_executed 0x0A call) refl (left_with_text it == 1) refl (stripped_call call) refl
    where
      here : List ℕ
      here = inside_call numbered styling it.inside call

      after : Lined
      after = inside_after numbered call it.inside

      after_by : (feed full : Bool) → List ℕ → Blocked
      after_by feed full bytes =
          if feed && full then block_ended after
          else blocked after (if feed then left_with_text it - 1 else after_text it.left (left_with_text it) bytes)

      begun : (left : ℕ) → left ≢ 0 → (b : ℕ) (bytes : List ℕ) → stripped_call call ≡ b ∷ bytes
          → ((text rest : List ℕ) → Ends left after text rest → Ends (left_with_text it) it.inside (stripped_call call ++ text) rest)
          → Remains (left == 0) left after html → Remains (it.left == 0) it.left it.inside (block_opening it ++ (here ++ html))
      begun left some b bytes text ends more =
          let all = Open-call call it.inside (left_with_text it) left html outside.line sound is ends
          (subst (λ (none : Bool). Remains none left after html) (ne_eqb left 0 some) more) in
          Remains-begin it (here ++ html) outside all.0 (all.1 b bytes text)

      ends : (left_with_text it == 1) ≡ true → is_executed 0x0A call ≡ true → AreBlocks numbered styling after.number html
          → Remains (it.left == 0) it.left it.inside (block_opening it ++ (here ++ ((element_end after.at.shown ++ block_end) ++ html)))
      ends full feeds more =
          let all = subst
          (λ (left : ℕ). (some : Open left it.inside (here ++ ((element_end after.at.shown ++ block_end) ++ html))) × (some.text ≢ []))
          (sym (eqb-true (left_with_text it) 1 full)) (Open-last call it.inside html outside.line sound is feeds more) in
          Remains-begin it (here ++ ((element_end after.at.shown ++ block_end) ++ html)) outside all.0 all.1

      by_case : (feed : Bool) → is_executed 0x0A call ≡ feed → (full : Bool) → (left_with_text it == 1) ≡ full → (bytes : List ℕ) → stripped_call call ≡ bytes
          → Remains ((after_by feed full bytes).left == 0) (after_by feed full bytes).left (after_by feed full bytes).inside html
          → Remains (it.left == 0) it.left it.inside
          (after_text [] (block_opening it) bytes ++ (here ++ (block_closing after (feed && full) ++ html)))
      by_case false other full f [] none more = Remains-none call it.inside (it.left == 0) it.left html outside.line sound is other none more
      by_case false other full f (b ∷ bytes) some more =
          begun (left_with_text it) (left-some it) b bytes some (ends-text call it.inside (left_with_text it) b bytes is other some) more
      by_case true feeds full f [] none more = absurd (cc (sym (feed-text call feeds) ∙ none))
      by_case true feeds false f (b ∷ bytes) some more =
          let others = one-less (left_with_text it) (left-some it) f in
          begun (left_with_text it - 1) others b bytes some (ends-feed call it.inside (left_with_text it) (left-some it) others feeds) more
      by_case true feeds true f (b ∷ bytes) some more = ends f feeds more

  -- At the end of a stream nothing follows but the ends of what is open.
  nothing-open : (it : Lined) → it.at.shown ≡ no_element → it.is_open ≡ false → inside_end numbered it ≡ []
  nothing-open it shown closed = by_case numbered
    where
      by_case : (is : Bool) → inside_end is it ≡ []
      by_case false = ap element_end shown ∙ element_end-none
      by_case true =
          ap₂ (λ (element : Element) (is_open : Bool). element_end element ++ (if is_open then line_end else [])) shown closed
          ∙ append-nil (element_end no_element) ∙ element_end-none

  Remains-end : (it : Blocked) → IsOutside numbered it → Remains (it.left == 0) it.left it.inside (blocked_end numbered it)
  Remains-end it outside = by_case (it.left == 0) refl outside.shown outside.closed
    where
      by_case : (none : Bool) → (it.left == 0) ≡ none → (none ≡ true → it.inside.at.shown ≡ no_element) → (none ≡ true → it.inside.is_open ≡ false)
          → Remains none it.left it.inside (inside_end numbered it.inside ++ (if none then [] else block_end))
      by_case true e shown closed =
          subst (λ l. AreBlocks numbered styling it.inside.number (l ++ [])) (sym (nothing-open it.inside (shown refl) (closed refl))) (no_block it.inside.number)
      by_case false e shown closed = record {
        first = inside_end numbered it.inside;
        text = [];
        rest = [];
        whole = ap (λ l. inside_end numbered it.inside ++ l) (sym (append-nil block_end));
        stands = follows-end numbered styling it.inside outside.line;
        clear = HasNoReturn-inside_end numbered styling numbered it.inside;
        reads = bytes-end it.inside;
        ends = inr (omega (arith, feeds-none [] refl, some-left it.left e), refl);
      }

  Remains-all : (it : Blocked) (calls : List Call) → IsOutside numbered it → AreSound it.inside.at → AreShowable calls
      → Remains (it.left == 0) it.left it.inside (blocked_from numbered styling it calls ++ blocked_end numbered (blocked_at_end numbered it calls))
  Remains-all it [] outside sound are = Remains-end it outside
  Remains-all it (call ∷ calls) outside sound are =
      let after = blocked_after numbered call it in
      let opening = after_text [] (block_opening it) (stripped_call call) in
      let text = inside_call numbered styling it.inside call in
      let closing = block_closing (inside_after numbered call it.inside) (ends_block it call) in
      let others = blocked_from numbered styling after calls in
      let close = blocked_end numbered (blocked_at_end numbered after calls) in
      subst (Remains (it.left == 0) it.left it.inside)
      (sym (append_assoc (opening ++ (text ++ closing)) others close ∙ append_assoc opening (text ++ closing) (others ++ close)
      ∙ ap (λ l. opening ++ l) (append_assoc text closing (others ++ close))))
      (Remains-call call it (others ++ close) outside sound are.0
      (Remains-all after calls (outside-after numbered styling call it outside) (AreSound-blocked numbered styling call it sound) are.1))

  -- Each block of the HTML of calls that can be shown is whole lines.
  pub AreBlocks-html : (calls : List Call) → AreShowable calls → AreBlocks numbered styling 0 (blocked_html numbered styling calls)
  AreBlocks-html calls are = Remains-all blocked_at_start calls IsOutside-start AreSound-start are
