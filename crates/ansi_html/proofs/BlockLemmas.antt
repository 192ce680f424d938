-- HTML in blocks: a reader sees what it sees of the HTML without them; it has no 0D, and is UTF-8.
use Rattle.std.proofs.Common.{◌≡◌, ◌≢◌, ℕ, Bool, true, false, eqb-true, ◌-◌, List, [], ◌∷◌, ◌++◌, map, refl, sym, ap, ap₂, ◌∙◌, append_assoc, arith}
use Rattle.std.specs.Prelude.{◌&&◌, ◌==◌, if◌then◌else◌}
use Rattle.std.specs.List.{flat_map}
use Rattle.std.specs.Str.{IsUtf8}
use Rattle.std.proofs.lemmas.Bool.{ne_eqb}
use Rattle.std.proofs.lemmas.Str.{IsUtf8-append, IsUtf8-nil}
use Rattle.anstyle_parse.specs.Stream.Call.{Call}
use Rattle.ansi_strip.specs.Strip.{stripped_call, stripped}
use Rattle.ansi_strip.proofs.Showable.{IsShowable, AreShowable}
use Rattle.ansi_html.specs.declared.scheme.Styling.{Styling}
use Rattle.ansi_html.specs.Affordable.{earned_by_text, spare_after, link_kept, end_unpaid, affordable_from}
use Rattle.ansi_html.specs.Html.{Element, no_element, element_end, at_start, after_text, is_executed, standing_after, html}
use Rattle.ansi_html.specs.Lines.{Lined, lined, text_number, after_feed, after_others, lined_at_start}
use Rattle.ansi_html.specs.Blocks.{lines_a_block, block_begin, block_end, inside_call, inside_after, inside_end, Blocked, blocked, blocked_at_start, left_with_text, block_opening, ends_block, block_closing, left_after, block_ended, blocked_after, blocked_from, blocked_at_end, blocked_end, blocked_html, calls_seen}
use Rattle.ansi_html.specs.Reader.{Attributes, no_attributes, in_force, Seen, seen_from, seen, in_text, read_of, read, byte_of, shown_from}
use Rattle.ansi_html.proofs.AffordableLemmas.{stripped-affordable}
use Rattle.ansi_html.proofs.ColorLemmas.{choose}
use Rattle.ansi_html.proofs.NewlineLemmas.{is_not_return, HasNoReturn, HasNoReturn-append, HasNoReturn-text, HasNoReturn-end, normalized-same}
use Rattle.ansi_html.proofs.TextLemmas.{IsUtf8-text_html, IsUtf8-stripped, IsUtf8-end, IsUtf8-ascii}
use Rattle.ansi_html.proofs.SoundLemmas.{AreSound, AreSound-start, AreSound-after, IsSound-none}
use Rattle.ansi_html.proofs.ReadLemmas.{seen_text, seen_calls, open_in, open-none, seen-text, seen-element_end, seen-html, read-html, text-html}
use Rattle.ansi_html.proofs.LineLemmas.{IsClosed, around_text, feed-text, closed-after, seen_calls-ended, seen-paid, seen-lined_call, seen-lined_end, HasNoReturn-lined_call, HasNoReturn-lined_end, IsUtf8-lined_call, IsUtf8-lined_end, AreSound-lined}

-- the elements in which the text of a block stands: the block's own, which says nothing; and where none is open
abbrev pub in_block : List Attributes
in_block = no_attributes ∷ []

abbrev pub around_block : (left : ℕ) → List Attributes
around_block left = if left == 0 then [] else in_block

block-outermost : (left : ℕ) → in_force (around_block left) ≡ no_attributes
block-outermost left = by_case (left == 0)
  where
    by_case : (none : Bool) → in_force (if none then [] else in_block) ≡ no_attributes
    by_case true = refl
    by_case false = refl

-- the same with the element of a line, where one is open
abbrev pub around_inside : (numbered : Bool) → (outer : List Attributes) → (is_open : Bool) → List Attributes
around_inside false outer is_open = outer
around_inside true outer is_open = around_text outer is_open

-- Where no line is open, or no block, no element is.
pub record IsOutside (numbered : Bool) (it : Blocked) : Type 0 where
  pub line : numbered ≡ true → IsClosed it.inside
  pub shown : (it.left == 0) ≡ true → it.inside.at.shown ≡ no_element
  pub closed : (it.left == 0) ≡ true → it.inside.is_open ≡ false

pub IsOutside-start : {numbered : Bool} → IsOutside numbered blocked_at_start
IsOutside-start = record { line = λ is none. refl; shown = λ none. refl; closed = λ none. refl }

-- where no line is open, it is the block's alone
around-closed : (numbered : Bool) (outer : List Attributes) → around_inside numbered outer false ≡ outer
around-closed false outer = refl
around-closed true outer = refl

around-feed : (numbered : Bool) (outer : List Attributes) (call : Call) (it : Lined) → is_executed 0x0A call ≡ true
    → around_inside numbered outer (inside_after numbered call it).is_open ≡ outer
around-feed false outer call it feeds = refl
around-feed true outer call it feeds =
    ap (λ (feed : Bool). around_text outer (if feed then after_feed call it
    else after_others call it).is_open) feeds

-- what a call that is no line feed leaves open
inside-shown : (numbered : Bool) (call : Call) (it : Lined) → is_executed 0x0A call ≡ false
    → (inside_after numbered call it).at.shown ≡ after_text it.at.shown it.at.selected (stripped_call call)
inside-shown false call it other = refl
inside-shown true call it other =
    ap (λ (feed : Bool). (if feed then after_feed call it
    else after_others call it).at.shown) other

pub inside-open : (numbered : Bool) (call : Call) (it : Lined) → is_executed 0x0A call ≡ false → stripped_call call ≡ []
    → (inside_after numbered call it).is_open ≡ it.is_open
inside-open false call it other none = refl
inside-open true call it other none =
    ap₂ (λ (feed : Bool) (bytes : List ℕ). (if feed then after_feed call it
    else lined (standing_after call it.at) (after_text it.number (text_number it) bytes) (after_text it.is_open true bytes) (earned_by_text bytes it.spare)).is_open) other none

-- Calls inside of blocks are closed as lines are.
pub inside-line : (numbered : Bool) (styling : Styling) (call : Call) (it : Lined) → (numbered ≡ true → IsClosed it)
    → numbered ≡ true → IsClosed (inside_after numbered call it)
inside-line false styling call it closed is = absurd (cc is)
inside-line true styling call it closed is = closed-after styling call it (closed refl)

-- With text some lines are left.
pub left-some : (it : Blocked) → left_with_text it ≢ 0
left-some it none = by_case (it.left == 0) refl none
  where
    by_case : (is : Bool) → (it.left == 0) ≡ is → (if is then lines_a_block else it.left) ≡ 0 → ⊥
    by_case true e none = cc none
    by_case false e none = cc (sym e ∙ ap (λ n. n == 0) none)

block-some : (left : ℕ) → left ≢ 0 → around_block left ≡ in_block
block-some left some = ap (λ (none : Bool). if none then [] else in_block) (ne_eqb left 0 some)

-- and more than one before the last.
not_one : (left : ℕ) → (left == 1) ≡ false → left ≢ 1
not_one left other one = cc (sym other ∙ ap (λ n. n == 1) one)

pub one-less : (left : ℕ) → left ≢ 0 → (left == 1) ≡ false → left - 1 ≢ 0
one-less left some other = omega (arith, some, not_one left other)

-- What is seen inside of blocks is the text.
pub seen-inside_call : (numbered : Bool) (styling : Styling) (outer : List Attributes) → in_force outer ≡ no_attributes
    → (it : Lined) (call : Call) (rest : List ℕ) → (numbered ≡ true → IsClosed it)
    → seen_from (in_text (open_in (around_inside numbered outer it.is_open) styling it.at.shown)) (inside_call numbered styling it call ++ rest)
    ≡ seen_text styling it.at (is_executed 0x0A call) (stripped_call call)
    ++ seen_from (in_text (open_in (around_inside numbered outer (inside_after numbered call it).is_open) styling (inside_after numbered call it).at.shown)) rest
seen-inside_call false styling outer nothing it call rest closed =
    seen-text styling outer nothing it.at (is_executed 0x0A call) (stripped_call call) rest
seen-inside_call true styling outer nothing it call rest closed = seen-lined_call styling outer nothing it call rest (closed refl)

pub seen-inside_end : (numbered : Bool) (styling : Styling) (outer : List Attributes) (it : Lined) (rest : List ℕ)
    → seen_from (in_text (open_in (around_inside numbered outer it.is_open) styling it.at.shown)) (inside_end numbered it ++ rest)
    ≡ seen_from (in_text outer) rest
seen-inside_end false styling outer it rest = seen-element_end outer rest styling it.at.shown
seen-inside_end true styling outer it rest = seen-lined_end styling outer it rest

-- the calls whose HTML is seen, from where links have so much to spare, and after a call
abbrev seen_by : (numbered : Bool) → (spare : ℕ) → (link : List ℕ) → List Call → List Call
seen_by false spare link calls = calls
seen_by true spare link calls = affordable_from spare link calls

abbrev seen_next : (numbered : Bool) → Call → (spare : ℕ) → (link : List ℕ) → List Call → List Call
seen_next false call spare link calls = calls
seen_next true call spare link calls =
    end_unpaid call spare link ++ affordable_from (spare_after call spare link) (link_kept call spare link) calls

seen_by-call : (numbered : Bool) (call : Call) (spare : ℕ) (link : List ℕ) (calls : List Call)
    → (call ∷ seen_next numbered call spare link calls) ≡ seen_by numbered spare link (call ∷ calls)
seen_by-call false call spare link calls = refl
seen_by-call true call spare link calls = refl

seen_by-none : (numbered : Bool) (spare : ℕ) (link : List ℕ) → [] ≡ seen_by numbered spare link []
seen_by-none false spare link = refl
seen_by-none true spare link = refl

seen_by-start : (numbered : Bool) (calls : List Call) → seen_by numbered 0 [] calls ≡ calls_seen numbered calls
seen_by-start false calls = refl
seen_by-start true calls = refl

stripped-seen : (numbered : Bool) (calls : List Call) → stripped (calls_seen numbered calls) ≡ stripped calls
stripped-seen false calls = refl
stripped-seen true calls = stripped-affordable calls

seen_calls-inside : (numbered : Bool) (styling : Styling) (call : Call) (it : Lined) (calls : List Call)
    → seen_calls styling (inside_after numbered call it).at (seen_by numbered (inside_after numbered call it).spare (inside_after numbered call it).at.selected.link calls)
    ≡ seen_calls styling (standing_after call it.at) (seen_next numbered call it.spare it.at.selected.link calls)
seen_calls-inside false styling call it calls = refl
seen_calls-inside true styling call it calls = seen-paid styling call it calls

module _ (numbered : Bool) (styling : Styling) where
  -- where a reader is between two calls
  abbrev seen_in : Lined → (left : ℕ) → List ℕ → List Seen
  seen_in inside left bytes =
      seen_from (in_text (open_in (around_inside numbered (around_block left) inside.is_open) styling inside.at.shown)) bytes

  abbrev blocked_seen : Blocked → List ℕ → List Seen
  blocked_seen it bytes = seen_in it.inside it.left bytes

  -- A block begins before text.
  abbrev left_of : Blocked → List ℕ → ℕ
  left_of it bytes = after_text it.left (left_with_text it) bytes

  pub seen-closed : (outer : List Attributes) (inside : Lined) (bytes : List ℕ) → inside.at.shown ≡ no_element → inside.is_open ≡ false
      → seen_from (in_text (open_in (around_inside numbered outer inside.is_open) styling inside.at.shown)) bytes ≡ seen_from (in_text outer) bytes
  seen-closed outer inside bytes shown closed =
      ap₂ (λ (is : Bool) (it : Element). seen_from (in_text (open_in (around_inside numbered outer is) styling it)) bytes) closed shown
      ∙ ap (λ opened. seen_from (in_text opened) bytes) (open-none styling (around_inside numbered outer false) ∙ around-closed numbered outer)

  seen-block_opening : (it : Blocked) (bytes rest : List ℕ) → IsOutside numbered it
      → blocked_seen it (after_text [] (block_opening it) bytes ++ rest) ≡ seen_in it.inside (left_of it bytes) rest
  seen-block_opening it [] rest outside = refl
  seen-block_opening it (b ∷ bytes) rest outside = by_case (it.left == 0) refl outside.shown outside.closed
    where
      by_case : (none : Bool) → (it.left == 0) ≡ none → (none ≡ true → it.inside.at.shown ≡ no_element) → (none ≡ true → it.inside.is_open ≡ false)
          → seen_from (in_text (open_in (around_inside numbered (if none then [] else in_block) it.inside.is_open) styling it.inside.at.shown))
          ((if none then block_begin else []) ++ rest)
          ≡ seen_in it.inside (if none then lines_a_block else it.left) rest
      by_case true e shown closed =
          seen-closed [] it.inside (block_begin ++ rest) (shown refl) (closed refl)
          ∙ sym (seen-closed in_block it.inside rest (shown refl) (closed refl))
      by_case false e shown closed =
          ap (λ (is : Bool). seen_from (in_text (open_in (around_inside numbered (if is then [] else in_block) it.inside.is_open) styling it.inside.at.shown)) rest) (sym e)

  -- A block ends after the line feed of its last line.
  seen-block_end : (call : Call) (inside : Lined) (left : ℕ) (rest : List ℕ) → is_executed 0x0A call ≡ true → left ≢ 0
      → seen_in (inside_after numbered call inside) left ((element_end (inside_after numbered call inside).at.shown ++ block_end) ++ rest)
      ≡ blocked_seen (block_ended (inside_after numbered call inside)) rest
  seen-block_end call inside left rest feeds some =
      let after = inside_after numbered call inside in
      ap (λ outer. seen_from (in_text (open_in outer styling after.at.shown)) ((element_end after.at.shown ++ block_end) ++ rest))
      (around-feed numbered (around_block left) call inside feeds ∙ block-some left some)
      ∙ ap (seen_from (in_text (open_in in_block styling after.at.shown))) (append_assoc (element_end after.at.shown) block_end rest)
      ∙ seen-element_end in_block (block_end ++ rest) styling after.at.shown
      ∙ sym (seen-closed [] (block_ended after).inside rest refl refl)

  seen-block_closing : (call : Call) (it : Blocked) (rest : List ℕ)
      → seen_in (inside_after numbered call it.inside) (left_of it (stripped_call call))
      (block_closing (inside_after numbered call it.inside) (ends_block it call) ++ rest)
      ≡ blocked_seen (blocked_after numbered call it) rest
  seen-block_closing call it rest = by_case (is_executed 0x0A call) refl (left_with_text it == 1) refl
    where
      after : Lined
      after = inside_after numbered call it.inside

      with_text : is_executed 0x0A call ≡ true → left_of it (stripped_call call) ≡ left_with_text it
      with_text feeds = ap (λ bytes. left_of it bytes) (feed-text call feeds)

      by_case : (feed : Bool) → is_executed 0x0A call ≡ feed → (full : Bool) → (left_with_text it == 1) ≡ full
          → seen_in after (left_of it (stripped_call call)) (block_closing after (feed && full) ++ rest)
          ≡ blocked_seen
          (if feed && full then block_ended after else blocked after (if feed then left_with_text it - 1 else left_of it (stripped_call call))) rest
      by_case false e full f = refl
      by_case true e true f =
          ap (λ left. seen_in after left ((element_end after.at.shown ++ block_end) ++ rest)) (with_text e)
          ∙ seen-block_end call it.inside (left_with_text it) rest e (left-some it)
      by_case true e false f =
          ap (λ left. seen_in after left rest) (with_text e)
          ∙ ap (λ outer. seen_from (in_text (open_in (around_inside numbered outer after.is_open) styling after.at.shown)) rest)
          (block-some (left_with_text it) (left-some it) ∙ sym (block-some (left_with_text it - 1) (one-less (left_with_text it) (left-some it) f)))

  -- Where none is open after a call, no element is.
  nothing-open : (call : Call) (it : Blocked) → IsOutside numbered it → is_executed 0x0A call ≡ false
      → (left_of it (stripped_call call) == 0) ≡ true
      → ((inside_after numbered call it.inside).at.shown ≡ no_element) × ((inside_after numbered call it.inside).is_open ≡ false)
  nothing-open call it outside other = by_case (stripped_call call) refl
    where
      by_case : (bytes : List ℕ) → stripped_call call ≡ bytes → (left_of it bytes == 0) ≡ true
          → ((inside_after numbered call it.inside).at.shown ≡ no_element) × ((inside_after numbered call it.inside).is_open ≡ false)
      by_case [] e none = (
        inside-shown numbered call it.inside other ∙ ap (λ bytes. after_text it.inside.at.shown it.inside.at.selected bytes) e ∙ outside.shown none,
        inside-open numbered call it.inside other e ∙ outside.closed none,
      )
      by_case (b ∷ bytes) e none = absurd (left-some it (eqb-true (left_with_text it) 0 none))

  pub outside-after : (call : Call) (it : Blocked) → IsOutside numbered it → IsOutside numbered (blocked_after numbered call it)
  outside-after call it outside = by_case (is_executed 0x0A call) refl (left_with_text it == 1) refl
    where
      after : Lined
      after = inside_after numbered call it.inside

      line : numbered ≡ true → IsClosed after
      line = inside-line numbered styling call it.inside outside.line

      by_case : (feed : Bool) → is_executed 0x0A call ≡ feed → (full : Bool) → (left_with_text it == 1) ≡ full
          → IsOutside numbered
          (if feed && full then block_ended after else blocked after (if feed then left_with_text it - 1 else left_of it (stripped_call call)))
      by_case false e full f =
          record {
            line = line;
            shown = λ none. (nothing-open call it outside e none).0;
            closed = λ none. (nothing-open call it outside e none).1;
          }
      by_case true e true f = record { line = λ is none. refl; shown = λ none. refl; closed = λ none. refl }
      by_case true e false f =
          let some = one-less (left_with_text it) (left-some it) f in
          record {
            line = line;
            shown = λ none. absurd (some (eqb-true (left_with_text it - 1) 0 none));
            closed = λ none. absurd (some (eqb-true (left_with_text it - 1) 0 none));
          }

  seen_calls-blocked : (call : Call) (it : Blocked) (calls : List Call)
      → seen_calls styling (blocked_after numbered call it).inside.at
      (seen_by numbered (blocked_after numbered call it).inside.spare (blocked_after numbered call it).inside.at.selected.link calls)
      ≡ seen_calls styling (standing_after call it.inside.at) (seen_next numbered call it.inside.spare it.inside.at.selected.link calls)
  seen_calls-blocked call it calls = by_case (ends_block it call)
    where
      after : Lined
      after = inside_after numbered call it.inside

      after_by : Bool → Lined
      after_by ends = (if ends then block_ended after else blocked after (left_after it call)).inside

      by_case : (ends : Bool)
          → seen_calls styling (after_by ends).at (seen_by numbered (after_by ends).spare (after_by ends).at.selected.link calls)
          ≡ seen_calls styling (standing_after call it.inside.at) (seen_next numbered call it.inside.spare it.inside.at.selected.link calls)
      by_case true =
          seen_calls-ended styling no_element after.at (seen_by numbered after.spare after.at.selected.link calls)
          ∙ seen_calls-inside numbered styling call it.inside calls
      by_case false = seen_calls-inside numbered styling call it.inside calls

  seen-blocked_end : (it : Blocked) → blocked_seen it (blocked_end numbered it) ≡ []
  seen-blocked_end it =
      seen-inside_end numbered styling (around_block it.left) it.inside (if it.left == 0 then [] else block_end) ∙ by_case (it.left == 0)
    where
      by_case : (none : Bool) → seen_from (in_text (if none then [] else in_block)) (if none then [] else block_end) ≡ []
      by_case true = refl
      by_case false = refl

  seen-blocked : (it : Blocked) (calls : List Call) → IsOutside numbered it
      → blocked_seen it (blocked_from numbered styling it calls ++ blocked_end numbered (blocked_at_end numbered it calls))
      ≡ seen_calls styling it.inside.at (seen_by numbered it.inside.spare it.inside.at.selected.link calls)
  seen-blocked it [] outside =
      seen-blocked_end it ∙ ap (seen_calls styling it.inside.at) (seen_by-none numbered it.inside.spare it.inside.at.selected.link)
  seen-blocked it (call ∷ calls) outside =
      let bytes = stripped_call call in
      let after = blocked_after numbered call it in
      let opening = after_text [] (block_opening it) bytes in
      let text = inside_call numbered styling it.inside call in
      let closing = block_closing (inside_after numbered call it.inside) (ends_block it call) in
      let rest = blocked_from numbered styling after calls ++ blocked_end numbered (blocked_at_end numbered after calls) in
      ap (blocked_seen it) (append_assoc (opening ++ (text ++ closing)) (blocked_from numbered styling after calls) (blocked_end numbered (blocked_at_end numbered after calls))
      ∙ append_assoc opening (text ++ closing) rest ∙ ap (λ l. opening ++ l) (append_assoc text closing rest))
      ∙ seen-block_opening it bytes (text ++ (closing ++ rest)) outside
      ∙ seen-inside_call numbered styling (around_block (left_of it bytes)) (block-outermost (left_of it bytes)) it.inside call (closing ++ rest) outside.line
      ∙ ap (λ l. seen_text styling it.inside.at (is_executed 0x0A call) bytes ++ l)
      (seen-block_closing call it rest ∙ seen-blocked after calls (outside-after call it outside) ∙ seen_calls-blocked call it calls)
      ∙ ap (seen_calls styling it.inside.at) (seen_by-call numbered call it.inside.spare it.inside.at.selected.link calls)

  -- None of it is 0D.
  pub HasNoReturn-inside : (is : Bool) (it : Lined) (call : Call) → HasNoReturn (inside_call is styling it call)
  HasNoReturn-inside false it call = HasNoReturn-text styling it.at (is_executed 0x0A call) (stripped_call call)
  HasNoReturn-inside true it call = HasNoReturn-lined_call styling it call

  pub HasNoReturn-inside_end : (is : Bool) (it : Lined) → HasNoReturn (inside_end is it)
  HasNoReturn-inside_end false it = HasNoReturn-end it.at.shown
  HasNoReturn-inside_end true it = HasNoReturn-lined_end styling it

  HasNoReturn-opened : (it : Blocked) (bytes : List ℕ) → HasNoReturn (after_text [] (block_opening it) bytes)
  unfolding is_not_return
  HasNoReturn-opened it [] = refl
  HasNoReturn-opened it (b ∷ bytes) = choose HasNoReturn (it.left == 0) block_begin [] refl refl

  HasNoReturn-closed : (inside : Lined) (ends : Bool) → HasNoReturn (block_closing inside ends)
  unfolding is_not_return
  HasNoReturn-closed inside ends =
      choose HasNoReturn ends (element_end inside.at.shown ++ block_end) []
      (HasNoReturn-append (element_end inside.at.shown) block_end (HasNoReturn-end inside.at.shown) refl) refl

  HasNoReturn-blocked : (it : Blocked) (calls : List Call) → HasNoReturn (blocked_from numbered styling it calls)
  HasNoReturn-blocked it [] = refl
  HasNoReturn-blocked it (call ∷ calls) =
      let opening = after_text [] (block_opening it) (stripped_call call) in
      let text = inside_call numbered styling it.inside call in
      let closing = block_closing (inside_after numbered call it.inside) (ends_block it call) in
      HasNoReturn-append (opening ++ (text ++ closing)) (blocked_from numbered styling (blocked_after numbered call it) calls)
      (HasNoReturn-append opening (text ++ closing) (HasNoReturn-opened it (stripped_call call))
      (HasNoReturn-append text closing (HasNoReturn-inside numbered it.inside call)
      (HasNoReturn-closed (inside_after numbered call it.inside) (ends_block it call))))
      (HasNoReturn-blocked (blocked_after numbered call it) calls)

  HasNoReturn-blocked_end : (it : Blocked) → HasNoReturn (blocked_end numbered it)
  unfolding is_not_return
  HasNoReturn-blocked_end it =
      HasNoReturn-append (inside_end numbered it.inside) (if it.left == 0 then [] else block_end) (HasNoReturn-inside_end numbered it.inside)
      (choose HasNoReturn (it.left == 0) [] block_end refl refl)

  -- A reader sees what it sees of the HTML without blocks of the calls that are seen in them,
  pub seen-blocked_html : (calls : List Call) → seen (blocked_html numbered styling calls) ≡ seen (html styling (calls_seen numbered calls))
  seen-blocked_html calls =
      let last = blocked_at_end numbered blocked_at_start calls in
      ap (seen_from (in_text [])) (normalized-same (blocked_html numbered styling calls)
      (HasNoReturn-append (blocked_from numbered styling blocked_at_start calls) (blocked_end numbered last)
      (HasNoReturn-blocked blocked_at_start calls) (HasNoReturn-blocked_end last)))
      ∙ sym (seen-closed [] lined_at_start (blocked_html numbered styling calls) refl refl)
      ∙ seen-blocked blocked_at_start calls IsOutside-start
      ∙ ap (seen_calls styling at_start) (seen_by-start numbered calls)
      ∙ sym (seen-html styling (calls_seen numbered calls))

  -- and reads it; its text is that of the stream.
  pub read-blocked_html : (calls : List Call) → read (blocked_html numbered styling calls) ≡ shown_from styling no_element (calls_seen numbered calls)
  read-blocked_html calls = ap (flat_map read_of) (seen-blocked_html calls) ∙ read-html styling (calls_seen numbered calls)

  pub text-blocked_html : (calls : List Call) → map byte_of (read (blocked_html numbered styling calls)) ≡ stripped calls
  text-blocked_html calls =
      ap (λ seen. map byte_of (flat_map read_of seen)) (seen-blocked_html calls)
      ∙ text-html styling (calls_seen numbered calls) ∙ stripped-seen numbered calls

  -- It is UTF-8.
  IsUtf8-inside : (is : Bool) (it : Lined) (call : Call) → AreSound it.at → IsShowable call → IsUtf8 (inside_call is styling it call)
  IsUtf8-inside false it call sound can = IsUtf8-text_html styling it.at (is_executed 0x0A call) (stripped_call call) sound (IsUtf8-stripped call can)
  IsUtf8-inside true it call sound can = IsUtf8-lined_call styling it call sound can

  IsUtf8-inside_end : (is : Bool) (it : Lined) → IsUtf8 (inside_end is it)
  IsUtf8-inside_end false it = IsUtf8-end it.at.shown
  IsUtf8-inside_end true it = IsUtf8-lined_end styling it

  AreSound-inside : (is : Bool) (call : Call) (it : Lined) → AreSound it.at → AreSound (inside_after is call it).at
  AreSound-inside false call it sound = AreSound-after call it.at sound
  AreSound-inside true call it sound = AreSound-lined styling call it sound

  pub AreSound-blocked : (call : Call) (it : Blocked) → AreSound it.inside.at → AreSound (blocked_after numbered call it).inside.at
  AreSound-blocked call it sound = by_case (ends_block it call)
    where
      after : Lined
      after = inside_after numbered call it.inside

      is : AreSound after.at
      is = AreSound-inside numbered call it.inside sound

      by_case : (ends : Bool) → AreSound (if ends then block_ended after else blocked after (left_after it call)).inside.at
      by_case true = record { shown = IsSound-none; selected = is.selected }
      by_case false = is

  IsUtf8-opened : (it : Blocked) (bytes : List ℕ) → IsUtf8 (after_text [] (block_opening it) bytes)
  IsUtf8-opened it [] = IsUtf8-nil
  IsUtf8-opened it (b ∷ bytes) = choose IsUtf8 (it.left == 0) block_begin [] (IsUtf8-ascii block_begin refl) IsUtf8-nil

  IsUtf8-block_end : IsUtf8 block_end
  IsUtf8-block_end = IsUtf8-ascii block_end refl

  IsUtf8-closed : (inside : Lined) (ends : Bool) → IsUtf8 (block_closing inside ends)
  IsUtf8-closed inside ends =
      choose IsUtf8 ends (element_end inside.at.shown ++ block_end) []
      (IsUtf8-append (element_end inside.at.shown) block_end (IsUtf8-end inside.at.shown) IsUtf8-block_end) IsUtf8-nil

  IsUtf8-blocked : (it : Blocked) (calls : List Call) → AreSound it.inside.at → AreShowable calls → IsUtf8 (blocked_from numbered styling it calls)
  IsUtf8-blocked it [] sound are = IsUtf8-nil
  IsUtf8-blocked it (call ∷ calls) sound are =
      let opening = after_text [] (block_opening it) (stripped_call call) in
      let text = inside_call numbered styling it.inside call in
      let closing = block_closing (inside_after numbered call it.inside) (ends_block it call) in
      IsUtf8-append (opening ++ (text ++ closing)) (blocked_from numbered styling (blocked_after numbered call it) calls)
      (IsUtf8-append opening (text ++ closing) (IsUtf8-opened it (stripped_call call))
      (IsUtf8-append text closing (IsUtf8-inside numbered it.inside call sound are.0)
      (IsUtf8-closed (inside_after numbered call it.inside) (ends_block it call))))
      (IsUtf8-blocked (blocked_after numbered call it) calls (AreSound-blocked call it sound) are.1)

  pub IsUtf8-blocked_html : (calls : List Call) → AreShowable calls → IsUtf8 (blocked_html numbered styling calls)
  IsUtf8-blocked_html calls are =
      let last = blocked_at_end numbered blocked_at_start calls in
      IsUtf8-append (blocked_from numbered styling blocked_at_start calls) (blocked_end numbered last)
      (IsUtf8-blocked blocked_at_start calls AreSound-start are)
      (IsUtf8-append (inside_end numbered last.inside) (if last.left == 0 then [] else block_end) (IsUtf8-inside_end numbered last.inside)
      (choose IsUtf8 (last.left == 0) [] block_end IsUtf8-nil IsUtf8-block_end))
