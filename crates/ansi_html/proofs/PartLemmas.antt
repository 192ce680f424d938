-- Blocks of numbered lines are the HTML in lines, in parts.
use Rattle.std.proofs.Common.{◌≡◌, ◌≢◌, ℕ, Bool, true, false, List, [], ◌∷◌, ◌++◌, refl, sym, ap, ap₂, ◌∙◌, subst, append_assoc, append-nil}
use Rattle.std.specs.Prelude.{◌&&◌, ◌==◌, ◌-◌, if◌then◌else◌}
use Rattle.std.specs.List.{flat_map}
use Rattle.std.proofs.lemmas.Bool.{ne_eqb}
use Rattle.anstyle_parse.specs.Stream.Call.{Call}
use Rattle.ansi_strip.specs.Strip.{stripped_call}
use Rattle.ansi_html.specs.declared.scheme.Styling.{Styling}
use Rattle.ansi_html.specs.Html.{Element, no_element, element_end, after_text, text_html, is_executed}
use Rattle.ansi_html.specs.Lines.{Lined, lined, ended, line_opening, line_closing, line_end, lined_call, lined_after, lined_from, lined_at_end, lined_end, lined_html, after_feed, after_others}
use Rattle.ansi_html.specs.Blocks.{block_begin, block_end, Blocked, blocked, blocked_at_start, left_with_text, block_opening, ends_block, block_closing, block_ended, blocked_after, blocked_from, blocked_at_end, blocked_end, blocked_html, in_blocks, AreBlocksOf}
use Rattle.ansi_html.proofs.LinerLemmas.{element_end-none}
use Rattle.ansi_html.proofs.LineLemmas.{feed-text}
use Rattle.ansi_html.proofs.BlockLemmas.{IsOutside, IsOutside-start, left-some, one-less, outside-after}

abbrev pub joined : List (List ℕ) → List ℕ
joined parts = flat_map (λ part. part) parts

-- what ends a block, behind text that stands in it
pub regroup : (text first others : List ℕ) → text ++ ((first ++ block_end) ++ others) ≡ ((text ++ first) ++ block_end) ++ others
regroup text first others =
    ap (λ l. text ++ l) (append_assoc first block_end others)
    ∙ sym (append_assoc text first (block_end ++ others)) ∙ sym (append_assoc (text ++ first) block_end others)

-- HTML in blocks that follows where none is open, or in one that is: the rest of that, and blocks.
pub record Rest (none : Bool) (lines html : List ℕ) : Type 0 where
  pub first : List ℕ
  pub parts : List (List ℕ)
  pub whole : html ≡ (if none then [] else first ++ block_end) ++ in_blocks parts
  pub same : lines ≡ (if none then [] else first) ++ joined parts

-- Text comes before it, in a block that goes on, and in one that ends with it.
pub Rest-text : (none : Bool) (text lines html : List ℕ) → Rest false lines html
    → Rest none (text ++ lines) ((if none then block_begin else []) ++ (text ++ html))
Rest-text true text lines html more = record {
  first = [];
  parts = (text ++ more.first) ∷ more.parts;
  whole = ap (λ l. block_begin ++ (text ++ l)) more.whole ∙ ap (λ l. block_begin ++ l) (regroup text more.first (in_blocks more.parts));
  same = ap (λ l. text ++ l) more.same ∙ sym (append_assoc text more.first (joined more.parts));
}
Rest-text false text lines html more = record {
  first = text ++ more.first;
  parts = more.parts;
  whole = ap (λ l. text ++ l) more.whole ∙ regroup text more.first (in_blocks more.parts);
  same = ap (λ l. text ++ l) more.same ∙ sym (append_assoc text more.first (joined more.parts));
}

pub Rest-last : (none : Bool) (text lines html : List ℕ) → Rest true lines html
    → Rest none (text ++ lines) ((if none then block_begin else []) ++ (text ++ (block_end ++ html)))
Rest-last true text lines html more = record {
  first = [];
  parts = text ∷ more.parts;
  whole = ap (λ l. block_begin ++ (text ++ (block_end ++ l))) more.whole ∙ ap (λ l. block_begin ++ l) (sym (append_assoc text block_end (in_blocks more.parts)));
  same = ap (λ l. text ++ l) more.same;
}
Rest-last false text lines html more = record {
  first = text;
  parts = more.parts;
  whole = ap (λ l. text ++ (block_end ++ l)) more.whole ∙ sym (append_assoc text block_end (in_blocks more.parts));
  same = ap (λ l. text ++ l) more.same;
}

-- A call without text writes nothing.
pub lined_call-none : (styling : Styling) (it : Lined) (call : Call) → is_executed 0x0A call ≡ false → stripped_call call ≡ [] → lined_call styling it call ≡ []
unfolding text_html
lined_call-none styling it call other none =
    ap₂ (λ (bytes : List ℕ) (feed : Bool). line_opening it bytes ++ (text_html styling it.at feed bytes ++ line_closing it feed)) none other

pub lined_after-feed : (call : Call) (it : Lined) → is_executed 0x0A call ≡ true → lined_after call it ≡ after_feed call it
lined_after-feed call it feeds =
    ap (λ (feed : Bool). if feed then after_feed call it
    else after_others call it) feeds

module _ (styling : Styling) where
  abbrev blocks_from : Blocked → List Call → List ℕ
  blocks_from it calls = blocked_from true styling it calls ++ blocked_end true (blocked_at_end true it calls)

  abbrev lines_from : Lined → List Call → List ℕ
  lines_from it calls = lined_from styling it calls ++ lined_end (lined_at_end it calls)

  Rest-end : (it : Blocked) → IsOutside true it → Rest (it.left == 0) (lined_end it.inside) (blocked_end true it)
  Rest-end it outside = by_case (it.left == 0) outside.shown outside.closed
    where
      by_case : (none : Bool) → (none ≡ true → it.inside.at.shown ≡ no_element) → (none ≡ true → it.inside.is_open ≡ false)
          → Rest none (lined_end it.inside) (lined_end it.inside ++ (if none then [] else block_end))
      by_case true shown closed =
          let nothing = ap₂ (λ (element : Element) (is : Bool). element_end element ++ (if is then line_end else [])) (shown refl) (closed refl)
          ∙ append-nil (element_end no_element) ∙ element_end-none in
          record { first = []; parts = []; whole = append-nil (lined_end it.inside) ∙ nothing; same = nothing }
      by_case false shown closed = record {
        first = lined_end it.inside;
        parts = [];
        whole = sym (append-nil (lined_end it.inside ++ block_end));
        same = sym (append-nil (lined_end it.inside));
      }

  -- what follows a call follows what it writes
  Rest-call : (call : Call) (it : Blocked) (calls : List Call)
      → Rest ((blocked_after true call it).left == 0) (lines_from (blocked_after true call it).inside calls) (blocks_from (blocked_after true call it) calls)
      → Rest (it.left == 0) (lined_call styling it.inside call ++ lines_from (lined_after call it.inside) calls)
      (after_text [] (block_opening it) (stripped_call call) ++ (lined_call styling it.inside call
      ++ (block_closing (lined_after call it.inside) (ends_block it call) ++ blocks_from (blocked_after true call it) calls)))
  Rest-call call it calls = by_case (is_executed 0x0A call) refl (left_with_text it == 1) refl (stripped_call call) refl
    where
      text : List ℕ
      text = lined_call styling it.inside call

      after : Lined
      after = lined_after call it.inside

      after_by : (feed full : Bool) → List ℕ → Blocked
      after_by feed full bytes =
          if feed && full then block_ended after
          else blocked after (if feed then left_with_text it - 1 else after_text it.left (left_with_text it) bytes)

      follows : (none : Bool) → Blocked → Type 0
      follows none at = Rest none (lines_from at.inside calls) (blocks_from at calls)

      goes_on : (left : ℕ) → left ≢ 0 → Rest (left == 0) (lines_from after calls) (blocks_from (blocked after left) calls)
          → Rest (it.left == 0) (text ++ lines_from after calls) (block_opening it ++ (text ++ blocks_from (blocked after left) calls))
      goes_on left some more =
          Rest-text (it.left == 0) text (lines_from after calls) (blocks_from (blocked after left) calls)
          (subst (λ (none : Bool). Rest none (lines_from after calls) (blocks_from (blocked after left) calls)) (ne_eqb left 0 some) more)

      ends : is_executed 0x0A call ≡ true → follows true (block_ended after)
          → Rest (it.left == 0) (text ++ lines_from after calls)
          (block_opening it ++ (text ++ ((element_end after.at.shown ++ block_end) ++ blocks_from (block_ended after) calls)))
      ends feeds more =
          let is = lined_after-feed call it.inside feeds in
          let closed = ap (λ (l : Lined). element_end l.at.shown ++ block_end) is ∙ ap (λ l. l ++ block_end) element_end-none in
          let same = ap (λ (l : Lined). lines_from (lined (ended l.at) l.number false l.spare) calls) is ∙ sym (ap (λ (l : Lined). lines_from l calls) is) in
          subst (λ close. Rest (it.left == 0) (text ++ lines_from after calls) (block_opening it ++ (text ++ (close ++ blocks_from (block_ended after) calls)))) (sym closed)
          (subst (λ lines. Rest (it.left == 0) (text ++ lines) (block_opening it ++ (text ++ (block_end ++ blocks_from (block_ended after) calls)))) same
          (Rest-last (it.left == 0) text (lines_from (block_ended after).inside calls) (blocks_from (block_ended after) calls) more))

      by_case : (feed : Bool) → is_executed 0x0A call ≡ feed → (full : Bool) → (left_with_text it == 1) ≡ full → (bytes : List ℕ) → stripped_call call ≡ bytes
          → follows ((after_by feed full bytes).left == 0) (after_by feed full bytes)
          → Rest (it.left == 0) (text ++ lines_from after calls)
          (after_text [] (block_opening it) bytes ++ (text ++ (block_closing after (feed && full) ++ blocks_from (after_by feed full bytes) calls)))
      by_case false other full f [] none more =
          subst (λ t. Rest (it.left == 0) (t ++ lines_from after calls) (t ++ blocks_from (blocked after it.left) calls)) (sym (lined_call-none styling it.inside call other none)) more
      by_case false other full f (b ∷ bytes) some more = goes_on (left_with_text it) (left-some it) more
      by_case true feeds false f [] none more = absurd (cc (sym (feed-text call feeds) ∙ none))
      by_case true feeds false f (b ∷ bytes) some more = goes_on (left_with_text it - 1) (one-less (left_with_text it) (left-some it) f) more
      by_case true feeds true f [] none more = absurd (cc (sym (feed-text call feeds) ∙ none))
      by_case true feeds true f (b ∷ bytes) some more = ends feeds more

  Rest-all : (it : Blocked) (calls : List Call) → IsOutside true it → Rest (it.left == 0) (lines_from it.inside calls) (blocks_from it calls)
  Rest-all it [] outside = Rest-end it outside
  Rest-all it (call ∷ calls) outside =
      let after = blocked_after true call it in
      let opening = after_text [] (block_opening it) (stripped_call call) in
      let text = lined_call styling it.inside call in
      let closing = block_closing (lined_after call it.inside) (ends_block it call) in
      let others = blocked_from true styling after calls in
      let close = blocked_end true (blocked_at_end true after calls) in
      let lines = lined_from styling (lined_after call it.inside) calls in
      let last = lined_end (lined_at_end (lined_after call it.inside) calls) in
      subst (λ l. Rest (it.left == 0) l (((opening ++ (text ++ closing)) ++ others) ++ close)) (sym (append_assoc text lines last))
      (subst (Rest (it.left == 0) (text ++ (lines ++ last)))
      (sym (append_assoc (opening ++ (text ++ closing)) others close ∙ append_assoc opening (text ++ closing) (others ++ close)
      ∙ ap (λ l. opening ++ l) (append_assoc text closing (others ++ close))))
      (Rest-call call it calls (Rest-all after calls (outside-after true styling call it outside))))

  -- Blocks of numbered lines are the HTML in lines, in parts.
  pub AreBlocksOf-lines : (calls : List Call) → AreBlocksOf (lined_html styling calls) (blocked_html true styling calls)
  AreBlocksOf-lines calls =
      let all = Rest-all blocked_at_start calls IsOutside-start in
      record { parts = all.parts; blocks = all.whole; joined = all.same }
