-- What a writer of HTML in blocks does by a call, from what the writer inside of them does.
use Rattle.std.proofs.Common.{◌≡◌, ◌≢◌, ◌<◌, ℕ, Bool, true, false, ◌-◌, List, [], ◌∷◌, ◌++◌, length, map, refl, sym, ap, ap₂, ◌∙◌, subst, append_assoc, append-nil, arith}
use Rattle.std.specs.Prelude.{◌&&◌, ◌==◌, if◌then◌else◌}
use Rattle.std.specs.Str.{IsUtf8, chars, encode_utf8_all}
use Rattle.std.proofs.lemmas.Bool.{ne_eqb}
use Rattle.std.proofs.lemmas.Str.{encodes-chars}
use Rattle.anstyle_parse.specs.declared.io.devices.Sink.{Ghosts as SinkOf}
use Rattle.anstyle_parse.specs.Stream.Call.{Call, print, execute, hook, put, unhook, esc_dispatch}
use Rattle.anstyle_parse.specs.Stream.Texts.{text_calls}
use Rattle.anstyle_parse.specs.Io.Output.{Adds}
use Rattle.anstyle_parse.proofs.Written.Output.{Adds-append, Adds-nil}
use Rattle.anstyle_parse.proofs.Characters.Scalars.{length-encode-some}
use Rattle.ansi_strip.specs.Strip.{stripped_call}
use Rattle.ansi_html.specs.declared.scheme.Styling.{Styling}
use Rattle.ansi_html.specs.declared.inside.Inside.{Inside}
use Rattle.ansi_html.specs.declared.blocks.BlocksWriter.{BlocksWriter}
use Rattle.ansi_html.specs.Html.{element_end, after_text, is_executed, text_html}
use Rattle.ansi_html.specs.Lines.{Lined, lined, ended}
use Rattle.ansi_html.specs.Blocks.{lines_a_block, block_begin, block_end, inside_call, inside_after, Blocked, blocked, left_with_text, block_opening, block_closing, blocked_call, block_ended, blocked_after, blocked_from, blocked_at_end}
use Rattle.ansi_html.specs.Inside as inside
use Rattle.ansi_html.specs.Inside.{inside_from, inside_at_end}
use Rattle.ansi_html.specs.Blocker.{output_of, numbered_of, styling_of, blocked_of, TakesCall, TakesCalls}
use Rattle.ansi_html.proofs.HtmlLemmas.{after_text-some}
use Rattle.ansi_html.proofs.BlockLemmas.{left-some}

-- a call that is no line feed: what it writes, and where it leads, with text and without
module _ (numbered : Bool) (styling : Styling) (it : Blocked) (call : Call) (other : is_executed 0x0A call ≡ false) where
  abbrev call_by : (feed : Bool) → (opening : List ℕ) → List ℕ
  call_by feed opening =
      opening ++ (inside_call numbered styling it.inside call
      ++ block_closing (inside_after numbered call it.inside) (feed && left_with_text it == 1))

  abbrev after_by : (feed : Bool) → (left : ℕ) → Blocked
  after_by feed left =
      if feed && left_with_text it == 1 then block_ended (inside_after numbered call it.inside)
      else blocked (inside_after numbered call it.inside) (if feed then left_with_text it - 1 else left)

  call_by-other : (opening : List ℕ) → call_by false opening ≡ opening ++ inside_call numbered styling it.inside call
  call_by-other opening = ap (λ l. opening ++ l) (append-nil (inside_call numbered styling it.inside call))

  module _ (some : 0 < length (stripped_call call)) where
    pub blocked_call-text : blocked_call numbered styling it call ≡ block_opening it ++ inside_call numbered styling it.inside call
    blocked_call-text =
        ap₂ call_by other (after_text-some [] (block_opening it) (stripped_call call) some) ∙ call_by-other (block_opening it)

    pub blocked_after-text : blocked_after numbered call it ≡ blocked (inside_after numbered call it.inside) (left_with_text it)
    blocked_after-text = ap₂ after_by other (after_text-some it.left (left_with_text it) (stripped_call call) some)

  module _ (none : stripped_call call ≡ []) where
    pub blocked_call-none : blocked_call numbered styling it call ≡ inside_call numbered styling it.inside call
    blocked_call-none = ap₂ (λ feed bytes. call_by feed (after_text [] (block_opening it) bytes)) other none ∙ call_by-other []

    pub blocked_after-none : blocked_after numbered call it ≡ blocked (inside_after numbered call it.inside) it.left
    blocked_after-none = ap₂ (λ feed bytes. after_by feed (after_text it.left (left_with_text it) bytes)) other none

-- a call that writes nothing and selects nothing
pub record IsIdle (call : Call) : Type 0 where
  pub no_text : stripped_call call ≡ []
  pub no_feed : is_executed 0x0A call ≡ false
  pub nothing : (numbered : Bool) (styling : Styling) (it : Lined) → inside_call numbered styling it call ≡ []
  pub stays : (numbered : Bool) (it : Lined) → inside_after numbered call it ≡ it

pub TakesCall-idle : {W : Type 0} (sink : SinkOf W) (performer : BlocksWriter W) (call : Call) → IsIdle call
    → TakesCall sink performer call performer
TakesCall-idle sink performer call idle =
    let numbered = numbered_of performer in
    let styling = styling_of performer in
    let it = blocked_of performer in
    let out = output_of performer in
    record {
      numbered = refl;
      styling = refl;
      standing = sym (blocked_after-none numbered styling it call idle.no_feed idle.no_text
          ∙ ap (λ inside. blocked inside it.left) (idle.stays numbered it.inside));
      added = subst (λ t. Adds sink t out out)
          (sym (blocked_call-none numbered styling it call idle.no_feed idle.no_text ∙ idle.nothing numbered styling it.inside))
          (Adds-nil sink out);
    }

pub idle-hook : (groups : List (List ℕ)) (collected : List ℕ) (ignore : Bool) (final : ℕ) → IsIdle (hook groups collected ignore final)
unfolding text_html
idle-hook groups collected ignore final = record { no_text = refl; no_feed = refl; nothing = nothing; stays = stays }
  where
    nothing : (numbered : Bool) (styling : Styling) (it : Lined) → inside_call numbered styling it (hook groups collected ignore final) ≡ []
    nothing true styling it = refl
    nothing false styling it = refl

    stays : (numbered : Bool) (it : Lined) → inside_after numbered (hook groups collected ignore final) it ≡ it
    stays true it = refl
    stays false it = refl

pub idle-put : (byte : ℕ) → IsIdle (put byte)
unfolding text_html
idle-put byte = record { no_text = refl; no_feed = refl; nothing = nothing; stays = stays }
  where
    nothing : (numbered : Bool) (styling : Styling) (it : Lined) → inside_call numbered styling it (put byte) ≡ []
    nothing true styling it = refl
    nothing false styling it = refl

    stays : (numbered : Bool) (it : Lined) → inside_after numbered (put byte) it ≡ it
    stays true it = refl
    stays false it = refl

pub idle-unhook : IsIdle unhook
unfolding text_html
idle-unhook = record { no_text = refl; no_feed = refl; nothing = nothing; stays = stays }
  where
    nothing : (numbered : Bool) (styling : Styling) (it : Lined) → inside_call numbered styling it unhook ≡ []
    nothing true styling it = refl
    nothing false styling it = refl

    stays : (numbered : Bool) (it : Lined) → inside_after numbered unhook it ≡ it
    stays true it = refl
    stays false it = refl

pub idle-esc_dispatch : (collected : List ℕ) (ignore : Bool) (final : ℕ) → IsIdle (esc_dispatch collected ignore final)
unfolding text_html
idle-esc_dispatch collected ignore final = record { no_text = refl; no_feed = refl; nothing = nothing; stays = stays }
  where
    nothing : (numbered : Bool) (styling : Styling) (it : Lined) → inside_call numbered styling it (esc_dispatch collected ignore final) ≡ []
    nothing true styling it = refl
    nothing false styling it = refl

    stays : (numbered : Bool) (it : Lined) → inside_after numbered (esc_dispatch collected ignore final) it ≡ it
    stays true it = refl
    stays false it = refl

-- printed characters, in a block that is open, and in any
module _ (numbered : Bool) (styling : Styling) where
  with_some : (inside : Lined) (left : ℕ) → left ≢ 0 → left_with_text (blocked inside left) ≡ left
  with_some inside left some = ap (λ (none : Bool). if none then lines_a_block else left) (ne_eqb left 0 some)

  opening-some : (inside : Lined) (left : ℕ) → left ≢ 0 → block_opening (blocked inside left) ≡ []
  opening-some inside left some = ap (λ (none : Bool). if none then block_begin else []) (ne_eqb left 0 some)

  blocked_from-open : (inside : Lined) (left : ℕ) → left ≢ 0 → (cs : List ℕ)
      → blocked_from numbered styling (blocked inside left) (map print cs) ≡ inside_from numbered styling inside (map print cs)
  blocked_from-open inside left some [] = refl
  blocked_from-open inside left some (c ∷ cs) =
      let it = blocked inside left in
      let text = inside_call numbered styling inside (print c) in
      let after = inside_after numbered (print c) inside in
      ap₂ (λ here next. here ++ blocked_from numbered styling next (map print cs))
      (blocked_call-text numbered styling it (print c) refl (length-encode-some c) ∙ ap (λ l. l ++ text) (opening-some inside left some))
      (blocked_after-text numbered styling it (print c) refl (length-encode-some c) ∙ ap (λ n. blocked after n) (with_some inside left some))
      ∙ ap (λ l. text ++ l) (blocked_from-open after left some cs)

  blocked_at_end-open : (inside : Lined) (left : ℕ) → left ≢ 0 → (cs : List ℕ)
      → blocked_at_end numbered (blocked inside left) (map print cs) ≡ blocked (inside_at_end numbered inside (map print cs)) left
  blocked_at_end-open inside left some [] = refl
  blocked_at_end-open inside left some (c ∷ cs) =
      let it = blocked inside left in
      let after = inside_after numbered (print c) inside in
      ap (λ next. blocked_at_end numbered next (map print cs))
      (blocked_after-text numbered styling it (print c) refl (length-encode-some c) ∙ ap (λ n. blocked after n) (with_some inside left some))
      ∙ blocked_at_end-open after left some cs

  blocked_from-prints : (it : Blocked) (cs : List ℕ) → 0 < length (encode_utf8_all cs)
      → blocked_from numbered styling it (map print cs) ≡ block_opening it ++ inside_from numbered styling it.inside (map print cs)
  blocked_from-prints it [] some = absurd (omega arith)
  blocked_from-prints it (c ∷ cs) some =
      let text = inside_call numbered styling it.inside (print c) in
      let after = inside_after numbered (print c) it.inside in
      ap₂ (λ here next. here ++ blocked_from numbered styling next (map print cs))
      (blocked_call-text numbered styling it (print c) refl (length-encode-some c)) (blocked_after-text numbered styling it (print c) refl (length-encode-some c))
      ∙ ap (λ l. (block_opening it ++ text) ++ l) (blocked_from-open after (left_with_text it) (left-some it) cs)
      ∙ append_assoc (block_opening it) text (inside_from numbered styling after (map print cs))

  blocked_at_end-prints : (it : Blocked) (cs : List ℕ) → 0 < length (encode_utf8_all cs)
      → blocked_at_end numbered it (map print cs) ≡ blocked (inside_at_end numbered it.inside (map print cs)) (left_with_text it)
  blocked_at_end-prints it [] some = absurd (omega arith)
  blocked_at_end-prints it (c ∷ cs) some =
      let after = inside_after numbered (print c) it.inside in
      ap (λ next. blocked_at_end numbered next (map print cs)) (blocked_after-text numbered styling it (print c) refl (length-encode-some c))
      ∙ blocked_at_end-open after (left_with_text it) (left-some it) cs

  -- a text
  module _ (it : Blocked) (text : List ℕ) (utf8 : IsUtf8 text) (some : 0 < length text) where
    some_characters : 0 < length (encode_utf8_all (chars text))
    some_characters = omega (arith, ap length (encodes-chars text utf8))

    pub blocked_from-text : blocked_from numbered styling it (text_calls text) ≡ block_opening it ++ inside_from numbered styling it.inside (text_calls text)
    blocked_from-text = blocked_from-prints it (chars text) some_characters

    pub blocked_at_end-text : blocked_at_end numbered it (text_calls text) ≡ blocked (inside_at_end numbered it.inside (text_calls text)) (left_with_text it)
    blocked_at_end-text = blocked_at_end-prints it (chars text) some_characters

-- A writer that has begun a block where none was open, for text.
pub record Begins {W : Type 0} (sink : SinkOf W) (old begun : BlocksWriter W) : Type 0 where
  pub numbered : numbered_of begun ≡ numbered_of old
  pub styling : styling_of begun ≡ styling_of old
  pub standing : blocked_of begun ≡ blocked (blocked_of old).inside (left_with_text (blocked_of old))
  pub added : Adds sink (block_opening (blocked_of old)) (output_of old) (output_of begun)

module _ {W : Type 0} (sink : SinkOf W) (old begun : BlocksWriter W) (begins : Begins sink old begun) where
  abbrev it : Blocked
  it = blocked_of old

  lined-begun : inside.lined_of begun.inside ≡ it.inside
  lined-begun = ap (λ (b : Blocked). b.inside) begins.standing

  left-begun : begun.left ≡ left_with_text it
  left-begun = ap (λ (b : Blocked). b.left) begins.standing

  -- what the writer inside has taken by a call, from where the old one stands
  module _ (call : Call) (new : Inside W) (takes : inside.TakesCall sink begun.inside call new) where
    abbrev after_call : Lined
    after_call = inside_after (numbered_of old) call it.inside

    stands : inside.lined_of new ≡ after_call
    stands = takes.standing ∙ ap₂ (λ is lined. inside_after is call lined) begins.numbered lined-begun

    written : Adds sink (block_opening it ++ inside_call (numbered_of old) (styling_of old) it.inside call) (output_of old) (inside.output_of new)
    written =
        subst (λ t. Adds sink (block_opening it ++ t) (output_of old) (inside.output_of new))
        (ap (λ is. inside_call is (styling_of begun) (inside.lined_of begun.inside) call) begins.numbered
        ∙ ap₂ (λ styling lined. inside_call (numbered_of old) styling lined call) begins.styling lined-begun)
        (Adds-append sink (block_opening it) (inside_call (numbered_of begun) (styling_of begun) (inside.lined_of begun.inside) call)
        (output_of old) (output_of begun) (inside.output_of new) begins.added takes.added)

  -- It takes a call with text,
  pub TakesCall-text : (call : Call) → is_executed 0x0A call ≡ false → 0 < length (stripped_call call) → (new : Inside W)
      → inside.TakesCall sink begun.inside call new → TakesCall sink old call (record begun { inside = new })
  TakesCall-text call other some new takes = record {
    numbered = takes.numbered ∙ begins.numbered;
    styling = takes.styling ∙ begins.styling;
    standing = ap₂ (λ lined left. blocked lined left) (stands call new takes) left-begun
        ∙ sym (blocked_after-text (numbered_of old) (styling_of old) it call other some);
    added = subst (λ t. Adds sink t (output_of old) (inside.output_of new))
        (sym (blocked_call-text (numbered_of old) (styling_of old) it call other some)) (written call new takes);
  }

  -- a text,
  pub TakesCalls-text : (text : List ℕ) → IsUtf8 text → 0 < length text → (new : Inside W)
      → inside.TakesCalls sink begun.inside (text_calls text) new → TakesCalls sink old (text_calls text) (record begun { inside = new })
  TakesCalls-text text utf8 some new takes =
      let calls = text_calls text in
      record {
        numbered = takes.numbered ∙ begins.numbered;
        styling = takes.styling ∙ begins.styling;
        standing = ap₂ (λ lined left. blocked lined left)
            (takes.standing ∙ ap₂ (λ is lined. inside_at_end is lined calls) begins.numbered lined-begun) left-begun
            ∙ sym (blocked_at_end-text (numbered_of old) (styling_of old) it text utf8 some);
        added = subst (λ t. Adds sink t (output_of old) (inside.output_of new))
            (ap (λ is. block_opening it ++ inside_from is (styling_of begun) (inside.lined_of begun.inside) calls) begins.numbered
            ∙ ap₂ (λ styling lined. block_opening it ++ inside_from (numbered_of old) styling lined calls) begins.styling lined-begun
            ∙ sym (blocked_from-text (numbered_of old) (styling_of old) it text utf8 some))
            (Adds-append sink (block_opening it) (inside_from (numbered_of begun) (styling_of begun) (inside.lined_of begun.inside) calls)
            (output_of old) (output_of begun) (inside.output_of new) begins.added takes.added);
      }

  -- a line feed of a line that is not the block's last,
  module _ (new : Inside W) (takes : inside.TakesCall sink begun.inside (execute 0x0A) new) where
    abbrev feed : Call
    feed = execute 0x0A

    abbrev closing_by : (full : Bool) → List ℕ
    closing_by full =
        block_opening it ++ (inside_call (numbered_of old) (styling_of old) it.inside feed ++ block_closing (after_call feed new takes) full)

    abbrev after_by_feed : (full : Bool) → Blocked
    after_by_feed full =
        if full then block_ended (after_call feed new takes) else blocked (after_call feed new takes) (left_with_text it - 1)

    pub TakesCall-feed : (begun.left == 1) ≡ false → (left : ℕ) → left ≡ begun.left - 1
        → TakesCall sink old feed (record begun { inside = new; left = left })
    TakesCall-feed other left less =
        let full = ap (λ n. n == 1) (sym left-begun) ∙ other in
        record {
          numbered = takes.numbered ∙ begins.numbered;
          styling = takes.styling ∙ begins.styling;
          standing = ap₂ (λ lined n. blocked lined n) (stands feed new takes) (less ∙ ap (λ n. n - 1) left-begun) ∙ sym (ap after_by_feed full);
          added = subst (λ t. Adds sink t (output_of old) (inside.output_of new))
              (ap (λ l. block_opening it ++ l) (sym (append-nil (inside_call (numbered_of old) (styling_of old) it.inside feed))) ∙ sym (ap closing_by full))
              (written feed new takes);
        }

    -- and of its last line.
    pub TakesCall-last : (begun.left == 1) ≡ true → (ended_block : Inside W)
        → inside.numbered_of ended_block ≡ inside.numbered_of new → inside.styling_of ended_block ≡ inside.styling_of new
        → inside.lined_of ended_block ≡ lined (ended (inside.lined_of new).at) (inside.lined_of new).number false (inside.lined_of new).spare
        → Adds sink (element_end (inside.lined_of new).at.shown ++ block_end) (inside.output_of new) (inside.output_of ended_block)
        → TakesCall sink old feed (record begun { inside = ended_block; left = 0 })
    TakesCall-last last ended_block same_numbered same_styling ends closes =
        let full = ap (λ n. n == 1) (sym left-begun) ∙ last in
        let text = inside_call (numbered_of old) (styling_of old) it.inside feed in
        let close = element_end (inside.lined_of new).at.shown ++ block_end in
        record {
          numbered = same_numbered ∙ takes.numbered ∙ begins.numbered;
          styling = same_styling ∙ takes.styling ∙ begins.styling;
          standing = ap (λ lined. blocked lined 0) (ends ∙ ap (λ (l : Lined). lined (ended l.at) l.number false l.spare) (stands feed new takes))
              ∙ sym (ap after_by_feed full);
          added = subst (λ t. Adds sink t (output_of old) (inside.output_of ended_block))
              (append_assoc (block_opening it) text close
              ∙ ap (λ (l : Lined). block_opening it ++ (text ++ (element_end l.at.shown ++ block_end))) (stands feed new takes)
              ∙ sym (ap closing_by full))
              (Adds-append sink (block_opening it ++ text) close (output_of old) (inside.output_of new) (inside.output_of ended_block)
              (written feed new takes) closes);
        }

-- A call without text is taken inside.
pub TakesCall-none : {W : Type 0} (sink : SinkOf W) (old : BlocksWriter W) (call : Call) → is_executed 0x0A call ≡ false → stripped_call call ≡ []
    → (new : Inside W) → inside.TakesCall sink old.inside call new → TakesCall sink old call (record old { inside = new })
TakesCall-none sink old call other none new takes =
    let it = blocked_of old in
    record {
      numbered = takes.numbered;
      styling = takes.styling;
      standing = ap (λ lined. blocked lined old.left) takes.standing ∙ sym (blocked_after-none (numbered_of old) (styling_of old) it call other none);
      added = subst (λ t. Adds sink t (output_of old) (inside.output_of new))
          (sym (blocked_call-none (numbered_of old) (styling_of old) it call other none)) takes.added;
    }
