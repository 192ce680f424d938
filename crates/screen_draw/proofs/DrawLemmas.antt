-- Drawing: calls, one after another, and their texts.
use Rattle.std.proofs.Common.{◌≡◌, ℕ, suc, ◌+◌, ◌*◌, ◌<◌, ◌≤◌, Bool, true, false, List, [], ◌∷◌, ◌++◌, length, take, drop, get_or, refl, ap, sym, inl, inr, ⊎_elim, ◌∙◌, subst, arith, append_assoc, append-nil}
use Rattle.std.specs.Prelude.{decimal, not, IsTrue, ◌⊎◌, ◌||◌, nat_lt, encode_utf8, if◌then◌else◌}
use Rattle.std.specs.List.{AllByRecursion}
use Rattle.std.proofs.lemmas.Bool.{false≢true, or_cases, or_left, or_right, ne_eqb}
use Rattle.std.specs.Char.{IsScalar}
use lib.Utf8.{scalar_cases}
use borrow.Author.Tests.{ltb-true, ltb-false}
use Rattle.std.proofs.lemmas.Grind.{flat_map-append}
use Rattle.std.proofs.lemmas.List.{take_more, length-take-le}
use Rattle.anstyle_parse.specs.declared.io.devices.Sink.{Ghosts as SinkOf}
use Rattle.anstyle_parse.specs.declared.io.output.Output.{Output}
use Rattle.anstyle_parse.specs.Io.Output.{Adds}
use Rattle.anstyle_parse.specs.Stream.Bytes.{escape_byte, is_control, is_final, is_within, is_marker, is_intermediate}
use Rattle.anstyle_parse.specs.Stream.Arguments.{after_marker}
use Rattle.anstyle_parse.specs.Stream.Items.{is_introducer, is_string_kind, EachIs}
use Rattle.anstyle_parse.proofs.Characters.Encoding.{within}
use Rattle.anstyle_parse.specs.Stream.Call.{Call, print, execute, csi_dispatch, esc_dispatch, hook, put, unhook, osc_dispatch}
use Rattle.anstyle_parse.specs.Stream.Calls.{is_executed}
use Rattle.anstyle_parse.specs.Stream.Canon.{call_text, canon, header_text, escape_text}
use Rattle.anstyle_parse.specs.Stream.Groups.{groups_text}
use Rattle.anstyle_parse.specs.Laws.Lawful.{AreLawful, IsHeaderCall, IsEscapeCall, is_character}
use Rattle.anstyle_parse.proofs.Written.Output.{Adds-append, Adds-append3}
use Rattle.ansi_style.specs.declared.style.Style.{Style}
use Rattle.ansi_style.specs.Codes.{one, codes_text}
use Rattle.ansi_screen.specs.declared.cell.Cell.{Cell}
use Rattle.ansi_screen.specs.declared.place.Charsets.{Charsets}
use Rattle.ansi_screen.specs.Widths.{is_shown}
use Rattle.screen_draw.specs.declared.cells.Pen.{Pen}
use Rattle.screen_draw.specs.Draw.{escape, sequence, private_mode, set_or_reset, select, cell_calls, cells_calls, pen_behind, pen_after, stop_calls, stops_calls, charset_final, charsets_calls, drawn_character}
use Rattle.screen_draw.specs.Drawing.{IsDrawing, Draws}
use Rattle.screen_draw.proofs.BufferLemmas.{take-row}

-- calls, one after another
pub both-drawing : (first second : List Call) → AllByRecursion IsDrawing first → AllByRecursion IsDrawing second → AllByRecursion IsDrawing (first ++ second)
both-drawing [] second are others = others
both-drawing (call ∷ first) second are others = (are.0, both-drawing first second are.1 others)

module _ {W : Type 0} (sink : SinkOf W) where
  pub draws-append : (first second : List Call) (a b c : Output W) → Draws sink first a b → Draws sink second b c → Draws sink (first ++ second) a c
  draws-append first second a b c one other = record {
    added = subst (λ t. Adds sink t a c) (sym (flat_map-append call_text first second))
        (Adds-append sink (canon first) (canon second) a b c one.added other.added);
    drawing = both-drawing first second one.drawing other.drawing;
  }

  -- one call, by its text
  pub draws-one : (call : Call) (text : List ℕ) (a b : Output W) → call_text call ≡ text → Adds sink text a b → IsDrawing call → Draws sink (call ∷ []) a b
  draws-one call text a b same added drawing = record {
    added = subst (λ t. Adds sink t a b) (sym (append-nil (call_text call) ∙ same)) added;
    drawing = (drawing, tt);
  }

-- SO and SI are controls
shift-executed : (byte : ℕ) → (byte ≡ 0x0E) ⊎ (byte ≡ 0x0F) → IsTrue (is_executed byte)
unfolding is_executed is_control is_within
shift-executed byte (inl e) = subst (λ b. IsTrue (is_executed b)) (sym e) refl
shift-executed byte (inr e) = subst (λ b. IsTrue (is_executed b)) (sym e) refl

-- they are lawful
pub drawing-lawful : (calls : List Call) → AllByRecursion IsDrawing calls → AreLawful calls
drawing-lawful [] are = tt
drawing-lawful (print c ∷ calls) are = (are.0.0, drawing-lawful calls are.1)
drawing-lawful (execute byte ∷ calls) are = (shift-executed byte are.0, drawing-lawful calls are.1)
drawing-lawful (csi_dispatch groups intermediates ignore final ∷ calls) are = (are.0.0, drawing-lawful calls are.1)
drawing-lawful (esc_dispatch intermediates ignore final ∷ calls) are = (are.0.0, drawing-lawful calls are.1)
drawing-lawful (hook groups intermediates ignore final ∷ calls) are = absurd are.0
drawing-lawful (put byte ∷ calls) are = absurd are.0
drawing-lawful (unhook ∷ calls) are = absurd are.0
drawing-lawful (osc_dispatch parts bell_terminated ∷ calls) are = absurd are.0

-- control sequences and escape sequences
sequence-text : (groups : List (List ℕ)) (final : ℕ) → call_text (csi_dispatch groups [] false final) ≡ escape_byte ∷ 0x5B ∷ (groups_text groups ++ final ∷ [])
unfolding header_text
sequence-text groups final =
    let text = groups_text groups in
    ap (λ l. escape_byte ∷ 0x5B ∷ (l ++ final ∷ [])) (append-nil (text ++ []) ∙ append-nil text)

private-text : (mode final : ℕ) → call_text (csi_dispatch (one mode ∷ []) (0x3F ∷ []) false final) ≡ escape_byte ∷ 0x5B ∷ 0x3F ∷ (decimal mode ++ final ∷ [])
unfolding header_text is_marker is_within
private-text mode final =
    let text = groups_text (one mode ∷ []) in
    ap (λ l. escape_byte ∷ 0x5B ∷ 0x3F ∷ (l ++ final ∷ [])) (append-nil (text ++ []) ∙ append-nil text)

one-header : (n : ℕ) (intermediates : List ℕ) (final : ℕ) → n ≤ 65535 → length intermediates ≤ 2 → AllByRecursion (λ b. IsTrue (is_intermediate b)) (after_marker intermediates)
    → IsTrue (is_final final) → IsHeaderCall (one n ∷ []) intermediates false final
one-header n intermediates final small few are ends = record {
  groups_fit = ((omega arith, (small, tt)), tt);
  some_field = omega arith;
  fields_fit = omega arith;
  collected_fit = few;
  collected_are = are;
  ignores = λ e. absurd (false≢true e);
  is_finished = ends;
}

two-header : (m n final : ℕ) → m ≤ 65535 → n ≤ 65535 → IsTrue (is_final final) → IsHeaderCall (one m ∷ one n ∷ []) [] false final
two-header m n final small little ends = record {
  groups_fit = ((omega arith, (small, tt)), ((omega arith, (little, tt)), tt));
  some_field = omega arith;
  fields_fit = omega arith;
  collected_fit = omega arith;
  collected_are = tt;
  ignores = λ e. absurd (false≢true e);
  is_finished = ends;
}

-- what stands before 0 and B, and ?
set-mark : IsTrue (is_intermediate 0x28) × IsTrue (is_intermediate 0x29)
unfolding is_intermediate is_within
set-mark = (refl, refl)

private-marks : AllByRecursion (λ b. IsTrue (is_intermediate b)) (after_marker (0x3F ∷ []))
unfolding is_marker is_within
private-marks = tt

is-final : (final : ℕ) → 0x40 ≤ final → final ≤ 0x7E → IsTrue (is_final final)
unfolding is_final
is-final final from up_to = within 0x40 0x7E final from up_to

-- P, X, [, ], ^ and _ are between
begins-by : (f : ℕ) → (f < 0x50) ⊎ (0x5F < f) → IsTrue (not (is_introducer f))
unfolding is_introducer is_string_kind
begins-by f (inl low) = rw (ne_eqb f 0x58 (λ e. omega arith), ne_eqb f 0x5E (λ e. omega arith), ne_eqb f 0x5F (λ e. omega arith), ne_eqb f 0x50 (λ e. omega arith), ne_eqb f 0x5B (λ e. omega arith), ne_eqb f 0x5D (λ e. omega arith)) refl
begins-by f (inr high) = rw (ne_eqb f 0x58 (λ e. omega arith), ne_eqb f 0x5E (λ e. omega arith), ne_eqb f 0x5F (λ e. omega arith), ne_eqb f 0x50 (λ e. omega arith), ne_eqb f 0x5B (λ e. omega arith), ne_eqb f 0x5D (λ e. omega arith)) refl

begins-nothing : (f : ℕ) → IsTrue (nat_lt f 0x50 || nat_lt 0x5F f) → IsTrue (not (is_introducer f))
begins-nothing f is = begins-by f (⊎_elim (λ h. inl (ltb-true f 0x50 h)) (λ h. inr (ltb-true 0x5F f h)) (or_cases (nat_lt f 0x50) (nat_lt 0x5F f) is))

set-final : (on : Bool) → IsTrue (is_final (set_or_reset on))
unfolding is_final is_within
set-final true = refl
set-final false = refl

charset-within : (draws : Bool) → IsTrue (is_within 0x30 0x7E (charset_final draws))
unfolding is_within
charset-within true = refl
charset-within false = refl

shift-drawing : (uses : Bool) → IsDrawing (execute (if uses then 0x0E else 0x0F))
shift-drawing true = inl refl
shift-drawing false = inr refl

space-shown : IsTrue (is_shown 0x20)
unfolding is_shown is_within
space-shown = refl

shown-if : (c : ℕ) (t : Bool) → is_shown c ≡ t → IsTrue (is_shown (if t then c else 0x20))
shown-if c true e = e
shown-if c false e = space-shown

least-by : (c : ℕ) (t other : Bool) → nat_lt c 0x20 ≡ t → not (t || other) ≡ true → 0x20 ≤ c
least-by c true other e is = absurd (false≢true is)
least-by c false other e is = ltb-false c 0x20 e

least-shown : (c : ℕ) → is_shown c ≡ true → 0x20 ≤ c
unfolding is_shown
least-shown c is = least-by c _ (is_within 0x7F 0x9F c) refl is

character-scalar : (c : ℕ) → IsScalar c → 0x20 ≤ c → is_character c ≡ true
unfolding is_character
character-scalar c is low =
    ⊎_elim
    (λ h. or_left (is_within 0x20 0xD7FF c) (is_within 0xE000 0x10FFFF c) (within 0x20 0xD7FF c low (omega (arith, h))))
    (λ h. or_right (is_within 0x20 0xD7FF c) (is_within 0xE000 0x10FFFF c) (within 0xE000 0x10FFFF c h.0 (omega (arith, h.1))))
    (scalar_cases c is)

space-character : IsTrue (is_character 0x20)
unfolding is_character is_within
space-character = refl

character-if : (c : ℕ) (t : Bool) → is_shown c ≡ t → IsScalar c → IsTrue (is_character (if t then c else 0x20))
character-if c true e is = character-scalar c is (least-shown c e)
character-if c false e is = space-character

pub drawn-character : (c : ℕ) → IsScalar c → IsTrue (is_character (drawn_character c))
unfolding drawn_character
drawn-character c is = character-if c _ refl is

shown-drawn : (c : ℕ) → IsTrue (is_shown (drawn_character c))
unfolding drawn_character
shown-drawn c = shown-if c _ refl

escape-call : (intermediates : List ℕ) (final : ℕ) → length intermediates ≤ 2 → EachIs is_intermediate intermediates → IsTrue (is_within 0x30 0x7E final)
    → (intermediates ≡ [] → IsTrue (not (is_introducer final))) → IsEscapeCall intermediates false final
escape-call intermediates final few are within begins = record {
  collected_fit = few;
  collected_are = are;
  ignores = λ e. absurd (false≢true e);
  is_finished = within;
  begins_nothing = begins;
}

designates : (mark : ℕ) (draws : Bool) → IsTrue (is_intermediate mark) → IsEscapeCall (mark ∷ []) false (charset_final draws)
designates mark draws is = escape-call (mark ∷ []) (charset_final draws) (omega arith) (is, tt) (charset-within draws) (λ e. cc e)

module _ {W : Type 0} (sink : SinkOf W) where
  pub draws-escape : (final : ℕ) (a b : Output W) → 0x30 ≤ final → final ≤ 0x7E → IsTrue (nat_lt final 0x50 || nat_lt 0x5F final)
      → Adds sink (escape_byte ∷ final ∷ []) a b → Draws sink (escape final ∷ []) a b
  unfolding escape_text
  draws-escape final a b from up_to begins added =
      draws-one sink (escape final) (escape_byte ∷ final ∷ []) a b refl added
      (escape-call [] final (omega arith) tt (within 0x30 0x7E final from up_to) (λ e. begins-nothing final begins), refl)

  pub draws-number : (n final : ℕ) (a b c d : Output W) → n ≤ 65535 → 0x40 ≤ final → final ≤ 0x7E
      → Adds sink (escape_byte ∷ 0x5B ∷ []) a b → Adds sink (decimal n) b c → Adds sink (final ∷ []) c d → Draws sink (sequence (n ∷ []) final ∷ []) a d
  draws-number n final a b c d small from up_to first second third =
      draws-one sink (sequence (n ∷ []) final) (escape_byte ∷ 0x5B ∷ (decimal n ++ final ∷ [])) a d (sequence-text (one n ∷ []) final)
      (Adds-append3 sink (escape_byte ∷ 0x5B ∷ []) (decimal n) (final ∷ []) a b c d first second third)
      (one-header n [] final small (omega arith) tt (is-final final from up_to), refl)

  pub draws-numbers : (m n final : ℕ) (a b c d e f : Output W) → m ≤ 65535 → n ≤ 65535 → 0x40 ≤ final → final ≤ 0x7E
      → Adds sink (escape_byte ∷ 0x5B ∷ []) a b → Adds sink (decimal m) b c → Adds sink (0x3B ∷ []) c d → Adds sink (decimal n) d e → Adds sink (final ∷ []) e f
      → Draws sink (sequence (m ∷ n ∷ []) final ∷ []) a f
  draws-numbers m n final a b c d e f small little from up_to first second third fourth fifth =
      let whole : escape_byte ∷ 0x5B ∷ (groups_text (one m ∷ one n ∷ []) ++ final ∷ []) ≡ (escape_byte ∷ 0x5B ∷ []) ++ (decimal m ++ (0x3B ∷ (decimal n ++ final ∷ []))) =
      ap (λ l. escape_byte ∷ 0x5B ∷ l) (append_assoc (decimal m) (0x3B ∷ decimal n) (final ∷ [])) in
      draws-one sink (sequence (m ∷ n ∷ []) final) ((escape_byte ∷ 0x5B ∷ []) ++ (decimal m ++ (0x3B ∷ (decimal n ++ final ∷ [])))) a f
      (sequence-text (one m ∷ one n ∷ []) final ∙ whole)
      (Adds-append sink (escape_byte ∷ 0x5B ∷ []) (decimal m ++ (0x3B ∷ (decimal n ++ final ∷ []))) a b f first
      (Adds-append sink (decimal m) (0x3B ∷ (decimal n ++ final ∷ [])) b c f second
      (Adds-append sink (0x3B ∷ []) (decimal n ++ final ∷ []) c d f third (Adds-append sink (decimal n) (final ∷ []) d e f fourth fifth))))
      (two-header m n final small little (is-final final from up_to), refl)

  pub draws-private : (mode : ℕ) (on : Bool) (a b c d : Output W) → mode ≤ 65535
      → Adds sink (escape_byte ∷ 0x5B ∷ 0x3F ∷ []) a b → Adds sink (decimal mode) b c → Adds sink (set_or_reset on ∷ []) c d → Draws sink (private_mode mode on ∷ []) a d
  draws-private mode on a b c d small first second third =
      draws-one sink (private_mode mode on) (escape_byte ∷ 0x5B ∷ 0x3F ∷ (decimal mode ++ set_or_reset on ∷ [])) a d (private-text mode (set_or_reset on))
      (Adds-append3 sink (escape_byte ∷ 0x5B ∷ 0x3F ∷ []) (decimal mode) (set_or_reset on ∷ []) a b c d first second third)
      (one-header mode (0x3F ∷ []) (set_or_reset on) small (omega arith) private-marks (set-final on), refl)

  pub draws-style : (style : Style) (a b : Output W) → Adds sink (codes_text style) a b → AreLawful (select style ∷ []) → Draws sink (select style ∷ []) a b
  unfolding codes_text
  draws-style style a b added lawful = record { added = added; drawing = ((lawful.0, refl), tt) }

  pub draws-character : (c : ℕ) (a b : Output W) → IsTrue (is_character (drawn_character c)) → Adds sink (encode_utf8 (drawn_character c)) a b → Draws sink (print (drawn_character c) ∷ []) a b
  draws-character c a b is added = draws-one sink (print (drawn_character c)) (encode_utf8 (drawn_character c)) a b refl added (is, shown-drawn c)

  pub draws-charsets : (sets : Charsets) (a b : Output W)
      → Adds sink (escape_byte ∷ 0x28 ∷ charset_final sets.g0_draws ∷ escape_byte ∷ 0x29 ∷ charset_final sets.g1_draws ∷ (if sets.uses_g1 then 0x0E else 0x0F) ∷ []) a b
      → Draws sink (charsets_calls sets) a b
  unfolding escape_text
  draws-charsets sets a b added = record {
    added = added;
    drawing = ((designates 0x28 sets.g0_draws set-mark.0, refl), ((designates 0x29 sets.g1_draws set-mark.1, refl), (shift-drawing sets.uses_g1, tt)));
  }

-- cells, and more of them
pen_after-append : (pen : Pen) (cells more : List Cell) → pen_after pen (cells ++ more) ≡ pen_after (pen_after pen cells) more
pen_after-append pen [] more = refl
pen_after-append pen (first ∷ cells) more = pen_after-append (pen_behind first pen) cells more

cells_calls-append : (width place : ℕ) (pen : Pen) (cells more : List Cell)
    → cells_calls width place pen (cells ++ more) ≡ cells_calls width place pen cells ++ cells_calls width (place + length cells) (pen_after pen cells) more
cells_calls-append width place pen [] more =
    let here : place ≡ place + length {A = Cell} [] = omega arith in
    ap (λ p. cells_calls width p pen more) here
cells_calls-append width place pen (first ∷ cells) more =
    let next : suc place + length cells ≡ place + length (first ∷ cells) = omega arith in
    ap (λ l. cell_calls width place pen first ++ l) (cells_calls-append width (suc place) (pen_behind first pen) cells more)
    ∙ (sym (append_assoc (cell_calls width place pen first) (cells_calls width (suc place) (pen_behind first pen) cells) _)
    ∙ ap (λ p. (cell_calls width place pen first ++ cells_calls width (suc place) (pen_behind first pen) cells) ++ cells_calls width p (pen_after (pen_behind first pen) cells) more) next)

-- cells and stops so far, and one more
cells_calls-push : (width place : ℕ) (pen : Pen) (cells : List Cell) (cell : Cell)
    → cells_calls width place pen (cells ++ cell ∷ []) ≡ cells_calls width place pen cells ++ cell_calls width (place + length cells) (pen_after pen cells) cell
cells_calls-push width place pen cells cell =
    cells_calls-append width place pen cells (cell ∷ [])
    ∙ ap (λ l. cells_calls width place pen cells ++ l) (append-nil (cell_calls width (place + length cells) (pen_after pen cells) cell))

stops_calls-push : (column : ℕ) (stops : List Bool) (last : Bool) → stops_calls column (stops ++ last ∷ []) ≡ stops_calls column stops ++ stop_calls (column + length stops) last
stops_calls-push column [] last =
    let here : column ≡ column + length {A = Bool} [] = omega arith in
    append-nil (stop_calls column last) ∙ ap (λ c. stop_calls c last) here
stops_calls-push column (first ∷ stops) last =
    let next : suc column + length stops ≡ column + length (first ∷ stops) = omega arith in
    ap (λ l. stop_calls column first ++ l) (stops_calls-push (suc column) stops last)
    ∙ (sym (append_assoc (stop_calls column first) (stops_calls (suc column) stops) _)
    ∙ ap (λ c. (stop_calls column first ++ stops_calls (suc column) stops) ++ stop_calls c last) next)

module _ {W : Type 0} (sink : SinkOf W) where
  pub draws-cell : (width start : ℕ) (pen middle : Pen) (cells : List Cell) (i : ℕ) (d : Cell) (a b c : Output W) → i < length cells → middle ≡ pen_after pen (take i cells)
      → Draws sink (cells_calls width start pen (take i cells)) a b → Draws sink (cell_calls width (start + i) middle (get_or cells i d)) b c
      → Draws sink (cells_calls width start pen (take (i + 1) cells)) a c
  draws-cell width start pen middle cells i d a b c inside is first second =
      let here : start + i ≡ start + length (take i cells) = ap (λ n. start + n) (sym (length-take-le i cells (omega arith))) in
      subst (λ l. Draws sink l a c)
      (ap (λ p. cells_calls width start pen (take i cells) ++ cell_calls width p (pen_after pen (take i cells)) (get_or cells i d)) here
      ∙ (sym (cells_calls-push width start pen (take i cells) (get_or cells i d)) ∙ ap (cells_calls width start pen) (sym (take_more cells i d inside))))
      (draws-append sink (cells_calls width start pen (take i cells)) (cell_calls width (start + i) (pen_after pen (take i cells)) (get_or cells i d)) a b c first
      (subst (λ p. Draws sink (cell_calls width (start + i) p (get_or cells i d)) b c) is second))

  -- a row more
  pub draws-row : (width row : ℕ) (pen middle : Pen) (cells more : List Cell) (a b c : Output W) → row * width ≤ length cells
      → more ≡ take width (drop (row * width) cells) → middle ≡ pen_after pen (take (row * width) cells)
      → Draws sink (cells_calls width 0 pen (take (row * width) cells)) a b → Draws sink (cells_calls width (row * width) middle more) b c
      → Draws sink (cells_calls width 0 pen (take ((row + 1) * width) cells)) a c
  draws-row width row pen middle cells more a b c within is behind first second =
      let front : List Cell = take (row * width) cells in
      let here : row * width ≡ 0 + length front = omega (arith, length-take-le (row * width) cells within) in
      subst (λ l. Draws sink l a c)
      (ap (λ l. cells_calls width 0 pen front ++ cells_calls width (row * width) (pen_after pen front) l) is
      ∙ (ap (λ p. cells_calls width 0 pen front ++ cells_calls width p (pen_after pen front) (take width (drop (row * width) cells))) here
      ∙ (sym (cells_calls-append width 0 pen front (take width (drop (row * width) cells))) ∙ ap (cells_calls width 0 pen) (sym (take-row width row cells)))))
      (draws-append sink (cells_calls width 0 pen front) (cells_calls width (row * width) (pen_after pen front) more) a b c first
      (subst (λ p. Draws sink (cells_calls width (row * width) p more) b c) behind second))

  pub draws-stop : (stops : List Bool) (i : ℕ) (d : Bool) (a b c : Output W) → i < length stops
      → Draws sink (stops_calls 0 (take i stops)) a b → Draws sink (stop_calls i (get_or stops i d)) b c
      → Draws sink (stops_calls 0 (take (i + 1) stops)) a c
  draws-stop stops i d a b c inside first second =
      let front : length (take i stops) ≡ i = length-take-le i stops (omega arith) in
      let here : i ≡ 0 + length (take i stops) = omega arith in
      subst (λ l. Draws sink l a c)
      (ap (λ p. stops_calls 0 (take i stops) ++ stop_calls p (get_or stops i d)) here
      ∙ (sym (stops_calls-push 0 (take i stops) (get_or stops i d)) ∙ ap (stops_calls 0) (sym (take_more stops i d inside))))
      (draws-append sink (stops_calls 0 (take i stops)) (stop_calls i (get_or stops i d)) a b c first second)

pub pen-more : (pen middle next : Pen) (cells : List Cell) (i : ℕ) (d : Cell) → i < length cells → middle ≡ pen_after pen (take i cells)
    → next ≡ pen_behind (get_or cells i d) middle → next ≡ pen_after pen (take (i + 1) cells)
pen-more pen middle next cells i d inside is follows =
    follows
    ∙ (ap (pen_behind (get_or cells i d)) is
    ∙ sym (ap (pen_after pen) (take_more cells i d inside) ∙ pen_after-append pen (take i cells) (get_or cells i d ∷ [])))

pub pen-row : (width row : ℕ) (pen middle next : Pen) (cells more : List Cell) → more ≡ take width (drop (row * width) cells)
    → middle ≡ pen_after pen (take (row * width) cells) → next ≡ pen_after middle more → next ≡ pen_after pen (take ((row + 1) * width) cells)
pen-row width row pen middle next cells more is behind follows =
    follows
    ∙ (ap (λ p. pen_after p more) behind
    ∙ (ap (pen_after (pen_after pen (take (row * width) cells))) is
    ∙ (sym (pen_after-append pen (take (row * width) cells) (take width (drop (row * width) cells)))
    ∙ ap (pen_after pen) (sym (take-row width row cells)))))
