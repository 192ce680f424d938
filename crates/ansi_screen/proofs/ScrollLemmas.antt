-- As many rows leave by a call as the screen moves up.
use Rattle.std.proofs.Common.{◌≡◌, ℕ, zero, suc, ◌+◌, ◌-◌, ◌*◌, ◌<◌, ◌≤◌, Bool, true, false, List, [], ◌∷◌, ◌++◌, length, take, drop, refl, ap, ap₂, sym, ◌∙◌, inl, inr, arith}
use Rattle.std.specs.Prelude.{◌≢◌, ◌⊎◌, min, nat_lt, nat_le, ◌==◌, ◌&&◌, ◌||◌, not, if◌then◌else◌}
use Rattle.std.specs.Fn.{iterate}
use Rattle.std.proofs.lemmas.Bool.{ne_eqb, leb-true, leb-false}
use Rattle.std.proofs.lemmas.List.{take-append-drop, append-nil}
use Rattle.std.proofs.Math.Nat.{mul-le-mul_right}
use borrow.Author.Tests.{eqb-true}
use Rattle.anstyle_parse.specs.Stream.Call.{Call, print, execute, hook, put, unhook, osc_dispatch, csi_dispatch, esc_dispatch}
use Rattle.ansi_screen.specs.declared.cell.Cell.{Cell}
use Rattle.ansi_screen.specs.declared.function.Function.{Function}
use Rattle.ansi_screen.specs.declared.function.Function.TheVariants.{Edits, Moves, Sets, Nothing}
use Rattle.ansi_screen.specs.declared.function.Setting.TheVariants.{Rendition, SetModes, ResetModes, Margins, ScrollUp, ScrollDown, ForwardTab, ClearStops, SaveCursor, RestoreCursor}
use Rattle.ansi_screen.specs.Cells.{moved_back, within}
use Rattle.ansi_screen.specs.Display.{Display}
use Rattle.ansi_screen.specs.Moves.{to_column, settled, tabbed, with_stop, cleared_stops}
use Rattle.ansi_screen.specs.Edits.{space, row_going_on, rows_up, scrolled_up, index}
use Rattle.ansi_screen.specs.Widths.{is_shown, columns}
use Rattle.ansi_screen.specs.Print.{wrapped}
use Rattle.ansi_screen.specs.Modes.{with_mode, with_modes, with_margins, with_charset, restored, first_field}
use Rattle.ansi_screen.specs.State.{State, Step}
use Rattle.ansi_screen.specs.After.{function_of, first_of, second_of, is_bare, count, set, controlled, executed, escaped, designated}
use Rattle.ansi_screen.specs.Edits.{main_screen}
use Rattle.ansi_screen.specs.Leaving.{rows_left}
use Rattle.ansi_screen.specs.Text.{first_rows}
use Rattle.ansi_screen.specs.Reachable.{IsScreen}
use Rattle.ansi_screen.specs.Laws.{EditsNothing, KeepsRows, is_wrapping, before_scroll, once_scrolled}
use Rattle.ansi_screen.proofs.LeavingTable.{rows_left-is, length-left, leaving_up, leaving_by_index, leaving_by_control, leaving_by_escape, leaving_by_function, leaving_by_sequence, leaving, before_escape, before_leaving}
use Rattle.ansi_screen.proofs.PairLemmas.{length-run}
use Rattle.ansi_screen.proofs.KeptLemmas.{kept-column, kept-settled, kept-going_on}
use Rattle.ansi_screen.proofs.LawLemmas.{moved-cursor, no-repeat, step-sequence}

-- the cells of a display, moved up by so many rows above the lower margin
abbrev up_by : ℕ → Display → List Cell
up_by n d = (rows_up n 0 d.bottom d).cells

-- a run that stays as it is
within-same : (start end : ℕ) (how : List Cell → List Cell) (cells : List Cell)
    → how (take (end - start) (drop start cells)) ≡ take (end - start) (drop start cells) → within start end how cells ≡ cells
within-same start end how cells same =
    ap (λ run. take start cells ++ (run ++ drop (end - start) (drop start cells))) same
    ∙ (ap (λ l. take start cells ++ l) (take-append-drop (end - start) (drop start cells)) ∙ take-append-drop start cells)

back-none : (gap : Cell) (run : List Cell) → moved_back 0 gap run ≡ run
back-none gap run = let none : min 0 (length run) ≡ 0 = omega arith in rw none (append-nil run)

up-none : (d : Display) → up_by 0 d ≡ d.cells
unfolding rows_up
up-none d =
    let none : 0 * d.width ≡ 0 = omega arith in
    within-same (0 * d.width) (d.bottom * d.width) (moved_back (0 * d.width) (space d)) d.cells
    (ap (λ k. moved_back k (space d) (take (d.bottom * d.width - 0 * d.width) (drop (0 * d.width) d.cells))) none ∙ back-none (space d) _)

-- no more rows than there are
inside : (d : Display) → IsScreen d → d.bottom * d.width ≤ length d.cells
inside d s =
    let rows : d.bottom * d.width ≤ d.height * d.width = mul-le-mul_right {m = d.bottom} {n = d.height} d.width s.sized.margins_within in
    let full : length d.cells ≡ d.height * d.width = s.sized.cells_fill in
    omega arith

back-all : (n m : ℕ) (gap : Cell) (run : List Cell) → length run ≤ n → length run ≤ m → moved_back n gap run ≡ moved_back m gap run
back-all n m gap run first second =
    let all : min n (length run) ≡ length run = omega arith in
    let both : min m (length run) ≡ length run = omega arith in
    rw (all, both) refl

up-min : (n : ℕ) (d : Display) (t : Bool) → nat_le n d.bottom ≡ t → IsScreen d → up_by n d ≡ up_by (min n d.bottom) d
unfolding rows_up
up-min n d true is s =
    let few : n ≤ d.bottom = leb-true n d.bottom is in
    let same : min n d.bottom ≡ n = omega arith in
    rw same refl
up-min n d false is s =
    let many : d.bottom < n = leb-false n d.bottom is in
    let same : min n d.bottom ≡ d.bottom = omega arith in
    let start : ℕ = 0 * d.width in
    let end : ℕ = d.bottom * d.width in
    let run : List Cell = take (end - start) (drop start d.cells) in
    let order : start ≤ end = omega arith in
    let long : length run ≡ end - start = length-run start end d.cells (inside d s) in
    let more : d.bottom * d.width ≤ n * d.width = mul-le-mul_right {m = d.bottom} {n = n} d.width (omega arith) in
    ap (λ l. take start d.cells ++ (l ++ drop (end - start) (drop start d.cells))) (back-all (n * d.width) (d.bottom * d.width) (space d) run (omega arith) (omega arith))
    ∙ ap (λ k. up_by k d) (sym same)

-- the main screen, with the upper margin at its first row
module _ (d : Display) (s : IsScreen d) (top : d.top ≡ 0) (main : d.is_alternate ≡ false) where
  leaving-top : (n : ℕ) → leaving_up n d ≡ min n d.bottom
  unfolding leaving_up
  leaving-top n = rw (top, main) refl

  scrolled-up : (n : ℕ) → (scrolled_up n d).display.cells ≡ up_by (leaving_up n d) d
  unfolding rows_up
  scrolled-up n =
      ap (λ k. (rows_up n k d.bottom d).cells) top
      ∙ (up-min n d _ refl s ∙ ap (λ k. up_by k d) (sym (leaving-top n)))

  index-up : (t : Bool) → (d.cursor.row + 1 == d.bottom) ≡ t → (index d).display.cells ≡ up_by (leaving_by_index d) d
  unfolding index leaving_by_index
  index-up true is = rw is (scrolled-up 1)
  index-up false is = rw is (sym (up-none d))

-- either of two displays with the same cells
same-if : (cells : List Cell) (t : Bool) (a b : Display) → a.cells ≡ cells → b.cells ≡ cells → (if t then a else b).cells ≡ cells
same-if cells true a b first second = first
same-if cells false a b first second = second

after-if : (cells : List Cell) (t : Bool) (a b : Step) → a.display.cells ≡ cells → b.display.cells ≡ cells → (if t then a else b).display.cells ≡ cells
after-if cells true a b first second = first
after-if cells false a b first second = second

tabbed-cells : (d : Display) → (tabbed d).cells ≡ d.cells
unfolding tabbed
tabbed-cells d = same-if d.cells (d.cursor.column == d.width) d _ refl refl

tabs-cells : (n : ℕ) (d : Display) → (iterate tabbed n d).cells ≡ d.cells
tabs-cells zero d = refl
tabs-cells (suc n) d = tabs-cells n (tabbed d) ∙ tabbed-cells d

mode-cells : (on : Bool) (groups : List (List ℕ)) (d : Display) → (with_modes (with_mode on) groups d).cells ≡ d.cells
unfolding with_mode
mode-cells on [] d = refl
mode-cells on (group ∷ groups) d =
    mode-cells on groups (with_mode on (first_field group) d) ∙ same-if d.cells (first_field group == 4) _ d refl refl

margin-cells : (first last : ℕ) (d : Display) → (with_margins first last d).cells ≡ d.cells
unfolding with_margins
margin-cells first last d = same-if d.cells _ _ d refl refl

stop-cells : (kind : ℕ) (d : Display) → (cleared_stops kind d).cells ≡ d.cells
stop-cells kind d = same-if d.cells (kind == 0) (with_stop false d) _ refl (same-if d.cells (kind == 3) _ d refl refl)

restored-cells : (d : Display) → (restored d).cells ≡ d.cells
unfolding restored
restored-cells d = same-if d.cells d.saved.is_relative _ _ refl refl

-- by a control function
control-up : (function : Function) (groups : List (List ℕ)) (d : Display) → IsScreen d → d.top ≡ 0 → d.is_alternate ≡ false
    → EditsNothing function → (controlled function groups d).display.cells ≡ up_by (leaving_by_function function groups d) d
unfolding controlled leaving_by_function set
control-up (Edits edit) groups d s top main never = absurd never
control-up (Moves move) groups d s top main steady =
    ap (λ (e : Display). e.cells) (moved-cursor move (first_of groups) (second_of groups) d) ∙ sym (up-none d)
control-up (Sets Rendition) groups d s top main steady = sym (up-none d)
control-up (Sets SetModes) groups d s top main steady = mode-cells true groups d ∙ sym (up-none d)
control-up (Sets ResetModes) groups d s top main steady = mode-cells false groups d ∙ sym (up-none d)
control-up (Sets Margins) groups d s top main steady = margin-cells (first_of groups) (second_of groups) d ∙ sym (up-none d)
control-up (Sets ScrollUp) groups d s top main steady = scrolled-up d s top main (count (first_of groups))
control-up (Sets ScrollDown) groups d s top main never = absurd never
control-up (Sets ForwardTab) groups d s top main steady = tabs-cells (min (count (first_of groups)) d.width) d ∙ sym (up-none d)
control-up (Sets ClearStops) groups d s top main steady = stop-cells (first_of groups) d ∙ sym (up-none d)
control-up (Sets SaveCursor) groups d s top main steady = after-if d.cells (is_bare groups) _ _ refl refl ∙ sym (up-none d)
control-up (Sets RestoreCursor) groups d s top main steady = after-if d.cells (is_bare groups) _ _ (restored-cells d) refl ∙ sym (up-none d)
control-up Nothing groups d s top main steady = sym (up-none d)

-- by a control: LF, VT and FF, and all others
or-three : (byte : ℕ) (a b c : Bool) → byte == 0x0A ≡ a → byte == 0x0B ≡ b → byte == 0x0C ≡ c → (a || b || c) ≡ true
    → (byte ≡ 0x0A) ⊎ ((byte ≡ 0x0B) ⊎ (byte ≡ 0x0C))
or-three byte true b c first second third is = inl (eqb-true byte 0x0A first)
or-three byte false true c first second third is = inr (inl (eqb-true byte 0x0B second))
or-three byte false false true first second third is = inr (inr (eqb-true byte 0x0C third))
or-three byte false false false first second third is = cc is

feed-index : (byte : ℕ) (d : Display) → (byte ≡ 0x0A) ⊎ ((byte ≡ 0x0B) ⊎ (byte ≡ 0x0C)) → executed byte d ≡ index (settled d)
unfolding executed
feed-index byte d (inl is) = rw is refl
feed-index byte d (inr (inl is)) = rw is refl
feed-index byte d (inr (inr is)) = rw is refl

settled-up : (d : Display) → IsScreen d → d.top ≡ 0 → d.is_alternate ≡ false → (index (settled d)).display.cells ≡ up_by (leaving_by_index d) d
unfolding leaving_by_index leaving_up rows_up
settled-up d s top main = index-up (settled d) (kept-settled d s) top main _ refl

first-up : (d : Display) → IsScreen d → d.top ≡ 0 → d.is_alternate ≡ false → (index (to_column 0 d)).display.cells ≡ up_by (leaving_by_index d) d
unfolding leaving_by_index leaving_up rows_up
first-up d s top main = index-up (to_column 0 d) (kept-column 0 d s) top main _ refl

executed-up : (byte : ℕ) (d : Display) (t : Bool) → (byte == 0x0A || byte == 0x0B || byte == 0x0C) ≡ t → IsScreen d
    → d.top ≡ 0 → d.is_alternate ≡ false → (executed byte d).display.cells ≡ up_by (leaving_by_control byte d) d
unfolding executed leaving_by_control
executed-up byte d true is s top main =
    ap (λ (e : Step). e.display.cells) (feed-index byte d (or-three byte _ _ _ refl refl refl is))
    ∙ rw is (settled-up d s top main)
executed-up byte d false is s top main =
    rw is (after-if d.cells (byte == 0x08) _ _ refl
    (after-if d.cells (byte == 0x09) _ _ (tabbed-cells d)
    (after-if d.cells (byte == 0x0D) _ _ refl
    (after-if d.cells (byte == 0x0E) _ _ refl
    (after-if d.cells (byte == 0x0F) _ _ refl refl)))) ∙ sym (up-none d))

-- by an escape sequence: IND and NEL, and all others
or-two : (final : ℕ) (a b : Bool) → final == 0x44 ≡ a → final == 0x45 ≡ b → (a || b) ≡ true → (final ≡ 0x44) ⊎ (final ≡ 0x45)
or-two final true b first second is = inl (eqb-true final 0x44 first)
or-two final false true first second is = inr (eqb-true final 0x45 second)
or-two final false false first second is = cc is

escaped-index : (final : ℕ) (d : Display) → (final ≡ 0x44) ⊎ (final ≡ 0x45) → IsScreen d → d.top ≡ 0 → d.is_alternate ≡ false
    → (escaped final d).display.cells ≡ up_by (leaving_by_index d) d
unfolding escaped
escaped-index final d (inl is) s top main = rw is (settled-up d s top main)
escaped-index final d (inr is) s top main = rw is (first-up d s top main)

or-left : (a b : Bool) → (a || b) ≡ false → (a ≡ false) × (b ≡ false)
or-left true b is = cc is
or-left false b is = (refl, is)

escaped-up : (final : ℕ) (d : Display) (t : Bool) → (final == 0x44 || final == 0x45) ≡ t → (final ≢ 0x4D) × (final ≢ 0x63) → IsScreen d
    → d.top ≡ 0 → d.is_alternate ≡ false → (escaped final d).display.cells ≡ up_by (leaving_by_escape [] final d) d
unfolding leaving_by_escape escaped
escaped-up final d true is others s top main =
    escaped-index final d (or-two final _ _ refl refl is) s top main ∙ rw is refl
escaped-up final d false is others s top main =
    let no = or-left (final == 0x44) (final == 0x45) is in
    rw (is, no.0, no.1, ne_eqb final 0x4D others.0, ne_eqb final 0x63 others.1)
    (after-if d.cells (final == 0x37) _ _ refl
    (after-if d.cells (final == 0x38) _ _ (restored-cells d)
    (after-if d.cells (final == 0x48) _ _ refl refl)) ∙ sym (up-none d))

charset-cells : (mark final : ℕ) (d : Display) → (with_charset mark final d).cells ≡ d.cells
unfolding with_charset
charset-cells mark final d =
    same-if d.cells (mark == 0x28) _ _ refl (same-if d.cells (mark == 0x29) _ d refl refl)

-- by a character: autowrap
wrap-if : (a b c : Bool) (x y : Step) (j d : Display) (n bottom : ℕ) → x.display.cells ≡ (rows_up n 0 bottom j).cells
    → y.display.cells ≡ (rows_up 0 0 bottom d).cells → d.cells ≡ (rows_up 0 0 bottom d).cells
    → (if a then (if b then (if c then x else y) else record { display = d; left = [] }).display else d).cells
    ≡ (rows_up (if a && b && c then n else 0) 0 bottom (if a && b && c then j else d)).cells
wrap-if true true true x y j d n bottom first second third = first
wrap-if true true false x y j d n bottom first second third = second
wrap-if true false c x y j d n bottom first second third = third
wrap-if false b c x y j d n bottom first second third = third

joined-up : (d : Display) → IsScreen d → d.top ≡ 0 → d.is_alternate ≡ false
    → (index (to_column 0 (row_going_on true d))).display.cells ≡ (rows_up (leaving_by_index d) 0 d.bottom (row_going_on true d)).cells
unfolding leaving_by_index leaving_up
joined-up d s top main = first-up (row_going_on true d) (kept-going_on true d s) top main

printed-up : (c : ℕ) (s : State) → IsScreen s.display → s.display.top ≡ 0 → s.display.is_alternate ≡ false
    → (once_scrolled (print c) s).cells ≡ (rows_up (leaving (print c) s.display) 0 s.display.bottom (before_leaving (print c) s.display)).cells
unfolding wrapped is_wrapping
printed-up c s screen top main =
    let d : Display = s.display in
    wrap-if (is_shown c && not (columns c == 0)) (nat_lt d.width (d.cursor.column + columns c)) d.wraps
    (index (to_column 0 (row_going_on true d))) (record { display = settled d; left = [] }) (row_going_on true d) d (leaving_by_index d) d.bottom
    (joined-up d screen top main) (sym (up-none d)) (sym (up-none d))

begun-other : (final : ℕ) (d : Display) → final ≢ 0x63 → before_escape [] final d ≡ d
unfolding before_escape
begun-other final d other = ap (λ t. if t then main_screen d else d) (ne_eqb final 0x63 other)

moved-up : (s : State) (call : Call) → IsScreen s.display → KeepsRows call → s.display.top ≡ 0 → s.display.is_alternate ≡ false
    → (once_scrolled call s).cells ≡ (rows_up (leaving call s.display) 0 s.display.bottom (before_leaving call s.display)).cells
unfolding leaving_by_sequence leaving_by_escape before_escape designated
moved-up s (print c) screen keeps top main = printed-up c s screen top main
moved-up s (execute byte) screen keeps top main = executed-up byte s.display _ refl screen top main
moved-up s (csi_dispatch groups [] false final) screen keeps top main =
    ap (λ (e : Step). e.display.cells) (step-sequence groups final s.last s.display (no-repeat final keeps.0))
    ∙ control-up (function_of final) groups s.display screen top main keeps.1
moved-up s (csi_dispatch groups [] true final) screen keeps top main = sym (up-none s.display)
moved-up s (csi_dispatch groups (mark ∷ marks) false final) screen keeps top main = absurd keeps
moved-up s (csi_dispatch groups (mark ∷ marks) true final) screen keeps top main = sym (up-none s.display)
moved-up s (esc_dispatch [] false final) screen keeps top main =
    escaped-up final s.display _ refl keeps screen top main
    ∙ ap (λ (e : Display). (rows_up (leaving_by_escape [] final s.display) 0 s.display.bottom e).cells) (sym (begun-other final s.display keeps.1))
moved-up s (esc_dispatch [] true final) screen keeps top main = sym (up-none s.display)
moved-up s (esc_dispatch (mark ∷ []) false final) screen keeps top main = charset-cells mark final s.display ∙ sym (up-none s.display)
moved-up s (esc_dispatch (mark ∷ other ∷ others) false final) screen keeps top main = sym (up-none s.display)
moved-up s (esc_dispatch (mark ∷ marks) true final) screen keeps top main = sym (up-none s.display)
moved-up s (hook groups intermediates ignore final) screen keeps top main = sym (up-none s.display)
moved-up s (put byte) screen keeps top main = sym (up-none s.display)
moved-up s unhook screen keeps top main = sym (up-none s.display)
moved-up s (osc_dispatch parts bell) screen keeps top main = sym (up-none s.display)

same-before : (call : Call) (d : Display) → KeepsRows call → before_leaving call d ≡ before_scroll call d
unfolding before_escape
same-before (print c) d keeps = refl
same-before (execute byte) d keeps = refl
same-before (csi_dispatch groups intermediates ignore final) d keeps = refl
same-before (esc_dispatch [] false final) d keeps = begun-other final d keeps.1
same-before (esc_dispatch (mark ∷ marks) false final) d keeps = refl
same-before (esc_dispatch intermediates true final) d keeps = refl
same-before (hook groups intermediates ignore final) d keeps = refl
same-before (put byte) d keeps = refl
same-before unhook d keeps = refl
same-before (osc_dispatch parts bell) d keeps = refl

pub rows-up : (s : State) (call : Call) → IsScreen s.display → KeepsRows call → s.display.top ≡ 0 → s.display.is_alternate ≡ false
    → (once_scrolled call s).cells ≡ (rows_up (length (rows_left call s)) 0 s.display.bottom (before_scroll call s.display)).cells
rows-up s call screen keeps top main =
    moved-up s call screen keeps top main
    ∙ ap₂ (λ n (e : Display). (rows_up n 0 s.display.bottom e).cells) (sym (length-left call s)) (same-before call s.display keeps)

-- and they are the first
pub rows-first : (s : State) (call : Call) → KeepsRows call → rows_left call s ≡ first_rows (length (rows_left call s)) (before_scroll call s.display)
rows-first s call keeps =
    rows_left-is call s ∙ ap₂ (λ n (e : Display). first_rows n e) (sym (length-left call s)) (same-before call s.display keeps)
