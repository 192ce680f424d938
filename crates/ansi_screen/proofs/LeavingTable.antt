-- Which rows leave by a call, said call by call: how many, and of which display the first ones.
use Rattle.std.proofs.Common.{◌≡◌, ℕ, zero, suc, ◌+◌, ◌*◌, ◌≤◌, Bool, true, false, List, [], ◌∷◌, length, take, drop, refl, ap, sym, ◌∙◌, subst, inl, inr, add-one, arith}
use Rattle.std.specs.Prelude.{min, nat_lt, nat_le, ◌==◌, ◌&&◌, ◌||◌, not, if◌then◌else◌, Option}
use Rattle.std.proofs.lemmas.Bool.{and_parts, eqb-true, cases_Bool, leb-true, le-ltb}
use Rattle.std.proofs.lemmas.List.{length-append}
use Rattle.anstyle_parse.specs.Stream.Call.{Call, print, execute, hook, put as put_byte, unhook, osc_dispatch, csi_dispatch, esc_dispatch}
use Rattle.ansi_screen.specs.declared.cell.Cell.{Cell}
use Rattle.ansi_screen.specs.declared.function.Edit.{Edit}
use Rattle.ansi_screen.specs.declared.function.Edit.TheVariants.{InsertCharacters, EraseInDisplay, EraseInLine, InsertLines, DeleteLines, DeleteCharacters, EraseCharacters}
use Rattle.ansi_screen.specs.declared.function.Function.{Function}
use Rattle.ansi_screen.specs.declared.function.Function.TheVariants.{Edits, Moves, Sets, Nothing}
use Rattle.ansi_screen.specs.declared.function.Setting.TheVariants.{Rendition, SetModes, ResetModes, Margins, ScrollUp, ScrollDown, ForwardTab, ClearStops, SaveCursor, RestoreCursor}
use Rattle.ansi_screen.specs.Cells.{rows_of}
use Rattle.ansi_screen.specs.Display.{Display, row_cells}
use Rattle.ansi_screen.specs.State.{Step, State}
use Rattle.ansi_screen.specs.Moves.{to_column, settled}
use Rattle.ansi_screen.specs.Edits.{row_going_on, erased_display, index, swapped, main_screen, left_by_scroll, left_by_erase, erases_all}
use Rattle.ansi_screen.specs.Text.{is_unprinted, used, used_rows, first_rows, printed_count}
use Rattle.ansi_screen.specs.Widths.{is_shown, columns}
use Rattle.ansi_screen.specs.Print.{wrapped, shown, drawn, draws, printed}
use Rattle.ansi_screen.specs.After.{function_of, first_of, is_bare, count, is_known, edited, set as set_by, controlled, sequenced, executed, escaped, designated, is_repeat, step_of}
use Rattle.ansi_screen.specs.Leaving.{rows_left}
use Rattle.ansi_screen.specs.Laws.{is_wrapping}
use Rattle.ansi_screen.proofs.RowLemmas.{drawn-if}

-- of n rows that scroll up within the margins: those at the top of the main screen
unfoldable pub leaving_up : ℕ → Display → ℕ
leaving_up n d = if d.top == 0 && not d.is_alternate then min n d.bottom else 0

-- by a move to the next row: at the lower margin all scrolls up by one
unfoldable pub leaving_by_index : Display → ℕ
leaving_by_index d = if d.cursor.row + 1 == d.bottom then leaving_up 1 d else 0

-- LF, VT, FF; IND, NEL, and RIS; SU, and ED of all
unfoldable pub leaving_by_control : ℕ → Display → ℕ
leaving_by_control byte d = if byte == 0x0A || byte == 0x0B || byte == 0x0C then leaving_by_index d else 0

unfoldable pub leaving_by_escape : List ℕ → ℕ → Display → ℕ
leaving_by_escape [] final d =
    if final == 0x44 || final == 0x45 then leaving_by_index d
    else if final == 0x63 then printed_count (main_screen d)
    else 0
leaving_by_escape (mark ∷ marks) final d = 0

unfoldable pub leaving_by_function : Function → List (List ℕ) → Display → ℕ
leaving_by_function (Sets ScrollUp) groups d = leaving_up (count (first_of groups)) d
leaving_by_function (Edits EraseInDisplay) groups d =
    if erases_all (first_of groups) (settled d) && not d.is_alternate then printed_count d else 0
leaving_by_function function groups d = 0

unfoldable pub leaving_by_sequence : List (List ℕ) → List ℕ → ℕ → Display → ℕ
leaving_by_sequence groups [] final d = leaving_by_function (function_of final) groups d
leaving_by_sequence groups (mark ∷ marks) final d = 0

-- how many rows leave by a call
abbrev pub leaving : Call → Display → ℕ
leaving (print c) d = if is_wrapping c d then leaving_by_index d else 0
leaving (execute byte) d = leaving_by_control byte d
leaving (csi_dispatch groups intermediates ignore final) d =
    if ignore then 0 else leaving_by_sequence groups intermediates final d
leaving (esc_dispatch intermediates ignore final) d =
    if ignore then 0 else leaving_by_escape intermediates final d
leaving call d = 0

-- the display whose first rows they are: before autowrap the cursor's row goes on in the next; RIS takes them from the main
-- screen
unfoldable pub before_escape : List ℕ → ℕ → Display → Display
before_escape [] final d = if final == 0x63 then main_screen d else d
before_escape (mark ∷ marks) final d = d

abbrev pub before_leaving : Call → Display → Display
before_leaving (print c) d = if is_wrapping c d then row_going_on true d else d
before_leaving (esc_dispatch intermediates ignore final) d = if ignore then d else before_escape intermediates final d
before_leaving call d = d

abbrev pub leaving_rows : Call → Display → List (List Cell)
leaving_rows call d = first_rows (leaving call d) (before_leaving call d)

-- By a step the first rows of a display leave.
abbrev Leaves : ℕ → Display → Step → Type 0
Leaves n from step = step.left ≡ first_rows n from

rows-if : (t : Bool) (n : ℕ) (d : Display) → (if t then first_rows n d else []) ≡ first_rows (if t then n else 0) d
rows-if true n d = refl
rows-if false n d = refl

leaves-if : (t : Bool) (n : ℕ) (d : Display) (a b : Step) → Leaves n d a → b.left ≡ [] → Leaves (if t then n else 0) d (if t then a else b)
leaves-if true n d a b first second = first
leaves-if false n d a b first second = second

-- none leaves by either of two steps
none-if : (t : Bool) (a b : Step) → a.left ≡ [] → b.left ≡ [] → (if t then a else b).left ≡ []
none-if true a b first second = first
none-if false a b first second = second

-- SU, and a move to the next row
scroll-leaves : (n : ℕ) (d : Display) → left_by_scroll n d ≡ first_rows (leaving_up n d) d
unfolding left_by_scroll leaving_up
scroll-leaves n d = rows-if (d.top == 0 && not d.is_alternate) (min n d.bottom) d

index-leaves : (d : Display) → Leaves (leaving_by_index d) d (index d)
unfolding index leaving_by_index
index-leaves d = leaves-if (d.cursor.row + 1 == d.bottom) (leaving_up 1 d) d _ _ (scroll-leaves 1 d) refl

settled-index : (d : Display) → Leaves (leaving_by_index d) d (index (settled d))
unfolding leaving_by_index leaving_up
settled-index d = index-leaves (settled d)

first-index : (d : Display) → Leaves (leaving_by_index d) d (index (to_column 0 d))
unfolding leaving_by_index leaving_up
first-index d = index-leaves (to_column 0 d)

-- printing: a wrap moves to the next row, once the row goes on in it
pick-wrap : (full wraps : Bool) (n : ℕ) (from d : Display) (a b e : Step) → Leaves n from a → b.left ≡ [] → e.left ≡ []
    → Leaves (if full && wraps then n else 0) (if full && wraps then from else d) (if full then (if wraps then a else b) else e)
pick-wrap true true n from d a b e first second third = first
pick-wrap true false n from d a b e first second third = second
pick-wrap false wraps n from d a b e first second third = third

wrapped-leaves : (n : ℕ) (d : Display)
    → Leaves (if nat_lt d.width (d.cursor.column + n) && d.wraps then leaving_by_index d else 0)
    (if nat_lt d.width (d.cursor.column + n) && d.wraps then row_going_on true d else d) (wrapped n d)
unfolding wrapped leaving_by_index leaving_up
wrapped-leaves n d =
    pick-wrap (nat_lt d.width (d.cursor.column + n)) d.wraps (leaving_by_index d) (row_going_on true d) d _ _ _
    (first-index (row_going_on true d)) refl refl

left-at : (t : Bool) (a b : Step) → (if t then a else b).left ≡ (if t then a.left else b.left)
left-at true a b = refl
left-at false a b = refl

shown-leaves : (c n : ℕ) (d : Display) → columns c ≡ n → (shown c d).left ≡ (if n == 0 then [] else (wrapped n d).left)
unfolding shown
shown-leaves c n d is = rw is (left-at (n == 0) _ _)

printed-at : (is_it none : Bool) (c : ℕ) (d : Display) → is_shown c ≡ is_it → (columns c == 0) ≡ none
    → Leaves (if is_wrapping c d then leaving_by_index d else 0) (if is_wrapping c d then row_going_on true d else d) (printed c d)
unfolding printed is_wrapping
printed-at false none c d is none_is = rw is refl
printed-at true true c d is none_is =
    let character : ℕ = if draws d.cursor.charsets then drawn c else c in
    let same : (shown character d).left ≡ [] =
    shown-leaves character (columns c) d (drawn-if c (draws d.cursor.charsets)) ∙ ap (λ t. if t then [] else (wrapped (columns c) d).left) none_is in
    rw (is, none_is) same
printed-at true false c d is none_is =
    let character : ℕ = if draws d.cursor.charsets then drawn c else c in
    let same : (shown character d).left ≡ (wrapped (columns c) d).left =
    shown-leaves character (columns c) d (drawn-if c (draws d.cursor.charsets)) ∙ ap (λ t. if t then [] else (wrapped (columns c) d).left) none_is in
    rw (is, none_is) (same ∙ wrapped-leaves (columns c) d)

printed-leaves : (c : ℕ) (d : Display)
    → Leaves (if is_wrapping c d then leaving_by_index d else 0) (if is_wrapping c d then row_going_on true d else d) (printed c d)
printed-leaves c d = printed-at _ _ c d refl refl

-- where the row has room, none leaves
one_false : (a b d : Bool) → (a && b && false && d) ≡ false
one_false true true d = refl
one_false true false d = refl
one_false false b d = refl

roomy : (c : ℕ) (d : Display) → nat_le (d.cursor.column + columns c) d.width ≡ true → is_wrapping c d ≡ false
unfolding is_wrapping
roomy c d room =
    rw (le-ltb d.width (d.cursor.column + columns c) (leb-true (d.cursor.column + columns c) d.width room)) (one_false (is_shown c) (not (columns c == 0)) d.wraps)

pub again-leaves : (c : ℕ) (d : Display) → nat_le (d.cursor.column + columns c) d.width ≡ true → (printed c d).left ≡ []
again-leaves c d room =
    printed-leaves c d ∙ ap (λ t. first_rows (if t then leaving_by_index d else 0) (if t then row_going_on true d else d)) (roomy c d room)

-- controls
module _ (d : Display) where
  abbrev ByControl : ℕ → Type 0
  ByControl byte = Leaves (leaving_by_control byte d) d (executed byte d)

  executed-leaves : (byte : ℕ) → ByControl byte
  unfolding executed leaving_by_control
  executed-leaves byte = elim (cases_Bool (byte == 0x08)) [
    | inl is ↦ subst ByControl (sym (eqb-true byte 0x08 is)) refl
    | inr a ↦ elim (cases_Bool (byte == 0x09)) [
      | inl is ↦ subst ByControl (sym (eqb-true byte 0x09 is)) refl
      | inr b ↦ elim (cases_Bool (byte == 0x0A || byte == 0x0B || byte == 0x0C)) [
        | inl is ↦ rw (a, b, is) (settled-index d)
        | inr e ↦ rw (a, b, e) (none-if (byte == 0x0D) _ _ refl (none-if (byte == 0x0E) _ _ refl (none-if (byte == 0x0F) _ _ refl refl)))
      ]
    ]
  ]

-- escape sequences
module _ (d : Display) where
  abbrev ByEscape : ℕ → Type 0
  ByEscape final = Leaves (leaving_by_escape [] final d) (before_escape [] final d) (escaped final d)

  escaped-leaves : (final : ℕ) → ByEscape final
  unfolding escaped leaving_by_escape before_escape leaving_by_index leaving_up
  escaped-leaves final = elim (cases_Bool (final == 0x37)) [
    | inl is ↦ subst ByEscape (sym (eqb-true final 0x37 is)) refl
    | inr a ↦ elim (cases_Bool (final == 0x38)) [
      | inl is ↦ subst ByEscape (sym (eqb-true final 0x38 is)) refl
      | inr b ↦ elim (cases_Bool (final == 0x44)) [
        | inl is ↦ subst ByEscape (sym (eqb-true final 0x44 is)) (settled-index d)
        | inr e ↦ elim (cases_Bool (final == 0x45)) [
          | inl is ↦ subst ByEscape (sym (eqb-true final 0x45 is)) (first-index d)
          | inr f ↦ elim (cases_Bool (final == 0x48)) [
            | inl is ↦ subst ByEscape (sym (eqb-true final 0x48 is)) refl
            | inr g ↦ elim (cases_Bool (final == 0x4D)) [
              | inl is ↦ subst ByEscape (sym (eqb-true final 0x4D is)) refl
              | inr h ↦ elim (cases_Bool (final == 0x63)) [
                | inl is ↦ subst ByEscape (sym (eqb-true final 0x63 is)) refl
                | inr i ↦ rw (a, b, e, f, g, h, i) refl
              ]
            ]
          ]
        ]
      ]
    ]
  ]

designated-leaves : (intermediates : List ℕ) (final : ℕ) (d : Display)
    → Leaves (leaving_by_escape intermediates final d) (before_escape intermediates final d) (designated intermediates final d)
unfolding designated leaving_by_escape before_escape
designated-leaves [] final d = escaped-leaves d final
designated-leaves (mark ∷ []) final d = refl
designated-leaves (mark ∷ other ∷ others) final d = refl

-- control sequences
erased-leaves : (kind : ℕ) (d : Display)
    → Leaves (if erases_all kind d && not d.is_alternate then printed_count d else 0) d (erased_display kind d)
unfolding erased_display left_by_erase
erased-leaves kind d = rows-if (erases_all kind d && not d.is_alternate) (printed_count d) d

-- where no wrap is pending, as many rows have something printed
settled-used : (n : ℕ) (d : Display) → used_rows is_unprinted n (settled d) ≡ used_rows is_unprinted n d
settled-used zero d = refl
settled-used (suc n) d = ap (λ k. if used is_unprinted (row_cells n d) == 0 then k else suc n) (settled-used n d)

all-known : (kind : ℕ) (d : Display) → erases_all kind d ≡ true → is_known EraseInDisplay kind ≡ true
unfolding erases_all is_known
all-known kind d all = elim (cases_Bool (kind == 2)) [
  | inl is ↦ rw (eqb-true kind 2 is) refl
  | inr is ↦
      let first : Bool = d.cursor.row == 0 && d.cursor.column == 0 in
      let at : (kind == 0 && first) ≡ true = ap (λ b. b || (kind == 0 && first)) (sym is) ∙ all in
      rw (eqb-true kind 0 (and_parts (kind == 0) first at).0) refl
]

known-at : (known all : Bool) (kind : ℕ) (d : Display) → is_known EraseInDisplay kind ≡ known → erases_all kind (settled d) ≡ all
    → Leaves (if erases_all kind (settled d) && not d.is_alternate then printed_count d else 0) d
    (if known then erased_display kind (settled d) else record { display = d; left = [] })
known-at true all kind d known is =
    erased-leaves kind (settled d)
    ∙ ap (λ n. first_rows (if erases_all kind (settled d) && not d.is_alternate then n else 0) d) (settled-used d.height d)
known-at false false kind d known is = rw is refl
known-at false true kind d known is = cc (all-known kind (settled d) is, known)

edit-none : (edit : Edit) (n : ℕ) (d : Display) → ((edit ≡ EraseInDisplay) → ⊥) → (edited edit n (settled d)).left ≡ []
unfolding edited
edit-none InsertCharacters n d other = refl
edit-none EraseInDisplay n d other = absurd (other refl)
edit-none EraseInLine n d other = refl
edit-none InsertLines n d other = refl
edit-none DeleteLines n d other = refl
edit-none DeleteCharacters n d other = refl
edit-none EraseCharacters n d other = refl

edit-if : (edit : Edit) (n : ℕ) (d : Display) → ((edit ≡ EraseInDisplay) → ⊥)
    → (if is_known edit n then edited edit n (settled d) else record { display = d; left = [] }).left ≡ []
edit-if edit n d other = none-if (is_known edit n) _ _ (edit-none edit n d other) refl

controlled-leaves : (function : Function) (groups : List (List ℕ)) (d : Display)
    → Leaves (leaving_by_function function groups d) d (controlled function groups d)
unfolding leaving_by_function controlled set_by edited
controlled-leaves (Edits InsertCharacters) groups d = edit-if InsertCharacters (first_of groups) d (λ is. cc is)
controlled-leaves (Edits EraseInDisplay) groups d = known-at _ _ (first_of groups) d refl refl
controlled-leaves (Edits EraseInLine) groups d = edit-if EraseInLine (first_of groups) d (λ is. cc is)
controlled-leaves (Edits InsertLines) groups d = edit-if InsertLines (first_of groups) d (λ is. cc is)
controlled-leaves (Edits DeleteLines) groups d = edit-if DeleteLines (first_of groups) d (λ is. cc is)
controlled-leaves (Edits DeleteCharacters) groups d = edit-if DeleteCharacters (first_of groups) d (λ is. cc is)
controlled-leaves (Edits EraseCharacters) groups d = edit-if EraseCharacters (first_of groups) d (λ is. cc is)
controlled-leaves (Moves move) groups d = refl
controlled-leaves (Sets Rendition) groups d = refl
controlled-leaves (Sets SetModes) groups d = refl
controlled-leaves (Sets ResetModes) groups d = refl
controlled-leaves (Sets Margins) groups d = refl
controlled-leaves (Sets ScrollUp) groups d = scroll-leaves (count (first_of groups)) d
controlled-leaves (Sets ScrollDown) groups d = refl
controlled-leaves (Sets ForwardTab) groups d = refl
controlled-leaves (Sets ClearStops) groups d = refl
controlled-leaves (Sets SaveCursor) groups d = none-if (is_bare groups) _ _ refl refl
controlled-leaves (Sets RestoreCursor) groups d = none-if (is_bare groups) _ _ refl refl
controlled-leaves Nothing groups d = refl

sequenced-leaves : (groups : List (List ℕ)) (intermediates : List ℕ) (final : ℕ) (d : Display)
    → Leaves (leaving_by_sequence groups intermediates final d) d (sequenced groups intermediates final d)
unfolding sequenced leaving_by_sequence
sequenced-leaves groups [] final d = controlled-leaves (function_of final) groups d
sequenced-leaves groups (mark ∷ []) final d =
    none-if (mark == 0x3F && final == 0x68) _ _ refl
    (none-if (mark == 0x3F && final == 0x6C) _ _ refl (none-if (mark == 0x21 && final == 0x70) _ _ refl refl))
sequenced-leaves groups (mark ∷ other ∷ others) final d = refl

-- REP is no function by which rows leave
repeat-function : (groups : List (List ℕ)) (final : ℕ) (d : Display) → (final == 0x62) ≡ true → leaving_by_function (function_of final) groups d ≡ 0
unfolding leaving_by_function function_of
repeat-function groups final d is = ap (λ n. leaving_by_function (function_of n) groups d) (eqb-true final 0x62 is)

repeat-none : (groups : List (List ℕ)) (intermediates : List ℕ) (final : ℕ) (d : Display) → is_repeat intermediates final ≡ true
    → leaving_by_sequence groups intermediates final d ≡ 0
unfolding is_repeat leaving_by_sequence
repeat-none groups [] final d is = repeat-function groups final d is
repeat-none groups (mark ∷ marks) final d is = refl

csi-leaves : (repeats : Bool) (groups : List (List ℕ)) (intermediates : List ℕ) (final : ℕ) (last : Option ℕ) (d : Display)
    → is_repeat intermediates final ≡ repeats
    → Leaves (leaving_by_sequence groups intermediates final d) d (step_of (csi_dispatch groups intermediates false final) last d)
csi-leaves true groups intermediates final last d is = rw (is, repeat-none groups intermediates final d is) refl
csi-leaves false groups intermediates final last d is = rw is (sequenced-leaves groups intermediates final d)

step-leaves : (call : Call) (last : Option ℕ) (d : Display) → (step_of call last d).left ≡ leaving_rows call d
step-leaves (print c) last d = printed-leaves c d
step-leaves (execute byte) last d = executed-leaves d byte
step-leaves (csi_dispatch groups intermediates true final) last d = refl
step-leaves (csi_dispatch groups intermediates false final) last d = csi-leaves _ groups intermediates final last d refl
step-leaves (esc_dispatch intermediates true final) last d = refl
step-leaves (esc_dispatch intermediates false final) last d = designated-leaves intermediates final d
step-leaves (hook groups intermediates ignore final) last d = refl
step-leaves (put_byte byte) last d = refl
step-leaves unhook last d = refl
step-leaves (osc_dispatch parts bell) last d = refl

-- The rows that leave by a call are those of the table.
pub rows_left-is : (call : Call) (s : State) → rows_left call s ≡ leaving_rows call s.display
rows_left-is call s = step-leaves call s.last s.display

pub length-rows : (n width : ℕ) (cells : List Cell) → length (rows_of n width cells) ≡ n
length-rows zero width cells = refl
length-rows (suc n) width cells =
    length-append (rows_of n width cells) (take width (drop (n * width) cells) ∷ []) ∙ (ap (λ k. k + 1) (length-rows n width cells) ∙ add-one n)

pub length-left : (call : Call) (s : State) → length (rows_left call s) ≡ leaving call s.display
length-left call s =
    ap length (rows_left-is call s) ∙ length-rows (leaving call s.display) (before_leaving call s.display).width (before_leaving call s.display).cells

few-at : (t : Bool) (n k : ℕ) → k ≤ n → (if t then k else suc n) ≤ suc n
few-at true n k few = omega (arith, few)
few-at false n k few = omega arith

pub few-used : (n : ℕ) (d : Display) → used_rows is_unprinted n d ≤ n
few-used zero d = omega arith
few-used (suc n) d = few-at (used is_unprinted (row_cells n d) == 0) n (used_rows is_unprinted n d) (few-used n d)

few-if : (t : Bool) (a b most : ℕ) → a ≤ most → b ≤ most → (if t then a else b) ≤ most
few-if true a b most first second = first
few-if false a b most first second = second

-- no more leave than the screen has rows, or rows above the lower margin
module _ (most : ℕ) where
  no-more : (t : Bool) (n : ℕ) → n ≤ most → (if t then n else 0) ≤ most
  no-more t n few = few-if t n 0 most few (omega arith)

  up-few : (n : ℕ) (d : Display) → d.bottom ≤ most → leaving_up n d ≤ most
  unfolding leaving_up
  up-few n d low = no-more (d.top == 0 && not d.is_alternate) (min n d.bottom) (omega (arith, low))

  index-few : (d : Display) → d.bottom ≤ most → leaving_by_index d ≤ most
  unfolding leaving_by_index
  index-few d low = no-more (d.cursor.row + 1 == d.bottom) (leaving_up 1 d) (up-few 1 d low)

  printed-few : (d : Display) → d.height ≤ most → printed_count d ≤ most
  printed-few d tall = omega (arith, few-used d.height d, tall)

  main-few : (t : Bool) (d : Display) → d.height ≤ most → printed_count (if t then swapped d else d) ≤ most
  main-few true d tall = printed-few (swapped d) tall
  main-few false d tall = printed-few d tall

  function-few : (function : Function) (groups : List (List ℕ)) (d : Display) → d.height ≤ most → d.bottom ≤ most
      → leaving_by_function function groups d ≤ most
  unfolding leaving_by_function
  function-few (Edits InsertCharacters) groups d tall low = omega arith
  function-few (Edits EraseInDisplay) groups d tall low =
      no-more (erases_all (first_of groups) (settled d) && not d.is_alternate) (printed_count d) (printed-few d tall)
  function-few (Edits EraseInLine) groups d tall low = omega arith
  function-few (Edits InsertLines) groups d tall low = omega arith
  function-few (Edits DeleteLines) groups d tall low = omega arith
  function-few (Edits DeleteCharacters) groups d tall low = omega arith
  function-few (Edits EraseCharacters) groups d tall low = omega arith
  function-few (Moves move) groups d tall low = omega arith
  function-few (Sets Rendition) groups d tall low = omega arith
  function-few (Sets SetModes) groups d tall low = omega arith
  function-few (Sets ResetModes) groups d tall low = omega arith
  function-few (Sets Margins) groups d tall low = omega arith
  function-few (Sets ScrollUp) groups d tall low = up-few (count (first_of groups)) d low
  function-few (Sets ScrollDown) groups d tall low = omega arith
  function-few (Sets ForwardTab) groups d tall low = omega arith
  function-few (Sets ClearStops) groups d tall low = omega arith
  function-few (Sets SaveCursor) groups d tall low = omega arith
  function-few (Sets RestoreCursor) groups d tall low = omega arith
  function-few Nothing groups d tall low = omega arith

  pub call-few : (call : Call) (d : Display) → d.height ≤ most → d.bottom ≤ most → leaving call d ≤ most
  unfolding leaving_by_control leaving_by_escape leaving_by_function leaving_by_sequence
  call-few (print c) d tall low = no-more (is_wrapping c d) (leaving_by_index d) (index-few d low)
  call-few (execute byte) d tall low =
      no-more (byte == 0x0A || byte == 0x0B || byte == 0x0C) (leaving_by_index d) (index-few d low)
  call-few (csi_dispatch groups intermediates true final) d tall low = omega arith
  call-few (csi_dispatch groups [] false final) d tall low = function-few (function_of final) groups d tall low
  call-few (csi_dispatch groups (mark ∷ marks) false final) d tall low = omega arith
  call-few (esc_dispatch intermediates true final) d tall low = omega arith
  call-few (esc_dispatch [] false final) d tall low =
      few-if (final == 0x44 || final == 0x45) (leaving_by_index d) _ most (index-few d low)
      (no-more (final == 0x63) (printed_count (main_screen d)) (main-few d.is_alternate d tall))
  call-few (esc_dispatch (mark ∷ marks) false final) d tall low = omega arith
  call-few (hook groups intermediates ignore final) d tall low = omega arith
  call-few (put_byte byte) d tall low = omega arith
  call-few unhook d tall low = omega arith
  call-few (osc_dispatch parts bell) d tall low = omega arith
