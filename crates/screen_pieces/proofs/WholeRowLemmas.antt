-- Each row that leaves a screen has a cell in each column.
use Rattle.std.proofs.Common.{◌≡◌, ◌≤◌, ◌<◌, ◌*◌, ℕ, zero, suc, Bool, true, false, List, [], ◌∷◌, length, drop, refl, sym, ◌∙◌, subst, length-take, length-drop, arith}
use Rattle.std.specs.Prelude.{◌==◌, if◌then◌else◌}
use Rattle.std.specs.List.{AllByRecursion}
use Rattle.anstyle_parse.specs.Stream.Call.{Call, print, execute, hook, put, unhook, osc_dispatch, csi_dispatch, esc_dispatch}
use Rattle.ansi_screen.specs.declared.cell.Cell.{Cell}
use Rattle.ansi_screen.specs.After.{State, after}
use Rattle.ansi_screen.specs.Display.{Display, IsSized, row_cells}
use Rattle.ansi_screen.specs.Edits.{row_going_on}
use Rattle.ansi_screen.specs.Edits.{swapped, main_screen}
use Rattle.ansi_screen.specs.Text.{first_rows}
use Rattle.ansi_screen.specs.Laws.{is_wrapping}
use Rattle.ansi_screen.specs.Leaving.{rows_left, all_left}
use Rattle.ansi_screen.specs.Reachable.{IsScreen}
use Rattle.ansi_screen.proofs.CharacterLemmas.{all-append}
use Rattle.ansi_screen.proofs.KeptCalls.{kept-after}
use Rattle.ansi_screen.proofs.KeptLemmas.{kept-if, kept-going_on, row-inside}
use Rattle.ansi_screen.proofs.SizeLemmas.{sized-after, few-leave}
use Rattle.ansi_screen.proofs.LeavingTable.{leaving, before_escape, before_leaving, rows_left-is}
use Rattle.screen_answers.specs.Kept.{is_kept, rows_kept, all_kept}
use Rattle.screen_pieces.specs.History.{HasCells}

row-length : (n : ℕ) (d : Display) → IsSized d → n < d.height → length (row_cells n d) ≡ d.width
row-length n d sized inside =
    omega (arith, length-take d.width (drop (n * d.width) d.cells), length-drop (n * d.width) d.cells, sized.cells_fill, row-inside n d.width d.height inside)

first-whole : (n : ℕ) (d : Display) → IsSized d → n ≤ d.height → AllByRecursion (HasCells d.width) (first_rows n d)
first-whole zero d sized few = tt
first-whole (suc n) d sized few =
    all-append (HasCells d.width) (first_rows n d) (row_cells n d ∷ []) (first-whole n d sized (omega (arith, few)))
    (row-length n d sized (omega (arith, few)), tt)

sized-either : (t : Bool) (a b : Display) → IsSized a → IsSized b → IsSized (if t then a else b)
sized-either true a b first second = first
sized-either false a b first second = second

sized-swapped : (d : Display) → IsSized d → IsSized (swapped d)
sized-swapped d s = record {
  two_columns = s.two_columns;
  columns_limit = s.columns_limit;
  a_row = s.a_row;
  rows_limit = s.rows_limit;
  cells_fill = s.hidden_fill;
  hidden_fill = s.cells_fill;
  tabs_fill = s.tabs_fill;
  cursor_row = s.cursor_row;
  cursor_column = s.cursor_column;
  saved_row = s.saved_row;
  saved_column = s.saved_column;
  hidden_row = s.hidden_row;
  hidden_column = s.hidden_column;
  margins = s.margins;
  margins_within = s.margins_within;
}

sized-escape : (intermediates : List ℕ) (final : ℕ) (d : Display) → IsSized d → IsSized (before_escape intermediates final d)
unfolding before_escape
sized-escape [] final d s = sized-either (final == 0x63) (main_screen d) d (sized-either d.is_alternate (swapped d) d (sized-swapped d s) s) s
sized-escape (mark ∷ marks) final d s = s

before-sized : (call : Call) (d : Display) → IsScreen d → IsSized (before_leaving call d)
before-sized (print c) d is = (kept-if (is_wrapping c d) (row_going_on true d) d (λ _. kept-going_on true d is) (λ _. is)).sized
before-sized (execute byte) d is = is.sized
before-sized (csi_dispatch groups intermediates ignore final) d is = is.sized
before-sized (esc_dispatch intermediates ignore final) d is =
    sized-either ignore d (before_escape intermediates final d) is.sized (sized-escape intermediates final d is.sized)
before-sized (hook groups intermediates ignore final) d is = is.sized
before-sized (put byte) d is = is.sized
before-sized unhook d is = is.sized
before-sized (osc_dispatch parts bell) d is = is.sized

same-if : (t : Bool) (d : Display) → ((if t then row_going_on true d else d).width ≡ d.width) × ((if t then row_going_on true d else d).height ≡ d.height)
same-if true d = (refl, refl)
same-if false d = (refl, refl)

same-either : (t : Bool) (a b d : Display) → (a.width ≡ d.width) × (a.height ≡ d.height) → (b.width ≡ d.width) × (b.height ≡ d.height)
    → ((if t then a else b).width ≡ d.width) × ((if t then a else b).height ≡ d.height)
same-either true a b d first second = first
same-either false a b d first second = second

same-escape : (intermediates : List ℕ) (final : ℕ) (d : Display)
    → ((before_escape intermediates final d).width ≡ d.width) × ((before_escape intermediates final d).height ≡ d.height)
unfolding before_escape
same-escape [] final d =
    same-either (final == 0x63) (main_screen d) d d (same-either d.is_alternate (swapped d) d d (refl, refl) (refl, refl)) (refl, refl)
same-escape (mark ∷ marks) final d = (refl, refl)

before-same : (call : Call) (d : Display) → ((before_leaving call d).width ≡ d.width) × ((before_leaving call d).height ≡ d.height)
before-same (print c) d = same-if (is_wrapping c d) d
before-same (execute byte) d = (refl, refl)
before-same (csi_dispatch groups intermediates ignore final) d = (refl, refl)
before-same (esc_dispatch intermediates ignore final) d =
    same-either ignore d (before_escape intermediates final d) d (refl, refl) (same-escape intermediates final d)
before-same (hook groups intermediates ignore final) d = (refl, refl)
before-same (put byte) d = (refl, refl)
before-same unhook d = (refl, refl)
before-same (osc_dispatch parts bell) d = (refl, refl)

left-whole : (call : Call) (s : State) → IsScreen s.display → AllByRecursion (HasCells s.display.width) (rows_left call s)
left-whole call s is =
    let d : Display = s.display in
    let same = before-same call d in
    let few : leaving call d ≤ d.height = few-leave d.width d.height call d (refl, refl, is.sized.margins_within) in
    subst (λ rows. AllByRecursion (HasCells d.width) rows) (sym (rows_left-is call s))
    (subst (λ w. AllByRecursion (HasCells w) (first_rows (leaving call d) (before_leaving call d))) same.0
    (first-whole (leaving call d) (before_leaving call d) (before-sized call d is) (omega (arith, few, same.1))))

pub all-whole : (columns : ℕ) (calls : List Call) (s : State) → IsScreen s.display → s.display.width ≡ columns
    → AllByRecursion (HasCells columns) (all_left calls s)
all-whole columns [] s is wide = tt
all-whole columns (call ∷ calls) s is wide =
    let next : (after call s).display.width ≡ s.display.width =
    (sized-after s.display.width s.display.height call s (refl, refl, is.sized.margins_within)).0 in
    all-append (HasCells columns) (rows_left call s) (all_left calls (after call s)) (subst (λ w. AllByRecursion (HasCells w) (rows_left call s)) wide (left-whole call s is))
    (all-whole columns calls (after call s) (kept-after call s is) (next ∙ wide))

-- Of these some are kept, by a call all or none.
some-whole : (columns : ℕ) (kept : Bool) (rows : List (List Cell)) → AllByRecursion (HasCells columns) rows
    → AllByRecursion (HasCells columns) (if kept then rows else [])
some-whole columns true rows are = are
some-whole columns false rows are = tt

pub kept-whole : (columns : ℕ) (keeps_erased : Bool) (calls : List Call) (s : State) → IsScreen s.display → s.display.width ≡ columns
    → AllByRecursion (HasCells columns) (all_kept keeps_erased calls s)
kept-whole columns keeps_erased [] s is wide = tt
kept-whole columns keeps_erased (call ∷ calls) s is wide =
    let next : (after call s).display.width ≡ s.display.width =
    (sized-after s.display.width s.display.height call s (refl, refl, is.sized.margins_within)).0 in
    all-append (HasCells columns) (rows_kept keeps_erased call s) (all_kept keeps_erased calls (after call s))
    (some-whole columns (is_kept keeps_erased call) (rows_left call s) (subst (λ w. AllByRecursion (HasCells w) (rows_left call s)) wide (left-whole call s is)))
    (kept-whole columns keeps_erased calls (after call s) (kept-after call s is) (next ∙ wide))
