-- The cells of the rows that a screen showed have colours such as SGR can select.
use Rattle.std.proofs.Common.{ℕ, zero, suc, ◌-◌, ◌*◌, Bool, true, false, List, [], ◌∷◌, ◌++◌, drop, set, sym, subst}
use Rattle.std.specs.Prelude.{◌==◌, if◌then◌else◌}
use Rattle.std.specs.List.{AllByRecursion}
use Rattle.anstyle_parse.specs.Stream.Call.{Call, print, execute, hook, put, unhook, osc_dispatch, csi_dispatch, esc_dispatch}
use Rattle.anstyle_parse.proofs.Lists.Parts.{AllByRecursion-take}
use Rattle.ansi_screen.specs.declared.cell.Cell.{Cell}
use Rattle.ansi_screen.specs.Cells.{cell_at, going_on}
use Rattle.ansi_screen.specs.Display.{Display, row_end, row_cells}
use Rattle.ansi_screen.specs.Edits.{row_going_on, swapped, main_screen}
use Rattle.ansi_screen.specs.After.{State, after}
use Rattle.ansi_screen.specs.Laws.{is_wrapping}
use Rattle.ansi_screen.specs.Leaving.{rows_left, all_left}
use Rattle.ansi_screen.specs.Reachable.{HasColors, AreCells, IsScreen, HasContents}
use Rattle.ansi_screen.specs.Text.{first_rows, printed_count, printed_rows}
use Rattle.ansi_screen.proofs.CharacterLemmas.{all-append}
use Rattle.ansi_screen.proofs.ContentLemmas.{contents-after}
use Rattle.ansi_screen.proofs.KeptCalls.{kept-after}
use Rattle.ansi_screen.proofs.LeavingTable.{leaving, before_escape, before_leaving, rows_left-is}
use Rattle.screen_text.specs.Lines.{showing}
use Rattle.screen_calls.specs.Laws.{AreColored}

abbrev IsColored : Cell → Type 0
IsColored cell = HasColors cell.style

-- of a display: the cells that show and the hidden ones
abbrev HasColored : Display → Type 0
HasColored d = AreColored d.cells × AreColored d.hidden

colored-cells : (cells : List Cell) → AreCells cells → AreColored cells
colored-cells [] are = tt
colored-cells (cell ∷ cells) are = (are.0.colored, colored-cells cells are.1)

has-colored : (d : Display) → HasContents d → HasColored d
has-colored d has = (colored-cells d.cells has.cells, colored-cells d.hidden has.hidden)

colored-drop : (n : ℕ) (cells : List Cell) → AreColored cells → AreColored (drop n cells)
colored-drop zero cells are = are
colored-drop (suc n) [] are = tt
colored-drop (suc n) (cell ∷ cells) are = colored-drop n cells are.1

colored-at : (cells : List Cell) (i : ℕ) → AreColored cells → IsColored (cell_at i cells)
colored-at [] i are = (tt, tt)
colored-at (cell ∷ cells) zero are = are.0
colored-at (cell ∷ cells) (suc i) are = colored-at cells i are.1

colored-set : (cells : List Cell) (i : ℕ) (it : Cell) → IsColored it → AreColored cells → AreColored (set cells i it)
colored-set [] i it is are = are
colored-set (cell ∷ cells) zero it is are = (is, are.1)
colored-set (cell ∷ cells) (suc i) it is are = (are.0, colored-set cells i it is are.1)

colored-going_on : (on : Bool) (end : ℕ) (cells : List Cell) → AreColored cells → AreColored (going_on on end cells)
unfolding going_on
colored-going_on on end cells are =
    colored-set cells (end - 1) (record (cell_at (end - 1) cells) { goes_on = on }) (colored-at cells (end - 1) are) are

-- the first rows of a display
colored-rows : (n : ℕ) (d : Display) → AreColored d.cells → AllByRecursion AreColored (first_rows n d)
colored-rows zero d are = tt
colored-rows (suc n) d are =
    all-append AreColored (first_rows n d) (row_cells n d ∷ []) (colored-rows n d are)
    (AllByRecursion-take IsColored d.width (drop (n * d.width) d.cells) (colored-drop (n * d.width) d.cells are), tt)

colored-if : (t : Bool) (d e : Display) → HasColored d → HasColored e → HasColored (if t then d else e)
colored-if true d e has others = has
colored-if false d e has others = others

-- a display right before rows leave it
colored-marked : (t : Bool) (d : Display) → HasColored d → HasColored (if t then row_going_on true d else d)
colored-marked t d has = colored-if t (row_going_on true d) d (colored-going_on true (row_end d) d.cells has.0, has.1) has

colored-main : (d : Display) → HasColored d → HasColored (main_screen d)
colored-main d has = colored-if d.is_alternate (swapped d) d (has.1, has.0) has

colored-before_escape : (intermediates : List ℕ) (final : ℕ) (d : Display) → HasColored d → HasColored (before_escape intermediates final d)
unfolding before_escape
colored-before_escape [] final d has = colored-if (final == 0x63) (main_screen d) d (colored-main d has) has
colored-before_escape (mark ∷ marks) final d has = has

colored-before : (call : Call) (d : Display) → HasColored d → HasColored (before_leaving call d)
colored-before (print c) d has = colored-marked (is_wrapping c d) d has
colored-before (esc_dispatch intermediates ignore final) d has =
    colored-if ignore d (before_escape intermediates final d) has (colored-before_escape intermediates final d has)
colored-before (execute byte) d has = has
colored-before (csi_dispatch groups intermediates ignore final) d has = has
colored-before (hook groups intermediates ignore final) d has = has
colored-before (put byte) d has = has
colored-before unhook d has = has
colored-before (osc_dispatch parts bell) d has = has

-- the rows that leave by calls, and those that still show
pub colored-left : (calls : List Call) (s : State) → IsScreen s.display → HasContents s.display → AllByRecursion AreColored (all_left calls s)
colored-left [] s screen has = tt
colored-left (call ∷ calls) s screen has =
    all-append AreColored (rows_left call s) (all_left calls (after call s))
    (subst (λ rows. AllByRecursion AreColored rows) (sym (rows_left-is call s))
    (colored-rows (leaving call s.display) (before_leaving call s.display) (colored-before call s.display (has-colored s.display has)).0))
    (colored-left calls (after call s) (kept-after call s screen) (contents-after call s screen has))

pub colored-showing : (d : Display) → HasContents d → AllByRecursion AreColored (showing d)
colored-showing d has = by d.is_alternate
  where
    both : HasColored d
    both = has-colored d has

    last : AllByRecursion AreColored (printed_rows d)
    last = colored-rows (printed_count d) d both.0

    by : (alternate : Bool) → AllByRecursion AreColored ((if alternate then printed_rows (swapped d) else []) ++ printed_rows d)
    by true = all-append AreColored (printed_rows (swapped d)) (printed_rows d) (colored-rows (printed_count (swapped d)) (swapped d) both.1) last
    by false = last
