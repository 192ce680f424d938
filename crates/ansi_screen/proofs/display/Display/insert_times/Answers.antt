-- Room is made, the characters are printed, and insert mode is on as before.
use Rattle.std.proofs.Common.{◌≡◌, ◌*◌, ◌≤◌, true, false, length, ap, ◌∙◌, subst, arith}
use Rattle.std.specs.Fn.{iterate}
use Rattle.ansi_screen.specs.Cells.{inserted, going_on}
use Rattle.ansi_screen.specs.Display.{here, row_end}
use Rattle.ansi_screen.specs.State.{State, changed}
use Rattle.ansi_screen.specs.Edits.{with_cells, space}
use Rattle.ansi_screen.specs.Print.{printed_again}
use Rattle.ansi_screen.specs.Reachable.{IsWhole}
use Rattle.ansi_screen.specs.Widths.{columns}
use Rattle.ansi_screen.proofs.InsertLemmas.{opened, inserted-all, row-inside}
use Rattle.ansi_screen.proofs.display.Display.insert_times.Goals as goal

pub returns : goal.returns
returns c =
    let s = c.args.self.now in
    let d = s.display in
    let count = c.args.count in
    let grid = c.self.inside.cells in
    let wide : c.from.result ≡ columns c.args.c = c.from.ensures ∙ c.columns.ensures.columns in
    let room : c.insert_cells.new.self ≡ changed (λ e. with_cells (inserted (count * columns c.args.c) (here e) (row_end e) (space e) (going_on false (row_end e) e.cells)) e) s =
    c.insert_cells.ensures
    ∙ (ap (changed (λ e. with_cells (inserted (count * c.from.result) (here e) (row_end e) (space e) e.cells) e)) c.set_goes_on.ensures
    ∙ ap (λ k. changed (λ e. with_cells (inserted (count * k) (here e) (row_end e) (space e) (going_on false (row_end e) e.cells)) e) s) wide) in
    let printed : c.print_one_by_one.new.self ≡ changed (λ e. iterate (printed_again c.args.c) count (opened (count * columns c.args.c) e)) s =
    c.print_one_by_one.ensures
    ∙ ap (changed (λ e. iterate (printed_again c.args.c) count (record e { inserts = false }))) (c.self-2.view_is ∙ room) in
    let whole : IsWhole d.width d.cells =
    subst (λ (e : State). IsWhole e.display.width e.display.cells) c.self.view_is (record { paired = c.width.ensures.paired; rows_begin = c.width.ensures.begin }) in
    let inside : row_end d ≤ length d.cells =
    subst (λ (e : State). row_end e.display ≤ length e.display.cells) c.self.view_is
    (omega (arith, c.width.ensures.filled, row-inside c.self.inside.cursor.row grid.width grid.height c.self.invariant.2.sized.cursor_row)) in
    ap (changed (λ e. record e { inserts = true })) (c.self-3.view_is ∙ printed)
    ∙ ap (λ e. record s { display = e }) (inserted-all c.args.c count d c.requires.shown c.requires.some c.requires.count c.requires.inserts whole inside c.requires.fits)
