-- The cells so far are written, and their links are paid.
use Rattle.std.proofs.Common.{◌≡◌, List, ◌++◌, length, map}
use Rattle.ansi_html.specs.Styled.{WritesStyled}
use Rattle.ansi_screen.specs.declared.cell.Cell.{Cell}
use Rattle.screen_html.specs.Paid.{purse_of, paid, purse_after}
use Rattle.screen_html.specs.Shown.{cell_styled}
use Rattle.screen_html.proofs.rows.put_cells.Given as goal

abbrev pub invariant-rest : goal.invariant-rest
invariant-rest g l =
    (passed : List Cell) × (l.cells ≡ passed ++ l.rest)
    × WritesStyled g.W.Sink l.initial.writer (paid (purse_of l.initial.last l.initial.spare) (map (cell_styled l.links.places) passed)) l.writer
    × (purse_of l.last l.spare ≡ purse_after (purse_of l.initial.last l.initial.spare) (map (cell_styled l.links.places) passed))

abbrev pub decreases-rest : goal.decreases-rest
decreases-rest g l = length l.rest
