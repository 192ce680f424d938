-- The cells so far are given on.
use Rattle.std.proofs.Common.{◌≡◌, List, ◌++◌, length}
use Rattle.ansi_screen.specs.declared.cell.Cell.{Cell}
use Rattle.screen_calls.specs.Calls.{cells_calls, pen_after}
use Rattle.screen_calls.specs.Rows.{pen_in}
use Rattle.screen_calls.proofs.rows.give_cells.Given as goal

abbrev pub invariant-rest : goal.invariant-rest
invariant-rest g l =
    (passed : List Cell) × (l.cells ≡ passed ++ l.rest)
    × g.P.PerformText.receives l.initial.performer (cells_calls l.links.places (pen_in l.initial.pen) passed) l.performer
    × (pen_in l.pen ≡ pen_after l.links.places (pen_in l.initial.pen) passed)

abbrev pub decreases-rest : goal.decreases-rest
decreases-rest g l = length l.rest
