-- The cells so far are put.
use Rattle.std.proofs.Common.{◌≡◌, List, ◌++◌, length}
use Rattle.std.specs.List.{flat_map}
use Rattle.ansi_screen.specs.declared.cell.Cell.{Cell}
use Rattle.ansi_screen.specs.Text.{cell_text}
use Rattle.screen_pieces.specs.Text.{Puts}
use Rattle.screen_pieces.proofs.text.TextWriter.put_cells.Given as goal

abbrev pub invariant-rest : goal.invariant-rest
invariant-rest l = (passed : List Cell) × (l.cells ≡ passed ++ l.rest) × Puts (flat_map cell_text passed) l.initial.self l.self

abbrev pub decreases-rest : goal.decreases-rest
decreases-rest l = length l.rest
