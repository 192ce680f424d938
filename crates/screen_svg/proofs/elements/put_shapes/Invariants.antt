-- The shapes so far are written.
use Rattle.std.proofs.Common.{◌≡◌, List, ◌++◌, length}
use Rattle.anstyle_parse.specs.Io.Output.{Adds}
use Rattle.ansi_screen.specs.declared.cell.Cell.{Cell}
use Rattle.screen_svg.specs.Picture.{shapes_text}
use Rattle.screen_svg.proofs.elements.put_shapes.Given as goal

abbrev pub invariant-rest : goal.invariant-rest
invariant-rest g l =
    (passed : List Cell) × (l.cells ≡ passed ++ l.rest) × Adds g.W.Sink (shapes_text passed) l.initial.output l.output

abbrev pub decreases-rest : goal.decreases-rest
decreases-rest g l = length l.rest
