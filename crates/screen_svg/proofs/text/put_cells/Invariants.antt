-- The cells so far are written.
use Rattle.std.proofs.Common.{◌≡◌, List, ◌++◌, length}
use Rattle.std.specs.List.{flat_map}
use Rattle.anstyle_parse.specs.Io.Output.{Adds}
use Rattle.ansi_html.specs.Html.{escaped_text}
use Rattle.ansi_screen.specs.declared.cell.Cell.{Cell}
use Rattle.screen_svg.specs.Characters.{cell_text}
use Rattle.screen_svg.proofs.text.put_cells.Given as goal

abbrev pub invariant-rest : goal.invariant-rest
invariant-rest g l =
    (passed : List Cell) × (l.cells ≡ passed ++ l.rest) × Adds g.W.Sink (escaped_text (flat_map cell_text passed)) l.initial.output l.output

abbrev pub decreases-rest : goal.decreases-rest
decreases-rest g l = length l.rest
