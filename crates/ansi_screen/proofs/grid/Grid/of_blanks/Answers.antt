-- Blank rows, each once.
use Rattle.std.proofs.Common.{refl, length}
use Rattle.ansi_screen.proofs.MovedLemmas.{new-grid, new-rows}
use Rattle.ansi_screen.proofs.grid.Grid.of_blanks.Goals as goal

pub invariant_of-result : goal.invariant_of-result
invariant_of-result c =
    new-rows c.args.width (length c.args.order.items) c.args.order.items c.args.rows.items c.requires.some c.requires.blank refl c.requires.order

pub returns : goal.returns
returns c =
    new-grid c.args.width (length c.args.order.items) c.args.order.items c.args.rows.items c.requires.some c.requires.blank refl c.requires.order
