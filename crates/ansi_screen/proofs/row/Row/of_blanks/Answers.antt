-- All cells are blank.
use Rattle.ansi_screen.specs.Display.{most_columns}
use Rattle.ansi_screen.proofs.BlankLemmas.{new-row}
use Rattle.ansi_screen.proofs.row.Row.of_blanks.Goals as goal

pub invariant_of-result : goal.invariant_of-result
invariant_of-result c = new-row most_columns c.args.width c.args.cells.items c.requires
