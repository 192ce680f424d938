-- All cells are blank.
use Rattle.std.proofs.Common.{◌∙◌}
use Rattle.ansi_screen.specs.Cells.{blank}
use Rattle.ansi_screen.proofs.MovedLemmas.{erased-everything}
use Rattle.ansi_screen.proofs.grid.Grid.erase_all.Goals as goal

pub returns : goal.returns
returns c = c.fill.ensures ∙ erased-everything c.args.self.now (blank c.args.style)
