-- The two buffers of a screen: the one that is shown, and the one that is hidden, which is the main one while the
-- alternate one shows.
use Rattle.std.specs.Prelude.{List}
use Rattle.ansi_screen.specs.declared.cell.Cell.{Cell}
use Rattle.ansi_screen.specs.declared.place.Place.{Place}
use Rattle.ansi_screen.specs.Display.{Display}
use Rattle.screen_draw.specs.declared.buffer.Buffer.{Buffer}
use Rattle.screen_draw.specs.declared.buffer.Buffer.TheVariants.{Shown, Hidden}

-- the cells of one
abbrev pub cells_of : Buffer → Display → List Cell
cells_of Shown d = d.cells
cells_of Hidden d = d.hidden

-- what DECSC saved there
abbrev pub saved_of : Buffer → Display → Place
saved_of Shown d = d.saved
saved_of Hidden d = d.hidden_saved
