-- Each field is what its bytes say, and there are no marks.
use Rattle.std.proofs.Common.{refl, sym, ap}
use Rattle.ansi_screen.specs.declared.cell.Cell.{Cell}
use Rattle.ansi_screen.specs.declared.cell.Marks.{Marks}
use Rattle.screen_pieces.proofs.cell.with_foreground.Goals as goal

abbrev marked : Cell → Marks → Cell
marked cell marks = record cell { marks = marks }

pub returns-clause-cell : goal.returns-clause-cell
returns-clause-cell c =
    rw (c.from.ensures, c.of.ensures.bytes, c.with.ensures, c.part_number.ensures, c.flag.ensures) (ap (marked c.args.cell.now) (sym c.requires.plain.marks))

pub returns-clause-reserved : goal.returns-clause-reserved
returns-clause-reserved c = record { style = c.of.ensures.reserved; cell = refl }
