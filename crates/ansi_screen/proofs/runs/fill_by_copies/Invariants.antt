-- The cells so far are those of the characters so far; the others are spaces in the same style and link.
use Rattle.std.proofs.Common.{◌≡◌, ◌++◌, length, take, drop}
use Rattle.std.specs.Prelude.{replicate}
use Rattle.ansi_screen.specs.declared.cell.Part.TheVariants.{Whole}
use Rattle.ansi_screen.specs.Cells.{printed_cell}
use Rattle.ansi_screen.specs.Runs.{glyphs}
use Rattle.ansi_screen.proofs.runs.fill_by_copies.Given as goal

abbrev pub invariant-loop-i : goal.invariant-loop-i
invariant-loop-i l =
    l.cells ≡ glyphs (take l.i l.run) l.fn.style l.fn.link
    ++ drop l.i (replicate (length l.run) (printed_cell 0x20 l.fn.style l.fn.link Whole))
