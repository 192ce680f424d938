-- The cells so far are those of the characters so far; the others are plain blanks.
use Rattle.std.proofs.Common.{◌≡◌, ◌++◌, length, take, drop}
use Rattle.std.specs.Prelude.{replicate}
use Rattle.ansi_style.specs.Style.{plain}
use Rattle.ansi_screen.specs.Cells.{blank}
use Rattle.ansi_screen.specs.Runs.{glyphs}
use Rattle.ansi_screen.proofs.runs.print.Given as goal

abbrev pub invariant-loop-i : goal.invariant-loop-i
invariant-loop-i l = l.blanks ≡ glyphs (take l.i l.run) l.style l.link ++ drop l.i (replicate (length l.run) (blank plain))
