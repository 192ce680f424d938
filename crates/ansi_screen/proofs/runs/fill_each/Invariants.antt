-- The cells so far are those of the characters so far.
use Rattle.std.proofs.Common.{◌≡◌, ◌++◌, take, drop}
use Rattle.ansi_screen.specs.Runs.{glyphs}
use Rattle.ansi_screen.proofs.runs.fill_each.Given as goal

abbrev pub invariant-loop-i : goal.invariant-loop-i
invariant-loop-i l = l.cells ≡ glyphs (take l.i l.run) l.style l.link ++ drop l.i l.initial.cells
