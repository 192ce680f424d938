-- The cells so far have one byte each.
use Rattle.std.proofs.Common.{◌≡◌, take}
use Rattle.std.specs.List.{flat_map}
use Rattle.ansi_screen.specs.Text.{cell_text}
use Rattle.ansi_screen.proofs.text.copy_ascii.Given as goal

abbrev pub invariant-loop-i : goal.invariant-loop-i
invariant-loop-i l = take l.i l.block ≡ flat_map cell_text (take l.i l.cells)
