-- The cells so far are copied, and have four bytes each at most.
use Rattle.std.proofs.Common.{◌≡◌, ◌*◌, ◌≤◌, length, take}
use Rattle.std.specs.List.{flat_map}
use Rattle.ansi_screen.specs.Text.{cell_text}
use Rattle.ansi_screen.proofs.text.copy_others.Given as goal

abbrev pub invariant-loop-i : goal.invariant-loop-i
invariant-loop-i l = (l.filled ≤ 4 * l.i) × (take l.filled l.block ≡ flat_map cell_text (take l.i l.cells)) × (length l.block ≡ 128)
