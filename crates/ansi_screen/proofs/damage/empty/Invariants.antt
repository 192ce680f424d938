-- The rows so far are empty, and those past the last.
use Rattle.std.proofs.Common.{◌≡◌, length}
use Rattle.ansi_screen.specs.Damage.{AreEmptyBeside}
use Rattle.ansi_screen.proofs.damage.empty.Given as goal

abbrev pub invariant-loop-row : goal.invariant-loop-row
invariant-loop-row l = (length l.spans ≡ length l.initial.spans) × AreEmptyBeside l.row l.past l.spans
