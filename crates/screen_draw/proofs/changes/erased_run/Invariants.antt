-- All so far are of the run.
use Rattle.std.proofs.Common.{◌≡◌, ◌+◌, drop}
use Rattle.screen_draw.specs.Update.{erased_run}
use Rattle.screen_draw.proofs.changes.erased_run.Given as goal

abbrev pub invariant-loop-count : goal.invariant-loop-count
invariant-loop-count l = erased_run l.style l.cells ≡ l.count + erased_run l.style (drop l.count l.cells)
