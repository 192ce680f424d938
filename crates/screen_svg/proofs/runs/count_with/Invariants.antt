-- The cells so far go on with the run.
use Rattle.std.proofs.Common.{◌≡◌, ◌+◌, drop}
use Rattle.screen_svg.specs.Runs.{count_with}
use Rattle.screen_svg.proofs.runs.count_with.Given as goal

abbrev pub invariant-loop-i : goal.invariant-loop-i
invariant-loop-i l = count_with l.first l.cells ≡ l.i + count_with l.first (drop l.i l.cells)
