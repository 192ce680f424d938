-- The cells so far are a run, and their text is in the block.
use Rattle.std.proofs.Common.{take}
use Rattle.screen_html.specs.Shown.{IsRun}
use Rattle.screen_html.proofs.runs.copy_run.Given as goal

abbrev pub invariant-loop-i : goal.invariant-loop-i
invariant-loop-i l = IsRun l.first (take l.i l.cells) (take l.i l.block)
