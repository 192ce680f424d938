-- The characters so far are printed.
use Rattle.ansi_screen.specs.Laws.{printing}
use Rattle.ansi_screen.proofs.texts.print_each.Given as goal

abbrev pub invariant-loop-c : goal.invariant-loop-c
invariant-loop-c g l = g.P.PutRuns.receives l.initial.performer (printing l.yielded) l.performer
