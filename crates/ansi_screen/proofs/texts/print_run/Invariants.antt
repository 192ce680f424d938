-- What is passed so far is printed.
use Rattle.std.proofs.Common.{◌≡◌, ℕ, List, ◌++◌, length}
use Rattle.anstyle_parse.specs.Stream.Items.{EachIs}
use Rattle.ansi_screen.specs.Laws.{printing}
use Rattle.ansi_screen.specs.Runs.{is_printed_ascii}
use Rattle.ansi_screen.proofs.texts.print_run.Given as goal

abbrev pub invariant-run : goal.invariant-run
invariant-run g l = record {
  passed : List ℕ;
  joined : l.run ≡ passed ++ l.rest;
  ascii : EachIs is_printed_ascii l.rest;
  printed : g.P.PutRuns.receives l.initial.performer (printing passed) l.performer;
}

abbrev pub decreases-run : goal.decreases-run
decreases-run g l = length l.rest
