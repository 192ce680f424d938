-- The text so far is printed.
use Rattle.std.proofs.Common.{◌≡◌, ℕ, List, ◌++◌, length}
use Rattle.std.specs.Str.{IsUtf8}
use Rattle.anstyle_parse.specs.Stream.Texts.{text_calls}
use Rattle.ansi_screen.proofs.texts.print_by_runs.Given as goal

abbrev pub invariant-rest : goal.invariant-rest
invariant-rest g l = record {
  passed : List ℕ;
  utf8 : IsUtf8 passed;
  rest_utf8 : IsUtf8 l.rest;
  joined : l.text ≡ passed ++ l.rest;
  printed : g.P.PutRuns.receives l.initial.performer (text_calls passed) l.performer;
}

abbrev pub decreases-rest : goal.decreases-rest
decreases-rest g l = length l.rest
