-- going on from here by what is left is going from the start by all
use Rattle.std.proofs.Common.{drop}
use Rattle.anstyle_parse.specs.Views.Runs.{AreMade, run_calls}
use Rattle.anstyle_parse.proofs.parser.runs.Run.call_few.Given as goal

abbrev pub invariant-loop-byte : goal.invariant-loop-byte
invariant-loop-byte g l =
    (last : g.row.P.Denot) → AreMade g.P.Perform.means (λ b. run_calls l.self b) l.performer (drop l.byte-index l.bytes) last
    → AreMade g.P.Perform.means (λ b. run_calls l.self b) l.fn.performer l.bytes last
