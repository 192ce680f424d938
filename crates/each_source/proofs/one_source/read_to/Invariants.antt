-- The front and what is read so far has gone to the performer, and nothing failed.
use Rattle.std.proofs.Common.{◌≡◌, ◌≤◌, ◌++◌, List, ℕ, None, length}
use Rattle.std.specs.Io.KnownBytes.{Consumes}
use Rattle.anstyle_parse.specs.Views.Accumulator.{front_of}
use Rattle.anstyle_parse.specs.Machine.AsRead.{as_read}
use Rattle.anstyle_parse.specs.Stream.Call.{Call}
use Rattle.anstyle_parse.specs.Stream.Calls.{AreCalls}
use Rattle.anstyle_parse.specs.Views.Parser.{IsAfter}
use Rattle.anstyle_parse.specs.Io.Output.{fault_in}
use Rattle.each_source.proofs.one_source.read_to.Given as goal

abbrev pub invariant-loop-turn : goal.invariant-loop-turn
invariant-loop-turn g l = record {
  rest : List ℕ;
  calls : List Call;
  consumed : Consumes (g.R.Source.remaining l.initial.reader) (g.R.Source.remaining l.reader) rest;
  are_calls : AreCalls (as_read (l.front ++ rest)) calls;
  received : g.P.PerformText.receives l.fn.performer calls l.performer;
  stands : IsAfter front_of l.parser (as_read (l.front ++ rest));
  no_fault : fault_in (g.P.WritingPerformer.output_in l.performer) ≡ None;
  counted : l.turn ≤ length rest;
  room : length l.piece ≡ 4096;
}
