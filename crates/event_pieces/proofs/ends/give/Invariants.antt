-- The bytes so far are given.
use Rattle.std.proofs.Common.{◌≡◌, take}
use Rattle.anstyle_parse.specs.Views.Accumulator.{parser_after}
use Rattle.anstyle_parse.specs.Views.Parser.{machine_of}
use Rattle.anstyle_parse.specs.Machine.Step.{machine_after}
use Rattle.event_pieces.specs.EndWriter.{Gives}
use Rattle.event_pieces.proofs.ends.give.Given as goal

abbrev pub invariant-loop-place : goal.invariant-loop-place
invariant-loop-place l = record {
  same_ends : l.writer.ends.ghost_name ≡ l.initial.writer.ends.ghost_name;
  stands : machine_of l.parser ≡ machine_after parser_after (take l.place l.bytes) (machine_of l.initial.parser);
  gives : Gives (machine_of l.initial.parser) (take l.place l.bytes) l.initial.writer l.writer;
}
