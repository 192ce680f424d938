-- What is written so far is in the writer, and nothing failed.
use Rattle.std.proofs.Common.{◌≡◌, ◌-◌, ◌≤◌, length, take}
use Rattle.std.specs.Io.KnownBytes.{Appends}
use Rattle.anstyle_parse.proofs.io.buffer.write_out.Given as goal

abbrev pub invariant-loop-written : goal.invariant-loop-written
invariant-loop-written g l = record {
  within : l.written ≤ length l.bytes;
  passed : Appends (g.W.Sink.contents l.initial.writer) (g.W.Sink.contents l.writer) (take l.written l.bytes);
  not_failed : g.W.Sink.has_failed l.writer ≡ g.W.Sink.has_failed l.initial.writer;
}

abbrev pub decreases-loop-written : goal.decreases-loop-written
decreases-loop-written g l = length l.bytes - l.written
