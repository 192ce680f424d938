-- What is written so far is the bytes up to the rest, and nothing failed.
use Rattle.std.proofs.Common.{◌≡◌, ◌++◌, List, ℕ, None, length}
use Rattle.std.specs.Io.KnownBytes.{Appends}
use Rattle.anstyle_parse.proofs.io.output.Output.put_rest.Given as goal

abbrev pub invariant-loop-rest : goal.invariant-loop-rest
invariant-loop-rest g l = record {
  given : List ℕ;
  joined : l.bytes ≡ given ++ l.rest;
  written : Appends (g.W.Sink.contents l.initial.self.writer) (g.W.Sink.contents l.self.writer) given;
  no_fault : l.self.fault ≡ None;
  not_failed : g.W.Sink.has_failed l.self.writer ≡ g.W.Sink.has_failed l.initial.self.writer;
}

abbrev pub decreases-loop-rest : goal.decreases-loop-rest
decreases-loop-rest g l = length l.rest
