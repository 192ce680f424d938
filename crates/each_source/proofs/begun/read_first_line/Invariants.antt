-- So many bytes of the front are read.
use Rattle.std.proofs.Common.{◌≡◌, ◌≤◌, ◌-◌, length, take}
use Rattle.std.specs.Io.KnownBytes.{Consumes}
use Rattle.each_source.proofs.begun.read_first_line.Given as goal

abbrev pub invariant-count : goal.invariant-count
invariant-count g l = record {
  within : l.count ≤ 4096;
  room : length l.piece ≡ 4096;
  consumed : Consumes (g.R.Source.remaining l.initial.reader) (g.R.Source.remaining l.reader) (take l.count l.piece);
}

abbrev pub decreases-count : goal.decreases-count
decreases-count g l = 4096 - l.count
