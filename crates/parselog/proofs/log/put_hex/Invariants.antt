-- The digits so far, and those of the bytes that are left, are all digits.
use Rattle.std.proofs.Common.{◌≡◌, ◌++◌, List, ℕ, drop}
use Rattle.std.specs.List.{flat_map}
use Rattle.anstyle_parse.specs.Io.Output.{Adds}
use Rattle.parselog.specs.Lines.{hex_byte}
use Rattle.parselog.proofs.log.put_hex.Given as goal

abbrev pub invariant-loop-byte : goal.invariant-loop-byte
invariant-loop-byte g l = record {
  done : List ℕ;
  whole : done ++ flat_map hex_byte (drop l.byte-index l.bytes) ≡ flat_map hex_byte l.bytes;
  added : Adds g.W.Sink done l.initial.output l.output;
}
