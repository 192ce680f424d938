-- The bytes so far, and those of the parts that are left, are all.
use Rattle.std.proofs.Common.{◌≡◌, ◌++◌, List, ℕ, drop, map}
use Rattle.std.specs.List.{join_with_byte}
use Rattle.anstyle_parse.specs.Stream.Bytes.{semicolon}
use Rattle.anstyle_parse.proofs.Lists.Joins.{joined_rest}
use Rattle.event_pieces.specs.Writer.{Puts}
use Rattle.event_pieces.proofs.writer.EventWriter.put_parts.Given as goal

abbrev pub invariant-loop-part : goal.invariant-loop-part
invariant-loop-part l = record {
  done : List ℕ;
  whole : done ++ joined_rest l.is_first semicolon (map (λ part. part.now) (drop l.part-index l.parts)) ≡ join_with_byte semicolon (map (λ part. part.now) l.parts);
  puts : Puts done l.initial.self l.self;
}
