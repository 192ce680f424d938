-- The bytes so far, and those of the fields that are left, are all.
use Rattle.std.proofs.Common.{◌≡◌, ◌++◌, List, ℕ, length}
use Rattle.event_pieces.specs.Event.{group_bytes}
use Rattle.event_pieces.specs.Writer.{Puts}
use Rattle.event_pieces.proofs.writer.EventWriter.put_group.Given as goal

abbrev pub invariant-rest : goal.invariant-rest
invariant-rest l = record {
  done : List ℕ;
  whole : done ++ group_bytes l.rest ≡ group_bytes l.group;
  puts : Puts done l.initial.self l.self;
}

abbrev pub decreases-rest : goal.decreases-rest
decreases-rest l = length l.rest
