-- The bytes so far, and those of the groups that are left, are all.
use Rattle.std.proofs.Common.{◌≡◌, ◌++◌, List, ℕ}
use Rattle.anstyle_parse.specs.Views.Params.{groups_shown, groups_left}
use Rattle.event_pieces.specs.Event.{groups_bytes}
use Rattle.event_pieces.specs.Writer.{Puts}
use Rattle.event_pieces.proofs.writer.EventWriter.put_groups.Given as goal

abbrev pub invariant-loop-group : goal.invariant-loop-group
invariant-loop-group l = record {
  done : List ℕ;
  whole : done ++ groups_bytes (groups_left l.group-iterator) ≡ groups_bytes (groups_shown l.params);
  puts : Puts done l.initial.self l.self;
}
