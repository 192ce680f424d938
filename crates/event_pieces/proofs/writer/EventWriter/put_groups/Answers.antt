-- One group more is done.
use Rattle.std.proofs.Common.{◌++◌, [], ap, ◌∙◌, sym, append_assoc}
use Rattle.anstyle_parse.specs.Views.Params.{groups_left}
use Rattle.event_pieces.specs.Event.{group_bytes, groups_bytes}
use Rattle.event_pieces.proofs.RoomLemmas.{Puts-nil, Puts-append}
use Rattle.event_pieces.proofs.writer.EventWriter.put_groups.Goals as goal

pub loop-group-init : goal.loop-group-init
loop-group-init c = record {
  done = [];
  whole = ap (λ iter. groups_bytes (groups_left iter)) c.into_iter-group-iterator.ensures.into_iter_gives ∙ ap groups_bytes c.iter-group-items.ensures.groups;
  puts = Puts-nil c.args.self.now;
}

pub loop-group-preserved : goal.loop-group-preserved
loop-group-preserved c =
    let before = c.loop-group.invariant in
    let bytes = group_bytes c.in-Some.group.now in
    record {
      done = before.done ++ bytes;
      whole = append_assoc before.done bytes (groups_bytes (groups_left c.next.new.self))
          ∙ ap (λ gs. before.done ++ groups_bytes gs) (sym c.in-Some.ensures.steps) ∙ before.whole;
      puts = Puts-append before.done bytes c.args.self.now c.loop-group.self c.put_group.new.self before.puts c.put_group.ensures;
    }
