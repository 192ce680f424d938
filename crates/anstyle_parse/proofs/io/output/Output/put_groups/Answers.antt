-- One group more is done, with the separator before it.
use Rattle.std.proofs.Common.{◌++◌, [], ◌∷◌, map, ap, ◌∙◌}
use Rattle.std.specs.Prelude.{if◌then◌else◌}
use Rattle.anstyle_parse.specs.Stream.Bytes.{semicolon}
use Rattle.anstyle_parse.specs.Stream.Groups.{fields_text, groups_text}
use Rattle.anstyle_parse.specs.Views.Params.{groups_shown, groups_left}
use Rattle.anstyle_parse.proofs.Lists.Joins.{joined_rest-more}
use Rattle.anstyle_parse.proofs.Written.Output.{Adds-nil, Adds-append3}
use Rattle.anstyle_parse.proofs.io.output.Output.put_groups.Goals as goal

pub loop-group-init : goal.loop-group-init
loop-group-init g c = record {
  done = [];
  whole = ap (λ iter. groups_text (groups_left iter)) c.into_iter-group-iterator.ensures.into_iter_gives ∙ ap groups_text c.iter-group-items.ensures.groups;
  added = Adds-nil g.W.Sink c.args.self.now;
}

pub loop-group-preserved : goal.loop-group-preserved
loop-group-preserved g c =
    let before = c.loop-group.invariant in
    let is_first = c.loop-group.is_first in
    let separator = if is_first then [] else semicolon ∷ [] in
    let text = fields_text c.in-Some.group.now in
    record {
      done = (before.done ++ separator) ++ text;
      whole = joined_rest-more before.done (groups_text (groups_shown c.args.params.now)) is_first semicolon text
          (map fields_text (groups_left c.loop-group.group-iterator)) (map fields_text (groups_left c.next.new.self))
          (ap (λ gs. map fields_text gs) c.in-Some.ensures.steps) before.whole;
      added = Adds-append3 g.W.Sink before.done separator text
          c.args.self.now c.loop-group.self c.put_separator.new.self c.put_fields.new.self before.added c.put_separator.ensures c.put_fields.ensures;
    }
