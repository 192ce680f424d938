-- The text so far, and that of the groups that are left, are the whole text.
use Rattle.std.proofs.Common.{◌≡◌, ◌++◌, List, ℕ, map}
use Rattle.anstyle_parse.specs.Stream.Bytes.{semicolon}
use Rattle.anstyle_parse.specs.Stream.Groups.{fields_text, groups_text}
use Rattle.anstyle_parse.specs.Views.Params.{groups_shown, groups_left}
use Rattle.anstyle_parse.specs.Io.Output.{Adds}
use Rattle.anstyle_parse.proofs.Lists.Joins.{joined_rest}
use Rattle.anstyle_parse.proofs.io.output.Output.put_groups.Given as goal

abbrev pub invariant-loop-group : goal.invariant-loop-group
invariant-loop-group g l = record {
  done : List ℕ;
  whole : done ++ joined_rest l.is_first semicolon (map fields_text (groups_left l.group-iterator)) ≡ groups_text (groups_shown l.params);
  added : Adds g.W.Sink done l.initial.self l.self;
}
