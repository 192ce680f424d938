-- The text so far, and that of the fields that are left, are the whole text.
use Rattle.std.proofs.Common.{◌≡◌, ◌++◌, List, ℕ, drop, map, decimal}
use Rattle.anstyle_parse.specs.Stream.Bytes.{colon}
use Rattle.anstyle_parse.specs.Stream.Groups.{fields_text}
use Rattle.anstyle_parse.specs.Io.Output.{Adds}
use Rattle.anstyle_parse.proofs.Lists.Joins.{joined_rest}
use Rattle.anstyle_parse.proofs.io.output.Output.put_fields.Given as goal

abbrev pub invariant-loop-field : goal.invariant-loop-field
invariant-loop-field g l = record {
  done : List ℕ;
  whole : done ++ joined_rest l.is_first colon (map decimal (drop l.field-index l.fields)) ≡ fields_text l.fields;
  added : Adds g.W.Sink done l.initial.self l.self;
}
