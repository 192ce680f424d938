-- The names so far, and those of the classes that are left, are all of them.
use Rattle.std.proofs.Common.{◌≡◌, ◌++◌, List, ℕ, drop, map}
use Rattle.std.specs.Prelude.{option_to_list}
use Rattle.std.specs.List.{flat_map}
use Rattle.anstyle_parse.specs.Io.Output.{Adds}
use Rattle.anstyle_parse.proofs.Lists.Joins.{joined_rest}
use Rattle.ansi_html.specs.Classes.{class_name, class_names}
use Rattle.ansi_html.proofs.class.put_names.Given as goal

abbrev pub invariant-loop-class : goal.invariant-loop-class
invariant-loop-class g l = record {
  done : List ℕ;
  whole : done ++ joined_rest l.is_first 0x20 (map class_name (flat_map option_to_list (drop l.class-index l.classes)))
      ≡ class_names (flat_map option_to_list l.classes);
  added : Adds g.W.Sink done l.initial.output l.output;
}
