-- The rules so far, and those of the classes that are left, are all of them.
use Rattle.std.proofs.Common.{◌≡◌, ◌++◌, List, ℕ, drop}
use Rattle.std.specs.List.{flat_map}
use Rattle.anstyle_parse.specs.Io.Output.{Adds}
use Rattle.ansi_html.specs.Stylesheet.{rule}
use Rattle.ansi_html.proofs.stylesheet.put_rules.Given as goal

abbrev pub invariant-loop-class : goal.invariant-loop-class
invariant-loop-class g l = record {
  done : List ℕ;
  whole : done ++ flat_map (rule l.scheme) (drop l.class-index l.classes) ≡ flat_map (rule l.scheme) l.classes;
  added : Adds g.W.Sink done l.initial.output l.output;
}
