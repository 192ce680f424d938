-- The rules so far, and those of the numbers that are left, are all of them.
use Rattle.std.proofs.Common.{◌≡◌, ◌-◌, ◌++◌, List}
use Rattle.std.specs.List.{flat_map, range_with_len}
use Rattle.anstyle_parse.specs.Io.Output.{Adds}
use Rattle.ansi_html.specs.declared.class.Class.{Class}
use Rattle.ansi_html.specs.Stylesheet.{rule, lines_at}
use Rattle.ansi_html.proofs.stylesheet.put_line_choices.Given as goal

abbrev pub invariant-loop-choice : goal.invariant-loop-choice
invariant-loop-choice g l = record {
  done : List Class;
  whole : done ++ flat_map lines_at (range_with_len l.choice (16 - l.choice)) ≡ flat_map lines_at (range_with_len 1 15);
  added : Adds g.W.Sink (flat_map (rule l.scheme) done) l.initial.output l.output;
}
