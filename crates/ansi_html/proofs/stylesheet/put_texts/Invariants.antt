-- The rules so far, and those of the numbers that are left, are all of them.
use Rattle.std.proofs.Common.{◌≡◌, ◌-◌, ◌++◌, List}
use Rattle.std.specs.List.{flat_map, range_with_len}
use Rattle.anstyle_parse.specs.Io.Output.{Adds}
use Rattle.ansi_html.specs.declared.class.Class.{Class}
use Rattle.ansi_html.specs.Stylesheet.{rule, texts_at}
use Rattle.ansi_html.proofs.stylesheet.put_texts.Given as goal

abbrev pub invariant-loop-number : goal.invariant-loop-number
invariant-loop-number g l = record {
  done : List Class;
  whole : done ++ flat_map texts_at (range_with_len l.number (256 - l.number)) ≡ flat_map texts_at (range_with_len 0 256);
  added : Adds g.W.Sink (flat_map (rule l.scheme) done) l.initial.output l.output;
}
