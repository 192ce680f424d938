-- The characters so far are written.
use Rattle.std.specs.List.{flat_map}
use Rattle.anstyle_parse.specs.Io.Output.{Adds}
use Rattle.ansi_html.specs.Html.{escaped_text}
use Rattle.screen_svg.specs.Characters.{character_text}
use Rattle.screen_svg.proofs.characters.put_text.Given as goal

abbrev pub invariant-loop-c : goal.invariant-loop-c
invariant-loop-c g l = Adds g.W.Sink (escaped_text (flat_map character_text l.yielded)) l.initial.output l.output
