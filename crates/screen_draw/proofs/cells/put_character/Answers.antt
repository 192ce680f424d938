-- A character that is shown.
use Rattle.std.proofs.Common.{subst}
use Rattle.std.specs.Prelude.{encode_utf8}
use Rattle.anstyle_parse.specs.Io.Output.{Adds}
use Rattle.screen_draw.proofs.DrawLemmas.{draws-character, drawn-character}
use Rattle.screen_draw.proofs.cells.put_character.Goals as goal

pub returns : goal.returns
returns g c =
    draws-character g.W.Sink c.args.c _ _ (drawn-character c.args.c c.ranges.c.0)
    (subst (λ n. Adds g.W.Sink (encode_utf8 n) c.args.output.now c.put_char.new.self) c.drawn_character.ensures c.put_char.ensures)
