-- The text of an escape sequence.
use Rattle.screen_draw.proofs.DrawLemmas.{draws-escape}
use Rattle.screen_draw.proofs.calls.put_escape.Goals as goal

pub returns : goal.returns
returns g c = draws-escape g.W.Sink c.args.final_byte _ _ c.requires.from c.requires.up_to c.requires.begins_nothing c.put.ensures
