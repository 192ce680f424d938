-- The text of a control sequence with a number.
use Rattle.std.proofs.Common.{arith}
use Rattle.screen_draw.proofs.DrawLemmas.{draws-number}
use Rattle.screen_draw.proofs.calls.put_number.Goals as goal

pub returns : goal.returns
returns g c =
    draws-number g.W.Sink c.args.number c.args.final_byte _ _ _ _ (omega arith) c.requires.from c.requires.up_to
    c.put.ensures c.put_decimal.ensures c.put_byte.ensures
