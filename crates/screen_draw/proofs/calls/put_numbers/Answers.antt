-- The text of a control sequence with two numbers.
use Rattle.std.proofs.Common.{arith}
use Rattle.screen_draw.proofs.DrawLemmas.{draws-numbers}
use Rattle.screen_draw.proofs.calls.put_numbers.Goals as goal

pub returns : goal.returns
returns g c =
    draws-numbers g.W.Sink c.args.first c.args.second c.args.final_byte _ _ _ _ _ _ (omega arith) (omega arith) c.requires.from c.requires.up_to
    c.put.ensures c.put_decimal.ensures c.put_byte.ensures c.put_decimal-2.ensures c.put_byte-2.ensures
