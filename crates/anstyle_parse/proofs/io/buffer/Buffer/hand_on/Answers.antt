-- Where not all of it was written, something is left.
use Rattle.std.proofs.Common.{length, ap, arith, length-drop}
use Rattle.anstyle_parse.specs.Io.Buffer.{held_back}
use Rattle.anstyle_parse.proofs.io.buffer.Buffer.hand_on.Goals as goal

pub returns-else-count-held-clause-left : goal.returns-else-count-held-clause-left
returns-else-count-held-clause-left g c = λ none.
    omega (arith, ap length none, ap length c.drop_front.ensures, length-drop c.write_out-count.result (held_back c.args.self.now), c.write_out-count.ensures.within, c.if-count-held.false, ap length c.as_slice-held.ensures.value)
