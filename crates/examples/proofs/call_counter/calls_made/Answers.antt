use Rattle.std.proofs.Common.{[], arith, refl}
use Rattle.anstyle_parse.proofs.Headline.{HasReceived-none}
use Rattle.examples.specs.Counting.{greatest}
use Rattle.examples.proofs.call_counter.calls_made.Goals as goal

-- it has received the calls of the bytes, and by the law it has counted them
pub returns : goal.returns
returns c =
    let received = c.advance_all.ensures.received (record { count = 0 }) [] refl c.new-parser.ensures.stands (HasReceived-none _ (record { count = 0 })) in
    let number = c.counted.ensures.number (λ counter. counter.count) greatest (λ old call new is. is) in
    (received.0, received.1, omega (arith, number (record { count = 0 }) c.advance_all.new.performer received.0 (omega arith) received.2))
