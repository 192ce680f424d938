-- What was given to the parser that stands for the state.
use Rattle.std.proofs.Common.{rules, arith}
use Rattle.anstyle_parse.proofs.Streams.{bytes_below}
use Rattle.event_pieces.proofs.EndLemmas.{FindsEnds-given}
use Rattle.event_pieces.proofs.ends.find_ends.Goals as goal

pub returns : goal.returns
returns c =
    FindsEnds-given c.args.state.now c.resume_in.new.parser c.args.bytes.now c.args.ends.now _ _ c.new-writer.result c.give.new.writer
    (bytes_below c.args.bytes.now (λ i. omega (arith, c.type_inv.bytes i)))
    (λ before is. c.resume_in.ensures before c.new-parser.ensures.stands is)
    c.give.ensures.gives c.new-writer.ensures.nothing (search rules) c.written.ensures
