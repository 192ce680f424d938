use Rattle.std.proofs.Common.{arith}
use Rattle.anstyle_parse.proofs.Streams.{CanTake-first}
use Rattle.anstyle_parse.proofs.Machine.Runs.{Takes-byte}
use Rattle.anstyle_parse.proofs.parser.Parser.take_by_table.Goals as goal

pub step_out_of_line-requires : goal.step_out_of_line-requires
step_out_of_line-requires g c =
    CanTake-first g.C.CharAccumulator.takes g.C.CharAccumulator.taken c.args.self.now c.args.first c.args.behind.now (omega arith) c.requires

pub returns : goal.returns
returns g c =
    Takes-byte g.C.CharAccumulator.takes g.C.CharAccumulator.taken g.P.Perform.means c.args.self.now c.step_out_of_line.new.self c.args.performer.now c.step_out_of_line.new.performer
    c.args.first c.args.behind.now c.requires c.step_out_of_line.ensures
