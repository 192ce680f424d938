use Rattle.anstyle_parse.proofs.Machine.AsReadTo.{LeadsAsReadTo-one}
use Rattle.anstyle_parse.proofs.parser.log.Parser+Utf8Parser.take_read.Goals as goal

pub returns-clause-leads : goal.returns-clause-leads
returns-clause-leads g c =
    let n = g.P.PerformText in
    let m = g.met.P.PerformText in
    LeadsAsReadTo-one g.P.Perform.means n.receives m.follows c.args.self.now c.step_as_read.new.self c.args.performer.now c.step_as_read.new.performer
    c.args.first c.args.behind.now c.step_as_read.ensures.machine c.step_as_read.ensures.calls
