use Rattle.anstyle_parse.proofs.Machine.Runs.{KeepsTo-string, KeepsTo-header, LeadsTo-byte, LeadsTo-first, LeadsTo-same}
use Rattle.anstyle_parse.proofs.parser.Parser.take_first.Goals as goal

pub take_run-requires-clause-keeps : goal.take_run-requires-clause-keeps
take_run-requires-clause-keeps g c = KeepsTo-string c.args.self.now.state c.in-SosPmApcString.is

pub take_run-requires-in-CsiIgnore-clause-keeps : goal.take_run-requires-in-CsiIgnore-clause-keeps
take_run-requires-in-CsiIgnore-clause-keeps g c = KeepsTo-header c.args.self.now.state c.in-CsiIgnore.is

pub returns-in-Escape-clause-leads : goal.returns-in-Escape-clause-leads
returns-in-Escape-clause-leads g c =
    let n = g.C.CharAccumulator in
    let means = g.P.Perform.means in
    LeadsTo-first n.takes n.taken means c.in-Some.ensures.cases.0 (LeadsTo-same n.takes n.taken means c.args.self.now c.args.performer.now c.args.bytes.now c.requires)
    (λ can. LeadsTo-byte n.takes n.taken means c.args.self.now c.step_after_escape.new.self c.args.performer.now c.step_after_escape.new.performer
    c.in-Some.first.now c.in-Some.behind.now can c.step_after_escape.ensures)
