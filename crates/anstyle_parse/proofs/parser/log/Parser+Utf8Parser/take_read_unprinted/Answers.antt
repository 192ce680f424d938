use Rattle.std.proofs.Common.{arith}
use Rattle.anstyle_parse.proofs.Machine.AsReadTo.{read_one-ground, LeadsAsReadTo-byte, LeadsAsReadTo-first, LeadsAsReadTo-none}
use Rattle.anstyle_parse.proofs.Machine.Runs.{change_at-control}
use Rattle.anstyle_parse.proofs.parser.log.Parser+Utf8Parser.take_read_unprinted.Goals as goal

pub step_by_answer-requires-clause-known : goal.step_by_answer-requires-clause-known
step_by_answer-requires-clause-known g c = change_at-control c.args.self.now.state c.in-Some.first.now c.requires c.if-first-lt-CANCEL.true

pub returns-then-first-lt-CANCEL-clause-leads : goal.returns-then-first-lt-CANCEL-clause-leads
returns-then-first-lt-CANCEL-clause-leads g c =
    let n = g.P.PerformText in
    let m = g.met.P.PerformText in
    LeadsAsReadTo-first g.P.Perform.means n.receives m.follows c.in-Some.ensures.cases.0
    (LeadsAsReadTo-none g.P.Perform.means n.receives m.follows c.args.self.now c.args.performer.now c.args.bytes.now)
    (LeadsAsReadTo-byte g.P.Perform.means n.receives m.follows c.args.self.now c.step_by_answer.new.self c.args.performer.now c.step_by_answer.new.performer
    c.in-Some.first.now c.in-Some.behind.now (read_one-ground c.args.self.now c.in-Some.first.now c.requires (omega (arith, c.if-first-lt-CANCEL.true)))
    c.step_by_answer.ensures.machine c.step_by_answer.ensures.calls)
