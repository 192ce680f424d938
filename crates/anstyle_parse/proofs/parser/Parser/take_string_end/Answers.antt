use Rattle.anstyle_parse.proofs.Machine.Runs.{change_at-string_end, LeadsTo-byte, LeadsTo-first, LeadsTo-same}
use Rattle.anstyle_parse.proofs.parser.Parser.take_string_end.Goals as goal

pub step_by_answer-requires-clause-known : goal.step_by_answer-requires-clause-known
step_by_answer-requires-clause-known g c =
    change_at-string_end c.args.self.now.state c.in-Escape-Some.next.now c.in-Escape-Some.is-0 c.if-next-eq92.true

pub returns-in-Escape-Some : goal.returns-in-Escape-Some
returns-in-Escape-Some g c =
    let n = g.C.CharAccumulator in
    let means = g.P.Perform.means in
    LeadsTo-first n.takes n.taken means c.in-Escape-Some.ensures.cases.0 (LeadsTo-same n.takes n.taken means c.args.self.now c.args.performer.now c.args.bytes.now c.requires)
    (λ can. LeadsTo-byte n.takes n.taken means c.args.self.now c.step_by_answer.new.self c.args.performer.now c.step_by_answer.new.performer
    c.in-Escape-Some.next.now c.in-Escape-Some.behind.now can c.step_by_answer.ensures)
