use Rattle.std.proofs.Common.{sym, ◌∙◌}
use Rattle.anstyle_parse.proofs.Machine.Runs.{change_at-final, LeadsTo-byte, LeadsTo-first, LeadsTo-quiet}
use Rattle.anstyle_parse.proofs.parser.Parser.take_in_header.Goals as goal

pub step_by_answer-requires-clause-known : goal.step_by_answer-requires-clause-known
step_by_answer-requires-clause-known g c =
    change_at-final c.take_fields-rest.new.self.state c.in-Some.last.now c.take_fields-rest.ensures.header (sym c.is_final_byte.ensures ∙ c.if-is_final_byte.true)

pub returns-then-is_final_byte-clause-leads : goal.returns-then-is_final_byte-clause-leads
returns-then-is_final_byte-clause-leads g c =
    let n = g.C.CharAccumulator in
    let means = g.P.Perform.means in
    let fields = LeadsTo-quiet n.takes n.taken means c.args.self.now c.take_fields-rest.new.self c.args.performer.now c.args.bytes.now c.take_fields-rest.result.now c.take_fields-rest.ensures.leads in
    LeadsTo-first n.takes n.taken means c.in-Some.ensures.cases.0 fields
    (λ can. LeadsTo-byte n.takes n.taken means c.take_fields-rest.new.self c.step_by_answer.new.self c.args.performer.now c.step_by_answer.new.performer
    c.in-Some.last.now c.in-Some.behind.now can c.step_by_answer.ensures)

pub returns-else-is_final_byte-clause-leads : goal.returns-else-is_final_byte-clause-leads
returns-else-is_final_byte-clause-leads g c =
    let n = g.C.CharAccumulator in
    let means = g.P.Perform.means in
    let fields = LeadsTo-quiet n.takes n.taken means c.args.self.now c.take_fields-rest.new.self c.args.performer.now c.args.bytes.now c.take_fields-rest.result.now c.take_fields-rest.ensures.leads in
    LeadsTo-first n.takes n.taken means c.in-Some.ensures.cases.0 fields (λ can. c.take_marker.ensures.leads)
