use Rattle.std.proofs.Common.{inl, sym, ◌∙◌}
use Rattle.anstyle_parse.proofs.Machine.AsReadTo.{read_one-header, LeadsAsReadTo-byte, LeadsAsReadTo-fields, LeadsAsReadTo-first}
use Rattle.anstyle_parse.proofs.Machine.Runs.{change_at-final}
use Rattle.anstyle_parse.proofs.parser.log.Parser+Utf8Parser.take_read_header.Goals as goal

pub take_fields-rest-requires-clause-can : goal.take_fields-rest-requires-clause-can
take_fields-rest-requires-clause-can g c = inl (λ _ _ _. tt)

pub step_by_answer-requires-clause-known : goal.step_by_answer-requires-clause-known
step_by_answer-requires-clause-known g c =
    change_at-final c.take_fields-rest.new.self.state c.in-Some.last.now c.take_fields-rest.ensures.header (sym c.is_final_byte.ensures ∙ c.if-is_final_byte.true)

pub returns-then-is_final_byte-clause-leads : goal.returns-then-is_final_byte-clause-leads
returns-then-is_final_byte-clause-leads g c =
    let n = g.P.PerformText in
    let m = g.met.P.PerformText in
    let fields = LeadsAsReadTo-fields g.P.Perform.means n.receives m.follows c.args.self.now c.take_fields-rest.new.self c.args.performer.now
    c.args.bytes.now c.take_fields-rest.result.now c.take_fields-rest.ensures.leads in
    LeadsAsReadTo-first g.P.Perform.means n.receives m.follows c.in-Some.ensures.cases.0 fields
    (LeadsAsReadTo-byte g.P.Perform.means n.receives m.follows c.take_fields-rest.new.self c.step_by_answer.new.self c.args.performer.now c.step_by_answer.new.performer
    c.in-Some.last.now c.in-Some.behind.now (read_one-header c.take_fields-rest.new.self c.in-Some.last.now c.take_fields-rest.ensures.header)
    c.step_by_answer.ensures.machine c.step_by_answer.ensures.calls)

pub returns-else-is_final_byte-clause-leads : goal.returns-else-is_final_byte-clause-leads
returns-else-is_final_byte-clause-leads g c =
    let n = g.P.PerformText in
    let m = g.met.P.PerformText in
    let fields = LeadsAsReadTo-fields g.P.Perform.means n.receives m.follows c.args.self.now c.take_fields-rest.new.self c.args.performer.now
    c.args.bytes.now c.take_fields-rest.result.now c.take_fields-rest.ensures.leads in
    LeadsAsReadTo-first g.P.Perform.means n.receives m.follows c.in-Some.ensures.cases.0 fields
    (LeadsAsReadTo-byte g.P.Perform.means n.receives m.follows c.take_fields-rest.new.self c.step_in_header.new.self c.args.performer.now c.step_in_header.new.performer
    c.in-Some.last.now c.in-Some.behind.now (read_one-header c.take_fields-rest.new.self c.in-Some.last.now c.take_fields-rest.ensures.header)
    c.step_in_header.ensures.machine c.step_in_header.ensures.calls)

pub returns-in_default-clause-leads : goal.returns-in_default-clause-leads
returns-in_default-clause-leads g c =
    let n = g.P.PerformText in
    let m = g.met.P.PerformText in
    LeadsAsReadTo-fields g.P.Perform.means n.receives m.follows c.args.self.now c.take_fields-rest.new.self c.args.performer.now
    c.args.bytes.now c.take_fields-rest.result.now c.take_fields-rest.ensures.leads
