use Rattle.std.proofs.Common.{inl, refl}
use Rattle.anstyle_parse.specs.declared.state.definitions.State.TheVariants.{OscString}
use Rattle.anstyle_parse.proofs.Machine.AsReadTo.{read_one-in, LeadsAsReadTo-byte, LeadsAsReadTo-command, LeadsAsReadTo-first}
use Rattle.anstyle_parse.proofs.parser.log.Parser+Utf8Parser.take_read_command.Goals as goal

pub store_text-rest-requires-clause-can : goal.store_text-rest-requires-clause-can
store_text-rest-requires-clause-can g c = inl (λ _ _ _. tt)

pub returns-in_default-clause-leads : goal.returns-in_default-clause-leads
returns-in_default-clause-leads g c =
    LeadsAsReadTo-command g.P.Perform.means g.P.PerformText.receives g.met.P.PerformText.follows c.args.self.now c.store_text-rest.new.self c.args.performer.now
    c.args.bytes.now c.store_text-rest.result.now c.requires c.store_text-rest.ensures.leads

pub returns-clause-leads : goal.returns-clause-leads
returns-clause-leads g c =
    let n = g.P.PerformText in
    let m = g.met.P.PerformText in
    let stored = LeadsAsReadTo-command g.P.Perform.means n.receives m.follows c.args.self.now c.store_text-rest.new.self c.args.performer.now
    c.args.bytes.now c.store_text-rest.result.now c.requires c.store_text-rest.ensures.leads in
    LeadsAsReadTo-first g.P.Perform.means n.receives m.follows c.in-Some.ensures.cases.0 stored
    (LeadsAsReadTo-byte g.P.Perform.means n.receives m.follows c.store_text-rest.new.self c.step_in_command.new.self c.args.performer.now c.step_in_command.new.performer
    c.in-Some.control.now c.in-Some.behind.now (read_one-in c.store_text-rest.new.self OscString c.in-Some.control.now c.store_text-rest.ensures.command refl refl refl)
    c.step_in_command.ensures.machine c.step_in_command.ensures.calls)
