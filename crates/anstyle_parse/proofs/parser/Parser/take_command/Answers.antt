use Rattle.std.proofs.Common.{subst, List, ℕ}
use Rattle.anstyle_parse.specs.Views.Parser.{CanTakeAll}
use Rattle.anstyle_parse.proofs.Machine.Runs.{LeadsTo-byte, LeadsTo-quiet, LeadsTo-first, LeadsTo-trans}
use Rattle.anstyle_parse.proofs.parser.Parser.take_command.Goals as goal

pub take_string_end-requires : goal.take_string_end-requires
take_string_end-requires g c =
    let n = g.C.CharAccumulator in
    let can = subst (λ (l : List ℕ). CanTakeAll n.takes c.store_text-rest.new.self l) c.in-Some.ensures.cases.0 c.store_text-rest.ensures.leads.can in
    (LeadsTo-byte n.takes n.taken g.P.Perform.means c.store_text-rest.new.self c.step_in_command.new.self c.args.performer.now c.step_in_command.new.performer
    c.in-Some.control.now c.in-Some.behind.now can c.step_in_command.ensures).can

pub returns-clause-leads : goal.returns-clause-leads
returns-clause-leads g c =
    let n = g.C.CharAccumulator in
    let means = g.P.Perform.means in
    let stored = LeadsTo-quiet n.takes n.taken means c.args.self.now c.store_text-rest.new.self c.args.performer.now
    c.args.bytes.now c.store_text-rest.result.now c.store_text-rest.ensures.leads in
    LeadsTo-first n.takes n.taken means c.in-Some.ensures.cases.0 stored (λ can.
    LeadsTo-trans n.takes n.taken means
    (LeadsTo-byte n.takes n.taken means c.store_text-rest.new.self c.step_in_command.new.self c.args.performer.now c.step_in_command.new.performer
    c.in-Some.control.now c.in-Some.behind.now can c.step_in_command.ensures)
    c.take_string_end.ensures)

pub returns-in_default-clause-leads : goal.returns-in_default-clause-leads
returns-in_default-clause-leads g c =
    let n = g.C.CharAccumulator in
    LeadsTo-quiet n.takes n.taken g.P.Perform.means c.args.self.now c.store_text-rest.new.self c.args.performer.now
    c.args.bytes.now c.store_text-rest.result.now c.store_text-rest.ensures.leads
