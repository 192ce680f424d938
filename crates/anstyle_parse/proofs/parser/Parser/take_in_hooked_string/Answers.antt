use Rattle.std.proofs.Common.{subst, List, ℕ}
use Rattle.anstyle_parse.specs.Views.Parser.{CanTakeAll}
use Rattle.anstyle_parse.proofs.Machine.Runs.{KeepsTo-hooked, LeadsTo-byte, LeadsTo-first, LeadsTo-trans}
use Rattle.anstyle_parse.proofs.parser.Parser.take_in_hooked_string.Goals as goal

pub take_chunks-rest-requires-clause-keeps : goal.take_chunks-rest-requires-clause-keeps
take_chunks-rest-requires-clause-keeps g c = KeepsTo-hooked c.args.self.now.state c.requires.hooked

pub take_string_end-requires : goal.take_string_end-requires
take_string_end-requires g c =
    let n = g.C.CharAccumulator in
    let can = subst (λ (l : List ℕ). CanTakeAll n.takes c.args.self.now l) c.in-Some.ensures.cases.0 c.take_chunks-rest.ensures.can in
    (LeadsTo-byte n.takes n.taken g.P.Perform.means c.args.self.now c.step_after_puts.new.self c.take_chunks-rest.new.performer c.step_after_puts.new.performer
    c.in-Some.next.now c.in-Some.behind.now can c.step_after_puts.ensures).can

pub returns-clause-leads : goal.returns-clause-leads
returns-clause-leads g c =
    let n = g.C.CharAccumulator in
    let means = g.P.Perform.means in
    LeadsTo-first n.takes n.taken means c.in-Some.ensures.cases.0 c.take_chunks-rest.ensures (λ can.
    LeadsTo-trans n.takes n.taken means
    (LeadsTo-byte n.takes n.taken means c.args.self.now c.step_after_puts.new.self c.take_chunks-rest.new.performer c.step_after_puts.new.performer
    c.in-Some.next.now c.in-Some.behind.now can c.step_after_puts.ensures)
    c.take_string_end.ensures)
