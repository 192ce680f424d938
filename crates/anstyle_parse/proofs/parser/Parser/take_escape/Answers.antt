use Rattle.std.proofs.Common.{arith, ap, ◌∙◌, inl}
use Rattle.anstyle_parse.specs.Machine.Step.{Machine}
use Rattle.anstyle_parse.specs.Views.Parser.{machine_of}
use Rattle.anstyle_parse.proofs.Machine.Runs.{step-introduced, LeadsTo-introduced, LeadsTo-trans}
use Rattle.anstyle_parse.proofs.parser.Parser.take_escape.Goals as goal

pub take_in_header-requires-clause-header : goal.take_in_header-requires-clause-header
take_in_header-requires-clause-header g c =
    inl (ap (λ (x : Machine g.row.C.Denot). x.state)
    (c.begin_control_sequence.ensures ∙ step-introduced g.C.CharAccumulator.taken (machine_of c.args.self.now) c.requires.ground))

pub take_in_header-requires-clause-can : goal.take_in_header-requires-clause-can
take_in_header-requires-clause-can g c =
    let n = g.C.CharAccumulator in
    let begun = LeadsTo-introduced n.takes n.taken g.P.Perform.means c.args.self.now c.begin_control_sequence.new.self c.args.performer.now
    c.args.first c.in-Some.next.now c.args.behind.now c.in-Some.rest.now c.requires.can c.in-Some.ensures.cases.0
    c.requires.ground c.requires.escape c.if-next-eq91.true c.begin_control_sequence.ensures in
    begun.can

pub returns-in-Some : goal.returns-in-Some
returns-in-Some g c =
    let n = g.C.CharAccumulator in
    let means = g.P.Perform.means in
    let begun = LeadsTo-introduced n.takes n.taken means c.args.self.now c.begin_control_sequence.new.self c.args.performer.now
    c.args.first c.in-Some.next.now c.args.behind.now c.in-Some.rest.now c.requires.can c.in-Some.ensures.cases.0
    c.requires.ground c.requires.escape c.if-next-eq91.true c.begin_control_sequence.ensures in
    record {
      leads = LeadsTo-trans n.takes n.taken means begun c.take_in_header.ensures.leads;
      some = omega (arith, c.in-Some.ensures.cases.1, c.take_in_header.ensures.onward);
    }
