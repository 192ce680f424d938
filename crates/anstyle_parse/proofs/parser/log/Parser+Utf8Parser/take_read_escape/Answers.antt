use Rattle.std.proofs.Common.{ap, inl, ◌∙◌}
use Rattle.anstyle_parse.specs.declared.accumulator.Utf8Parser.{Utf8Parser}
use Rattle.anstyle_parse.specs.Machine.Step.{Machine}
use Rattle.anstyle_parse.specs.Views.Accumulator.{parser_after}
use Rattle.anstyle_parse.specs.Views.Parser.{machine_of}
use Rattle.anstyle_parse.proofs.Machine.AsReadTo.{LeadsAsReadTo-introduced, LeadsAsReadTo-trans}
use Rattle.anstyle_parse.proofs.Machine.Runs.{step-introduced}
use Rattle.anstyle_parse.proofs.parser.log.Parser+Utf8Parser.take_read_escape.Goals as goal

pub take_read_header-requires : goal.take_read_header-requires
take_read_header-requires g c =
    inl (ap (λ (m : Machine Utf8Parser). m.state) (c.begin_control_sequence.ensures ∙ step-introduced parser_after (machine_of c.args.self.now) c.requires.ground))

pub returns-in-Some-clause-leads : goal.returns-in-Some-clause-leads
returns-in-Some-clause-leads g c =
    let n = g.P.PerformText in
    let m = g.met.P.PerformText in
    LeadsAsReadTo-trans g.P.Perform.means n.receives m.follows
    (LeadsAsReadTo-introduced g.P.Perform.means n.receives m.follows c.args.self.now c.begin_control_sequence.new.self c.args.performer.now
    c.args.first c.in-Some.next.now c.args.behind.now c.in-Some.header.now c.in-Some.ensures.cases.0 c.requires.ground c.requires.escape c.if-next-eq91.true c.begin_control_sequence.ensures)
    c.take_read_header.ensures.leads
