use Rattle.anstyle_parse.proofs.Machine.AsReadTo.{LeadsAsReadTo-first, LeadsAsReadTo-trans}
use Rattle.anstyle_parse.proofs.Machine.Runs.{KeepsTo-string}
use Rattle.anstyle_parse.proofs.parser.log.Parser+Utf8Parser.take_log.Goals as goal

pub rest-preserved-in-Ground : goal.rest-preserved-in-Ground
rest-preserved-in-Ground g c =
    let n = g.P.PerformText in
    let m = g.met.P.PerformText in
    LeadsAsReadTo-trans g.P.Perform.means n.receives m.follows c.rest.invariant c.take_text_or_pass-rest.ensures.leads

pub rest-preserved-in-CsiEntry : goal.rest-preserved-in-CsiEntry
rest-preserved-in-CsiEntry g c =
    let n = g.P.PerformText in
    let m = g.met.P.PerformText in
    LeadsAsReadTo-trans g.P.Perform.means n.receives m.follows c.rest.invariant c.take_read_header-rest.ensures.leads

pub take_read_run-rest-requires : goal.take_read_run-rest-requires
take_read_run-rest-requires g c = KeepsTo-string c.rest.self.state c.in-SosPmApcString.is

pub rest-preserved-in-Escape : goal.rest-preserved-in-Escape
rest-preserved-in-Escape g c =
    let n = g.P.PerformText in
    let m = g.met.P.PerformText in
    LeadsAsReadTo-first g.P.Perform.means n.receives m.follows c.in-Some.ensures.cases.0 c.rest.invariant c.take_read_after_escape-rest.ensures.leads

pub rest-preserved-in-OscString : goal.rest-preserved-in-OscString
rest-preserved-in-OscString g c =
    let n = g.P.PerformText in
    let m = g.met.P.PerformText in
    LeadsAsReadTo-trans g.P.Perform.means n.receives m.follows c.rest.invariant c.take_read_command-rest.ensures.leads

pub rest-preserved-in-DcsPassthrough : goal.rest-preserved-in-DcsPassthrough
rest-preserved-in-DcsPassthrough g c =
    let n = g.P.PerformText in
    let m = g.met.P.PerformText in
    LeadsAsReadTo-first g.P.Perform.means n.receives m.follows c.in-Some.ensures.cases.0 c.rest.invariant c.take_read_in_hooked_string-rest.ensures.leads

pub rest-preserved-in-SosPmApcString : goal.rest-preserved-in-SosPmApcString
rest-preserved-in-SosPmApcString g c =
    let n = g.P.PerformText in
    let m = g.met.P.PerformText in
    LeadsAsReadTo-first g.P.Perform.means n.receives m.follows c.in-Some.ensures.cases.0 c.rest.invariant c.take_read_run-rest.ensures.leads

pub rest-preserved : goal.rest-preserved
rest-preserved g c =
    let n = g.P.PerformText in
    let m = g.met.P.PerformText in
    LeadsAsReadTo-first g.P.Perform.means n.receives m.follows c.in-Some.ensures.cases.0 c.rest.invariant c.take_read-rest.ensures.leads
