use Rattle.anstyle_parse.proofs.Machine.AsReadTo.{LeadsAsReadTo-sequence, LeadsAsReadTo-text, LeadsAsReadTo-trans}
use Rattle.anstyle_parse.proofs.parser.log.Parser+Utf8Parser.take_text_or_pass.Goals as goal

pub returns-in-Some-clause-leads : goal.returns-in-Some-clause-leads
returns-in-Some-clause-leads g c =
    let n = g.P.PerformText in
    let m = g.met.P.PerformText in
    let further = c.take_text-further.result.now in
    let performer = c.take_text-further.new.performer in
    LeadsAsReadTo-trans g.P.Perform.means n.receives m.follows
    (LeadsAsReadTo-text g.P.Perform.means n.receives m.follows c.args.self.now c.args.performer.now performer c.args.bytes.now further c.take_text-further.ensures.taken)
    (LeadsAsReadTo-sequence g.P.Perform.means n.receives m.follows c.args.self.now performer further c.in-Some.behind.now
    c.requires c.in-Some.ensures.sequence c.in-Some.ensures.passes)

pub returns-in-None-clause-leads : goal.returns-in-None-clause-leads
returns-in-None-clause-leads g c =
    let n = g.P.PerformText in
    let m = g.met.P.PerformText in
    LeadsAsReadTo-trans g.P.Perform.means n.receives m.follows
    (LeadsAsReadTo-text g.P.Perform.means n.receives m.follows c.args.self.now c.args.performer.now c.take_text-further.new.performer
    c.args.bytes.now c.take_text-further.result.now c.take_text-further.ensures.taken)
    c.take_read_unprinted.ensures.leads
