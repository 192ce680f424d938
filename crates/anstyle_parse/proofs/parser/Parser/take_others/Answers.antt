use Rattle.std.proofs.Common.{sym, ◌∙◌}
use Rattle.anstyle_parse.proofs.Machine.Runs.{LeadsTo-first, LeadsTo-run}
use Rattle.anstyle_parse.proofs.parser.Parser.take_others.Goals as goal

pub bytes-preserved : goal.bytes-preserved
bytes-preserved g c =
    let n = g.C.CharAccumulator in
    let means = g.P.Perform.means in
    LeadsTo-first n.takes n.taken means c.in-Some.ensures.cases.0 c.bytes.invariant
    (λ can. LeadsTo-run n.takes n.taken means c.args.run c.args.self.now c.requires.keeps c.bytes.performer c.call.new.performer
    c.in-Some.first.now c.in-Some.behind.now can (sym c.has.ensures ∙ c.if-not-has.false) c.call.ensures)
