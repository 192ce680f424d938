use Rattle.std.proofs.Common.{arith, sym, ◌∙◌}
use Rattle.anstyle_parse.proofs.Machine.Runs.{LeadsTo-run, LeadsTo-trans}
use Rattle.anstyle_parse.proofs.parser.Parser.take_run.Goals as goal

pub take_chunks-requires-clause-can : goal.take_chunks-requires-clause-can
take_chunks-requires-clause-can g c =
    (LeadsTo-run g.C.CharAccumulator.takes g.C.CharAccumulator.taken g.P.Perform.means c.args.run c.args.self.now c.requires.keeps c.args.performer.now c.call.new.performer
    c.args.first c.args.behind.now c.requires.can (sym c.has.ensures ∙ c.if-not-has.false) c.call.ensures).can

pub returns : goal.returns
returns g c =
    let n = g.C.CharAccumulator in
    let means = g.P.Perform.means in
    let begun = LeadsTo-run n.takes n.taken means c.args.run c.args.self.now c.requires.keeps c.args.performer.now c.call.new.performer
    c.args.first c.args.behind.now c.requires.can (sym c.has.ensures ∙ c.if-not-has.false) c.call.ensures in
    record {
      leads = LeadsTo-trans n.takes n.taken means begun c.take_chunks.ensures;
      some = omega (arith, c.take_chunks.ensures.within);
    }
