use Rattle.std.proofs.Common.{arith, sym, ◌∙◌}
use Rattle.anstyle_parse.specs.Views.Runs.{begins_nothing}
use Rattle.anstyle_parse.proofs.Machine.Runs.{LeadsQuietlyTo-first, LeadsQuietlyTo-nothing}
use Rattle.anstyle_parse.proofs.parser.Parser.take_nothing.Goals as goal

pub bytes-init : goal.bytes-init
bytes-init g c =
    let n = g.C.CharAccumulator in
    record {
      leads = LeadsQuietlyTo-nothing n.takes n.taken c.args.self.now c.args.first c.args.behind.now c.requires.can c.requires.ground c.requires.nothing;
      within = omega arith;
    }

pub bytes-preserved : goal.bytes-preserved
bytes-preserved g c =
    let n = g.C.CharAccumulator in
    record {
      leads =
          LeadsQuietlyTo-first n.takes n.taken begins_nothing c.in-Some.ensures.cases.0 c.bytes.invariant.leads
          (λ can. LeadsQuietlyTo-nothing n.takes n.taken c.args.self.now c.in-Some.first.now c.in-Some.behind.now can c.requires.ground (sym c.begins_nothing.ensures ∙ c.if-not-begins_nothing.false));
      within = omega (arith, c.in-Some.ensures.cases.1, c.bytes.invariant.within);
    }
