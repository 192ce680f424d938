use Rattle.std.proofs.Common.{List, ℕ, arith, subst}
use Rattle.anstyle_parse.specs.Views.Parser.{CanTakeAll}
use Rattle.anstyle_parse.specs.Views.Runs.{LeadsQuietlyTo, is_of_command}
use Rattle.anstyle_parse.proofs.Machine.Runs.{LeadsQuietlyTo-same, LeadsQuietlyTo-trans}
use Rattle.anstyle_parse.proofs.parser.Parser.store_text.Goals as goal

pub text-init : goal.text-init
text-init g c = record {
  leads = LeadsQuietlyTo-same g.C.CharAccumulator.takes g.C.CharAccumulator.taken is_of_command c.args.self.now c.args.bytes.now c.requires.can;
  command = c.requires.command;
  within = omega (arith);
}

pub store_byte-rest-requires-clause-can : goal.store_byte-rest-requires-clause-can
store_byte-rest-requires-clause-can g c =
    subst (λ (l : List ℕ). CanTakeAll g.C.CharAccumulator.takes c.text.self l) c.in-Some.ensures.cases.0 c.text.invariant.leads.can

pub text-preserved : goal.text-preserved
text-preserved g c =
    let n = g.C.CharAccumulator in
    let passed = subst (λ (l : List ℕ). LeadsQuietlyTo n.takes n.taken is_of_command c.args.self.now c.args.bytes.now c.text.self l) c.in-Some.ensures.cases.0 c.text.invariant.leads in
    record {
      leads = LeadsQuietlyTo-trans n.takes n.taken is_of_command passed c.store_byte-rest.ensures.leads;
      command = c.store_byte-rest.ensures.command;
      within = omega (arith, c.store_byte-rest.ensures.within, c.in-Some.ensures.cases.1, c.text.invariant.within);
    }
