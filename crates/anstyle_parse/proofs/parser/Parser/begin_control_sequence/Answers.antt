use Rattle.std.proofs.Common.{ap, sym, ◌∙◌}
use Rattle.std.specs.Prelude.{⊤}
use Rattle.anstyle_parse.specs.declared.state.definitions.State.TheVariants.{CsiEntry}
use Rattle.anstyle_parse.specs.Machine.Step.{Machine}
use Rattle.anstyle_parse.specs.Views.Parser.{machine_of}
use Rattle.anstyle_parse.proofs.Machine.Actions.{with_header_of}
use Rattle.anstyle_parse.proofs.Machine.Runs.{step-introduced}
use Rattle.anstyle_parse.proofs.parser.Parser.begin_control_sequence.Goals as goal

pub returns : goal.returns
returns g c =
    let begun : Machine g.row.C.Denot = record (machine_of c.args.self.now) { state = CsiEntry } in
    ap (λ (h : Machine ⊤). with_header_of h begun) c.clear.ensures
    ∙ sym (step-introduced g.C.CharAccumulator.taken (machine_of c.args.self.now) c.requires)
