use Rattle.anstyle_parse.specs.declared.state.definitions.State.TheVariants.{OscString}
use Rattle.anstyle_parse.proofs.Machine.Runs.{change_at-command_escape, change_at-command_bell}
use Rattle.anstyle_parse.proofs.Streams.{CanTake-in}
use Rattle.anstyle_parse.proofs.parser.Parser.step_in_command.Goals as goal

pub end_command-requires-clause-known : goal.end_command-requires-clause-known
end_command-requires-clause-known g c = change_at-command_escape c.args.self.now.state c.args.control c.requires c.in-27.is

pub end_command-requires-in-7-clause-known : goal.end_command-requires-in-7-clause-known
end_command-requires-in-7-clause-known g c = change_at-command_bell c.args.self.now.state c.args.control c.requires c.in-7.is

pub step_out_of_line-requires : goal.step_out_of_line-requires
step_out_of_line-requires g c =
    CanTake-in g.C.CharAccumulator.takes g.C.CharAccumulator.taken c.args.self.now OscString c.args.control c.requires (λ reaches. reaches)
