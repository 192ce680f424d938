use Rattle.anstyle_parse.specs.declared.state.definitions.Action.TheVariants.{Nop}
use Rattle.anstyle_parse.specs.Machine.Table.{◌by◌}
use Rattle.anstyle_parse.proofs.Machine.Runs.{Steps-by}
use Rattle.anstyle_parse.proofs.parser.Parser.end_command.Goals as goal

pub returns : goal.returns
returns g c =
    Steps-by g.C.CharAccumulator.taken g.P.Perform.means c.args.self.now c.change_state.new.self c.args.performer.now c.change_state.new.performer
    c.args.byte (c.args.state by Nop) (λ inside. absurd (cc (c.requires.command, inside))) c.requires.known c.change_state.ensures.machine c.change_state.ensures.calls
