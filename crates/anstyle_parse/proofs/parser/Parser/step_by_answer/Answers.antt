use Rattle.anstyle_parse.specs.Machine.Table.{◌by◌}
use Rattle.anstyle_parse.proofs.Machine.Runs.{Steps-by}
use Rattle.anstyle_parse.proofs.parser.Parser.step_by_answer.Goals as goal

pub change_state-requires-clause-takes : goal.change_state-requires-clause-takes
change_state-requires-clause-takes g c = λ begins. absurd (c.requires.begins_none begins)

pub returns : goal.returns
returns g c =
    Steps-by g.C.CharAccumulator.taken g.P.Perform.means c.args.self.now c.change_state.new.self c.args.performer.now c.change_state.new.performer
    c.args.byte (c.args.state by c.args.action) c.requires.outside c.requires.known c.change_state.ensures.machine c.change_state.ensures.calls
