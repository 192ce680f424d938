use Rattle.anstyle_parse.specs.declared.state.definitions.State.TheVariants.{Escape}
use Rattle.anstyle_parse.specs.declared.state.definitions.Action.TheVariants.{Nop}
use Rattle.anstyle_parse.specs.Machine.Table.{◌by◌}
use Rattle.anstyle_parse.proofs.Machine.Runs.{change_at-hooked_escape, Steps-by}
use Rattle.anstyle_parse.proofs.parser.Parser.end_hooked_string.Goals as goal

pub returns : goal.returns
returns g c =
    Steps-by g.C.CharAccumulator.taken g.P.Perform.means c.args.self.now c.change_state.new.self c.args.performer.now c.change_state.new.performer
    c.args.byte (Escape by Nop) (λ inside. absurd (cc (c.requires.hooked, inside)))
    (change_at-hooked_escape c.args.self.now.state c.args.byte c.requires.hooked c.requires.escape) c.change_state.ensures.machine c.change_state.ensures.calls
