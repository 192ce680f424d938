-- Where the byte begins a character it reaches the accumulator.
use Rattle.std.proofs.Common.{sym, ◌∙◌}
use Rattle.anstyle_parse.proofs.Machine.Reaches.{ReachesAccumulator-begin}
use Rattle.anstyle_parse.proofs.parser.Parser.step_by_table.Goals as goal

pub perform_action-requires : goal.perform_action-requires
perform_action-requires g c = λ begins.
    c.requires.takes (ReachesAccumulator-begin c.args.state c.args.byte (sym c.state_change-next.ensures.action ∙ begins))

pub change_state-requires-clause-takes : goal.change_state-requires-clause-takes
change_state-requires-clause-takes g c = λ begins.
    c.requires.takes (ReachesAccumulator-begin c.args.state c.args.byte (sym c.state_change-next.ensures.action ∙ begins))
