use Rattle.anstyle_parse.specs.declared.state.definitions.State.TheVariants.{Escape}
use Rattle.anstyle_parse.proofs.Machine.Runs.{change_at-string_end, change_at-command, change_at-device}
use Rattle.anstyle_parse.proofs.Streams.{CanTake-in}
use Rattle.anstyle_parse.proofs.parser.Parser.step_after_escape.Goals as goal

pub step_by_answer-requires-clause-known : goal.step_by_answer-requires-clause-known
step_by_answer-requires-clause-known g c = change_at-string_end c.args.self.now.state c.args.byte c.requires c.in-92.is

pub step_by_answer-requires-in-93-clause-known : goal.step_by_answer-requires-in-93-clause-known
step_by_answer-requires-in-93-clause-known g c = change_at-command c.args.self.now.state c.args.byte c.requires c.in-93.is

pub step_by_answer-requires-in-80-clause-known : goal.step_by_answer-requires-in-80-clause-known
step_by_answer-requires-in-80-clause-known g c = change_at-device c.args.self.now.state c.args.byte c.requires c.in-80.is

pub step_out_of_line-requires : goal.step_out_of_line-requires
step_out_of_line-requires g c =
    CanTake-in g.C.CharAccumulator.takes g.C.CharAccumulator.taken c.args.self.now Escape c.args.byte c.requires (λ reaches. reaches)
