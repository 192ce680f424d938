use Rattle.std.proofs.Common.{⊎_elim, ap, sym, ◌∙◌}
use Rattle.std.proofs.lemmas.Bool.{cases_Bool}
use Rattle.anstyle_parse.specs.declared.state.definitions.State.{State}
use Rattle.anstyle_parse.specs.declared.state.definitions.Action.TheVariants.{Execute}
use Rattle.anstyle_parse.specs.Stream.Bytes.{is_cancel}
use Rattle.anstyle_parse.specs.Machine.Table.{◌by◌}
use Rattle.anstyle_parse.proofs.Machine.Runs.{change_at-cancel, change_at-executed}
use Rattle.anstyle_parse.proofs.parser.Parser.execute_in_header.Goals as goal

pub step_by_answer-requires-clause-known : goal.step_by_answer-requires-clause-known
step_by_answer-requires-clause-known g c =
    let old = c.args.self.now.state in
    ⊎_elim
    (λ cancel. change_at-cancel old c.args.control c.requires.header cancel ∙ ap (λ (s : State). s by Execute) (sym (c.state_after-state.ensures.cancels cancel)))
    (λ other. change_at-executed old c.args.control c.requires.header c.requires.control other ∙ ap (λ (s : State). s by Execute) (sym (c.state_after-state.ensures.stays other)))
    (cases_Bool (is_cancel c.args.control))
