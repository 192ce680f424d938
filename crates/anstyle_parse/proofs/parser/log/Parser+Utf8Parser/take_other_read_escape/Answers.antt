use Rattle.std.proofs.Common.{◌≡◌, arith, ap, refl, sym, ◌∙◌}
use Rattle.anstyle_parse.specs.declared.accumulator.Utf8Parser.{Utf8Parser}
use Rattle.anstyle_parse.specs.declared.state.definitions.State.TheVariants.{Escape, OscString, Utf8}
use Rattle.anstyle_parse.specs.declared.state.definitions.Action.TheVariants.{Nop}
use Rattle.anstyle_parse.specs.Machine.Step.{Machine, exit_action}
use Rattle.anstyle_parse.specs.Views.Accumulator.{parser_after}
use Rattle.anstyle_parse.specs.Views.Parser.{machine_of}
use Rattle.anstyle_parse.proofs.Machine.AsReadTo.{read_one-ground, read_one-in, LeadsAsReadTo-byte, LeadsAsReadTo-first, LeadsAsReadTo-trans}
use Rattle.anstyle_parse.proofs.Machine.Runs.{change_at-command, change_at-escape, state-by, state-escape}
use Rattle.anstyle_parse.proofs.parser.log.Parser+Utf8Parser.take_other_read_escape.Goals as goal

pub step_by_answer-requires-clause-known : goal.step_by_answer-requires-clause-known
step_by_answer-requires-clause-known g c = change_at-escape c.args.self.now.state c.args.first c.requires.ground c.requires.escape

pub step_by_answer-requires-in-Some-clause-exit : goal.step_by_answer-requires-in-Some-clause-exit
step_by_answer-requires-in-Some-clause-exit g c =
    ap exit_action (state-escape parser_after c.args.first c.args.self.now c.step_by_answer.new.self c.requires.ground c.requires.escape c.step_by_answer.ensures.machine)

pub step_by_answer-requires-in-Some-clause-known : goal.step_by_answer-requires-in-Some-clause-known
step_by_answer-requires-in-Some-clause-known g c =
    change_at-command c.step_by_answer.new.self.state c.in-Some.next.now
    (state-escape parser_after c.args.first c.args.self.now c.step_by_answer.new.self c.requires.ground c.requires.escape c.step_by_answer.ensures.machine) c.if-next-eq93.true

pub step_by_answer-requires-in-Some-clause-outside : goal.step_by_answer-requires-in-Some-clause-outside
step_by_answer-requires-in-Some-clause-outside g c = λ inside.
    let escape = state-escape parser_after c.args.first c.args.self.now c.step_by_answer.new.self c.requires.ground c.requires.escape c.step_by_answer.ensures.machine in
    let differ : Escape ≡ Utf8 = sym escape ∙ inside in
    absurd (cc (differ))

pub take_read_command-requires : goal.take_read_command-requires
take_read_command-requires g c =
    let escape = state-escape parser_after c.args.first c.args.self.now c.step_by_answer.new.self c.requires.ground c.requires.escape c.step_by_answer.ensures.machine in
    let second = machine_of c.step_by_answer.new.self in
    ap (λ (x : Machine Utf8Parser). x.state) c.step_by_answer-in-Some.ensures.machine
    ∙ state-by parser_after c.in-Some.next.now second OscString Nop (λ h. absurd (cc (escape, h))) (λ h. absurd (cc))
    (change_at-command second.state c.in-Some.next.now escape c.if-next-eq93.true)

pub returns-in-Some-clause-leads : goal.returns-in-Some-clause-leads
returns-in-Some-clause-leads g c =
    let n = g.P.PerformText in
    let m = g.met.P.PerformText in
    let escape = state-escape parser_after c.args.first c.args.self.now c.step_by_answer.new.self c.requires.ground c.requires.escape c.step_by_answer.ensures.machine in
    LeadsAsReadTo-first g.P.Perform.means n.receives m.follows c.in-Some.ensures.cases.0
    (LeadsAsReadTo-byte g.P.Perform.means n.receives m.follows c.args.self.now c.step_by_answer.new.self c.args.performer.now c.step_by_answer.new.performer
    c.args.first c.args.behind.now (read_one-ground c.args.self.now c.args.first c.requires.ground (omega (arith, c.requires.escape))) c.step_by_answer.ensures.machine c.step_by_answer.ensures.calls)
    (LeadsAsReadTo-trans g.P.Perform.means n.receives m.follows
    (LeadsAsReadTo-byte g.P.Perform.means n.receives m.follows c.step_by_answer.new.self c.step_by_answer-in-Some.new.self c.step_by_answer.new.performer c.step_by_answer-in-Some.new.performer
    c.in-Some.next.now c.in-Some.text.now (read_one-in c.step_by_answer.new.self Escape c.in-Some.next.now escape refl refl refl)
    c.step_by_answer-in-Some.ensures.machine c.step_by_answer-in-Some.ensures.calls)
    c.take_read_command.ensures.leads)

pub returns-in_default-clause-leads : goal.returns-in_default-clause-leads
returns-in_default-clause-leads g c =
    LeadsAsReadTo-byte g.P.Perform.means g.P.PerformText.receives g.met.P.PerformText.follows c.args.self.now c.step_by_answer.new.self c.args.performer.now c.step_by_answer.new.performer
    c.args.first c.args.behind.now (read_one-ground c.args.self.now c.args.first c.requires.ground (omega (arith, c.requires.escape))) c.step_by_answer.ensures.machine c.step_by_answer.ensures.calls

pub returns-in_default-2-clause-leads : goal.returns-in_default-2-clause-leads
returns-in_default-2-clause-leads g c =
    LeadsAsReadTo-byte g.P.Perform.means g.P.PerformText.receives g.met.P.PerformText.follows c.args.self.now c.step_by_answer.new.self c.args.performer.now c.step_by_answer.new.performer
    c.args.first c.args.behind.now (read_one-ground c.args.self.now c.args.first c.requires.ground (omega (arith, c.requires.escape))) c.step_by_answer.ensures.machine c.step_by_answer.ensures.calls
