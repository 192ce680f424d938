use Rattle.std.proofs.Common.{◌≡◌, arith, ap, ◌∙◌, sym}
use Rattle.anstyle_parse.specs.declared.state.definitions.State.TheVariants.{Escape, OscString, Utf8}
use Rattle.anstyle_parse.specs.declared.state.definitions.Action.TheVariants.{Nop}
use Rattle.anstyle_parse.specs.Machine.Step.{Machine, exit_action}
use Rattle.anstyle_parse.specs.Views.Parser.{machine_of}
use Rattle.anstyle_parse.proofs.Machine.Runs.{change_at-escape, change_at-command, state-by, state-escape, LeadsTo-bytes, LeadsTo-trans, Takes-byte}
use Rattle.anstyle_parse.proofs.parser.Parser.take_other_escape.Goals as goal

pub step_by_answer-requires-clause-known : goal.step_by_answer-requires-clause-known
step_by_answer-requires-clause-known g c = change_at-escape c.args.self.now.state c.args.first c.requires.ground c.requires.escape

pub step_by_answer-requires-then-next-eq93-clause-exit : goal.step_by_answer-requires-then-next-eq93-clause-exit
step_by_answer-requires-then-next-eq93-clause-exit g c =
    let escape = state-escape g.C.CharAccumulator.taken c.args.first c.args.self.now c.step_by_answer.new.self c.requires.ground c.requires.escape c.step_by_answer.ensures.machine in
    ap exit_action escape

pub step_by_answer-requires-then-next-eq93-clause-known : goal.step_by_answer-requires-then-next-eq93-clause-known
step_by_answer-requires-then-next-eq93-clause-known g c =
    let escape = state-escape g.C.CharAccumulator.taken c.args.first c.args.self.now c.step_by_answer.new.self c.requires.ground c.requires.escape c.step_by_answer.ensures.machine in
    change_at-command c.step_by_answer.new.self.state c.in-Some.next.now escape c.if-next-eq93.true

pub step_by_answer-requires-then-next-eq93-clause-outside : goal.step_by_answer-requires-then-next-eq93-clause-outside
step_by_answer-requires-then-next-eq93-clause-outside g c = λ inside.
    let escape = state-escape g.C.CharAccumulator.taken c.args.first c.args.self.now c.step_by_answer.new.self c.requires.ground c.requires.escape c.step_by_answer.ensures.machine in
    let differ : Escape ≡ Utf8 = sym escape ∙ inside in
    absurd (cc (differ))

pub take_command-requires-clause-command : goal.take_command-requires-clause-command
take_command-requires-clause-command g c =
    let escape = state-escape g.C.CharAccumulator.taken c.args.first c.args.self.now c.step_by_answer.new.self c.requires.ground c.requires.escape c.step_by_answer.ensures.machine in
    let second = machine_of c.step_by_answer.new.self in
    ap (λ (x : Machine g.row.C.Denot). x.state) c.step_by_answer-then-next-eq93.ensures.machine
    ∙ state-by g.C.CharAccumulator.taken c.in-Some.next.now second OscString Nop (λ h. absurd (cc (escape, h))) (λ h. absurd (cc))
    (change_at-command second.state c.in-Some.next.now escape c.if-next-eq93.true)

pub take_command-requires-clause-can : goal.take_command-requires-clause-can
take_command-requires-clause-can g c =
    let n = g.C.CharAccumulator in
    let means = g.P.Perform.means in
    let begun = LeadsTo-bytes n.takes n.taken means c.args.self.now c.step_by_answer.new.self c.step_by_answer-then-next-eq93.new.self
    c.args.performer.now c.step_by_answer.new.performer c.step_by_answer-then-next-eq93.new.performer
    c.args.first c.in-Some.next.now c.args.behind.now c.in-Some.rest.now c.requires.can c.in-Some.ensures.cases.0
    c.step_by_answer.ensures c.step_by_answer-then-next-eq93.ensures in
    begun.can

pub returns-then-next-eq93 : goal.returns-then-next-eq93
returns-then-next-eq93 g c =
    let n = g.C.CharAccumulator in
    let means = g.P.Perform.means in
    let begun = LeadsTo-bytes n.takes n.taken means c.args.self.now c.step_by_answer.new.self c.step_by_answer-then-next-eq93.new.self
    c.args.performer.now c.step_by_answer.new.performer c.step_by_answer-then-next-eq93.new.performer
    c.args.first c.in-Some.next.now c.args.behind.now c.in-Some.rest.now c.requires.can c.in-Some.ensures.cases.0
    c.step_by_answer.ensures c.step_by_answer-then-next-eq93.ensures in
    record {
      leads = LeadsTo-trans n.takes n.taken means begun c.take_command.ensures.leads;
      some = omega (arith, c.in-Some.ensures.cases.1, c.take_command.ensures.leads.within);
    }

pub step_after_escape-requires : goal.step_after_escape-requires
step_after_escape-requires g c =
    state-escape g.C.CharAccumulator.taken c.args.first c.args.self.now c.step_by_answer.new.self c.requires.ground c.requires.escape c.step_by_answer.ensures.machine

pub returns-in-Some : goal.returns-in-Some
returns-in-Some g c =
    let n = g.C.CharAccumulator in
    let means = g.P.Perform.means in
    record {
      leads = LeadsTo-bytes n.takes n.taken means c.args.self.now c.step_by_answer.new.self c.step_after_escape.new.self
          c.args.performer.now c.step_by_answer.new.performer c.step_after_escape.new.performer
          c.args.first c.in-Some.next.now c.args.behind.now c.in-Some.rest.now c.requires.can c.in-Some.ensures.cases.0
          c.step_by_answer.ensures c.step_after_escape.ensures;
      some = omega (arith, c.in-Some.ensures.cases.1);
    }

pub returns : goal.returns
returns g c =
    Takes-byte g.C.CharAccumulator.takes g.C.CharAccumulator.taken g.P.Perform.means c.args.self.now c.step_by_answer.new.self c.args.performer.now c.step_by_answer.new.performer
    c.args.first c.args.behind.now c.requires.can c.step_by_answer.ensures
