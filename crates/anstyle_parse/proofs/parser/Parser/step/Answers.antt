-- Inside a character the accumulator answers, and a byte that breaks it is handled in Ground.
use Rattle.std.proofs.Common.{refl, ap, sym, ◌∙◌, subst, List}
use Rattle.std.proofs.lemmas.Bool.{both_ways}
use Rattle.anstyle_parse.specs.declared.state.definitions.State.TheVariants.{Ground}
use Rattle.anstyle_parse.specs.Stream.Call.{Call, Goes}
use Rattle.anstyle_parse.specs.Views.Parser.{machine_of}
use Rattle.anstyle_parse.specs.Machine.Step.{IsBroken, after_continuation, print_answer, step_from, step_calls_from}
use Rattle.anstyle_parse.proofs.Machine.Steps.{Goes-append, step-at, step_calls-at, step-broken, step_calls-broken, step-whole, step_calls-whole}
use Rattle.anstyle_parse.proofs.parser.Parser.step.Goals as goal
use Rattle.anstyle_parse.proofs.parser.Parser.step.Goals.{in-Utf8+else-not-continue_character, in_default}

pub returns-then-not-continue_character : goal.returns-then-not-continue_character
returns-then-not-continue_character g c =
    let add = g.C.CharAccumulator.taken in
    let m = machine_of c.args.self.now in
    let whole : IsBroken (add m.accumulator c.args.byte).1 → ⊥ = λ breaks. both_ways c.continue_character.result c.if-not-continue_character.true (c.continue_character.ensures.breaks.1 breaks) in
    let Q : List Call → Type 0 = λ calls. Goes g.P.Perform.means c.args.performer.now calls c.continue_character.new.performer in
    record {
      machine = c.continue_character.ensures.machine ∙ sym (step-whole add c.args.byte m c.in-Utf8.is whole);
      calls = subst Q (sym (step_calls-whole add c.args.byte m c.in-Utf8.is whole)) c.continue_character.ensures.calls;
    }

pub returns : goal.returns
returns g c =
    let add = g.C.CharAccumulator.taken in
    let means = g.P.Perform.means in
    let b = c.args.byte in
    let m = machine_of c.args.self.now in
    let last = c.step_by_table.new.performer in
    let Q : List Call → Type 0 = λ calls. Goes means c.match-self.performer calls last in
    let R : List Call → Type 0 = λ calls. Goes means c.args.performer.now calls last in
    elim c.match-self.branch [
      | in-Utf8+else-not-continue_character w ↦
          let broken = w.continue_character.ensures.breaks.0 w.if-not-continue_character.false in
          let mid = w.continue_character.new.performer in
          let S : g.row.P.Denot → Type 0 = λ p. Goes means p (step_calls_from add Ground b (after_continuation add b m)) last in
          record {
            machine = c.step_by_table.ensures.machine
                ∙ ap (λ s. step_from add s b (machine_of c.match-self.self)) w.state-is
                ∙ ap (λ p. step_from add Ground b (machine_of p)) w.self-is
                ∙ ap (λ n. step_from add Ground b n) w.continue_character.ensures.machine
                ∙ sym (step-broken add b m w.in-Utf8.is broken);
            calls = subst R (sym (step_calls-broken add b m w.in-Utf8.is broken))
                (Goes-append means c.args.performer.now mid last (print_answer (add m.accumulator b).1) (step_calls_from add Ground b (after_continuation add b m))
                w.continue_character.ensures.calls
                (subst S w.performer-is
                (subst Q
                (ap (λ s. step_calls_from add s b (machine_of c.match-self.self)) w.state-is
                ∙ ap (λ p. step_calls_from add Ground b (machine_of p)) w.self-is
                ∙ ap (λ n. step_calls_from add Ground b n) w.continue_character.ensures.machine)
                c.step_by_table.ensures.calls)));
          }
      | in_default w ↦
          let S : g.row.P.Denot → Type 0 = λ p. Goes means p (step_calls_from add c.args.self.now.state b m) last in
          record {
            machine = c.step_by_table.ensures.machine
                ∙ ap (λ s. step_from add s b (machine_of c.match-self.self)) w.state-is
                ∙ ap (λ p. step_from add c.args.self.now.state b (machine_of p)) w.self-is
                ∙ sym (step-at add c.args.self.now.state b m refl);
            calls = subst R (sym (step_calls-at add c.args.self.now.state b m refl))
                (subst S w.performer-is
                (subst Q
                (ap (λ s. step_calls_from add s b (machine_of c.match-self.self)) w.state-is
                ∙ ap (λ p. step_calls_from add c.args.self.now.state b (machine_of p)) w.self-is)
                c.step_by_table.ensures.calls));
          }
    ]
