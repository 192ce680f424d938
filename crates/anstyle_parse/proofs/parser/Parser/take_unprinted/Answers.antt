use Rattle.std.proofs.Common.{subst, List, ℕ, ◌∷◌, sym, ◌∙◌}
use Rattle.anstyle_parse.specs.Views.Parser.{CanTakeAll}
use Rattle.anstyle_parse.proofs.Machine.Runs.{change_at-control, LeadsTo-byte, LeadsTo-same, LeadsTo-first, LeadsTo-quiet}
use Rattle.anstyle_parse.proofs.parser.Parser.take_unprinted.Goals as goal

pub step_by_answer-requires-clause-known : goal.step_by_answer-requires-clause-known
step_by_answer-requires-clause-known g c = change_at-control c.args.self.now.state c.in-Some.first.now c.requires.ground c.if-first-lt-CANCEL.true

pub returns-then-first-lt-CANCEL-clause-leads : goal.returns-then-first-lt-CANCEL-clause-leads
returns-then-first-lt-CANCEL-clause-leads g c =
    let n = g.C.CharAccumulator in
    let means = g.P.Perform.means in
    LeadsTo-first n.takes n.taken means c.in-Some.ensures.cases.0 (LeadsTo-same n.takes n.taken means c.args.self.now c.args.performer.now c.args.bytes.now c.requires.can)
    (λ can. LeadsTo-byte n.takes n.taken means c.args.self.now c.step_by_answer.new.self c.args.performer.now c.step_by_answer.new.performer
    c.in-Some.first.now c.in-Some.behind.now can c.step_by_answer.ensures)

pub take_by_table-requires : goal.take_by_table-requires
take_by_table-requires g c =
    let Q : List ℕ → Type 0 = λ left. CanTakeAll g.C.CharAccumulator.takes c.args.self.now left in
    subst Q c.in-Some-split_first.ensures.cases.0 c.take_characters-rest.ensures.can

pub returns-clause-leads : goal.returns-clause-leads
returns-clause-leads g c =
    LeadsTo-first g.C.CharAccumulator.takes g.C.CharAccumulator.taken g.P.Perform.means c.in-Some-split_first.ensures.cases.0 c.take_characters-rest.ensures
    (λ can. c.take_by_table.ensures.leads)

pub take_nothing-requires-clause-nothing : goal.take_nothing-requires-clause-nothing
take_nothing-requires-clause-nothing g c = sym c.begins_nothing.ensures ∙ c.if-begins_nothing.true

pub returns-then-begins_nothing-clause-leads : goal.returns-then-begins_nothing-clause-leads
returns-then-begins_nothing-clause-leads g c =
    let n = g.C.CharAccumulator in
    let means = g.P.Perform.means in
    let first = c.in-Some.first.now in
    let behind = c.in-Some.behind.now in
    LeadsTo-first n.takes n.taken means c.in-Some.ensures.cases.0 (LeadsTo-same n.takes n.taken means c.args.self.now c.args.performer.now c.args.bytes.now c.requires.can)
    (λ can. LeadsTo-quiet n.takes n.taken means c.args.self.now c.args.self.now c.args.performer.now (first ∷ behind) c.take_nothing.result.now c.take_nothing.ensures.leads)
