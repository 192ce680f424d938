use Rattle.std.proofs.Common.{◌≡◌, ◌∷◌, ◌++◌, Bool, List, ℕ, ap, sym, ◌∙◌, subst}
use Rattle.anstyle_parse.specs.Stream.Items.{EachIs}
use Rattle.anstyle_parse.specs.Views.AsRead.{LeadsAsReadTo}
use Rattle.anstyle_parse.specs.Views.Runs.{is_of_run}
use Rattle.anstyle_parse.specs.Views.Stage.{stage}
use Rattle.anstyle_parse.proofs.Machine.AsReadTo.{passed-front, LeadsAsReadTo-run}
use Rattle.anstyle_parse.proofs.parser.log.Parser+Utf8Parser.take_whole_read_run.Goals as goal

pub returns-clause-leads : goal.returns-clause-leads
returns-clause-leads g c =
    let n = g.P.PerformText in
    let m = g.met.P.PerformText in
    let test : ℕ → Bool = λ b. is_of_run c.args.run b in
    let few = c.split_at.result.0.now in
    let left = c.after_run-rest.result.now in
    let passes = c.after_run-rest.ensures in
    let same : few ≡ passes.passed = passed-front test c.args.behind.now left few passes c.split_at.ensures.front in
    let whole : c.args.behind.now ≡ few ++ left = passes.joined ∙ ap (λ l. l ++ left) (sym same) in
    let Leads : List ℕ → Type 0 = λ bytes. LeadsAsReadTo n.receives (stage c.args.self.now c.args.performer.now bytes) (stage c.args.self.now c.call_few.new.performer left) in
    subst Leads (ap (λ l. c.args.first ∷ l) (sym whole))
    (LeadsAsReadTo-run g.P.Perform.means n.receives m.follows c.args.self.now c.args.run c.requires.keeps c.args.performer.now c.call_few.new.performer
    (c.args.first ∷ few) left (c.requires.first, subst (EachIs test) (sym same) passes.each)
    (c.call.new.performer, c.call.ensures, c.call_few.ensures))
