use Rattle.std.proofs.Common.{ℕ, List, ◌∷◌, Bor}
use Rattle.anstyle_parse.specs.Stream.Characters.{BeginWithWhole}
use Rattle.anstyle_parse.specs.Views.Accumulator.{parser_after}
use Rattle.anstyle_parse.specs.Machine.Step.{IsWhole}
use Rattle.anstyle_parse.proofs.Characters.Whole.{IfSome-weaker, IsWhole-begins}
use Rattle.anstyle_parse.proofs.accumulator.Utf8ParserCharAccumulator.whole.Goals as goal

pub returns-in-Empty : goal.returns-in-Empty
returns-in-Empty c =
    IfSome-weaker (λ (answer : ℕ × Bor (List ℕ)). BeginWithWhole (c.args.first ∷ c.args.behind.now) answer.0 answer.1.now)
    (λ (answer : ℕ × Bor (List ℕ)). IsWhole parser_after c.args.self.now c.args.first c.args.behind.now answer.0 answer.1.now) c.whole.result
    (λ answer begins. IsWhole-begins c.args.self.now c.args.first c.args.behind.now answer.0 answer.1.now c.in-Empty.is begins) c.whole.ensures
