use Rattle.std.proofs.Common.{arith, subst, sym, ◌++◌}
use Rattle.std.specs.Prelude.{⊤}
use Rattle.anstyle_parse.specs.declared.accumulator.Utf8Parser.{Utf8Parser}
use Rattle.anstyle_parse.specs.Machine.Step.{Machine, IsWithinLimits, machine_calls}
use Rattle.anstyle_parse.specs.Views.Accumulator.{front_of, parser_after, parser_added}
use Rattle.anstyle_parse.specs.Views.DecodingProof.{Decodes-parser_after}
use Rattle.anstyle_parse.specs.Views.Parser.{machine_of}
use Rattle.anstyle_parse.proofs.Machine.Limits.{IsWithinLimits-machine, IsWithinLimits-parser}
use Rattle.anstyle_parse.proofs.Streams.{bytes_below, IsAfter-taken, Continues-taken}
use Rattle.anstyle_parse.proofs.parser.texts.Parser+Utf8Parser.advance_texts.Goals as goal

pub returns-clause-stands : goal.returns-clause-stands
returns-clause-stands g c = λ before stands.
    let below = bytes_below c.args.bytes.now (λ i. omega (arith, c.type_inv.bytes i)) in
    IsAfter-taken front_of (λ _ _. ⊤) parser_added parser_after Decodes-parser_after c.args.self.now c.take_texts.new.self c.args.bytes.now below c.take_texts.ensures.machine before stands

pub returns-clause-stream : goal.returns-clause-stream
returns-clause-stream g c = λ before stands.
    let below = bytes_below c.args.bytes.now (λ i. omega (arith, c.type_inv.bytes i)) in
    Continues-taken front_of (λ _ _. ⊤) parser_added parser_after Decodes-parser_after c.args.self.now c.take_texts.new.self c.args.bytes.now below c.take_texts.ensures.machine before stands

pub returns-clause-received : goal.returns-clause-received
returns-clause-received g c = λ first before stands (calls, are, received).
    let more = machine_calls parser_after c.args.bytes.now (machine_of c.args.self.now) in (
      calls ++ more,
      returns-clause-stream g c before stands calls are,
      g.met.P.PerformText.follows.more first c.args.performer.now c.take_texts.new.performer calls more received c.take_texts.ensures.calls,
    )

pub returns-clause-limits : goal.returns-clause-limits
returns-clause-limits g c =
    let P : Machine Utf8Parser → Type 0 = λ m. IsWithinLimits m in
    subst P (sym c.take_texts.ensures.machine)
    (IsWithinLimits-machine parser_after c.args.bytes.now (machine_of c.args.self.now) (IsWithinLimits-parser c.args.self.now (omega arith)))
