use Rattle.std.proofs.Common.{arith, sym, subst, append-nil, ◌++◌, ◌∙◌}
use Rattle.std.specs.Prelude.{⊤}
use Rattle.anstyle_parse.specs.Machine.Step.{machine_calls}
use Rattle.anstyle_parse.specs.Views.Accumulator.{front_of, parser_after, parser_added}
use Rattle.anstyle_parse.specs.Views.DecodingProof.{Decodes-parser_after}
use Rattle.anstyle_parse.specs.Views.Parser.{machine_of}
use Rattle.anstyle_parse.proofs.Machine.Passing.{IsAfter-counted, Continues-calls}
use Rattle.anstyle_parse.proofs.Streams.{bytes_below}
use Rattle.anstyle_parse.proofs.parser.passing.Parser+Utf8Parser.advance_heeded.Goals as goal

pub returns-clause-stands : goal.returns-clause-stands
returns-clause-stands g c = λ before stands.
    let below = bytes_below c.args.bytes.now (λ i. omega (arith, c.type_inv.bytes i)) in
    IsAfter-counted front_of (λ _ _. ⊤) parser_added parser_after Decodes-parser_after c.args.self.now c.args.bytes.now below before stands
    c.take_heeded.new.self c.take_heeded.ensures.same

pub returns-clause-stream : goal.returns-clause-stream
returns-clause-stream g c = λ before stands.
    let below = bytes_below c.args.bytes.now (λ i. omega (arith, c.type_inv.bytes i)) in
    Continues-calls front_of (λ _ _. ⊤) parser_added parser_after Decodes-parser_after c.args.self.now c.args.bytes.now below before stands

pub returns-clause-calls : goal.returns-clause-calls
returns-clause-calls g c =
    let led = c.take_heeded.ensures in
    subst (λ calls. g.P.PerformText.receives c.args.performer.now calls c.take_heeded.new.performer) (sym (led.joined ∙ append-nil led.made)) led.received

pub returns-clause-received : goal.returns-clause-received
returns-clause-received g c = λ first before stands (calls, are, received).
    let more = machine_calls parser_after c.args.bytes.now (machine_of c.args.self.now) in (
      calls ++ more,
      returns-clause-stream g c before stands calls are,
      g.met.P.PerformText.follows.more first c.args.performer.now c.take_heeded.new.performer calls more received (returns-clause-calls g c),
    )
