use Rattle.std.proofs.Common.{arith, sym, subst, append-nil, List, ℕ, ◌++◌, ◌∙◌}
use Rattle.std.specs.Prelude.{⊤}
use Rattle.anstyle_parse.specs.Stream.Calls.{AreCalls}
use Rattle.anstyle_parse.specs.Machine.AsRead.{as_read}
use Rattle.anstyle_parse.specs.Machine.Step.{machine_calls}
use Rattle.anstyle_parse.specs.Views.Accumulator.{front_of, parser_after, parser_added}
use Rattle.anstyle_parse.specs.Views.AsRead.{read_by}
use Rattle.anstyle_parse.specs.Views.DecodingProof.{Decodes-parser_after}
use Rattle.anstyle_parse.specs.Views.Parser.{machine_of, IsAfter}
use Rattle.anstyle_parse.proofs.Machine.AsReadStreams.{as_read-more, read_from-below}
use Rattle.anstyle_parse.proofs.Machine.Passing.{IsAfter-counted, Continues-calls}
use Rattle.anstyle_parse.proofs.Streams.{bytes_below}
use Rattle.anstyle_parse.proofs.parser.log.Parser+Utf8Parser.advance_log.Goals as goal

pub returns-clause-stands : goal.returns-clause-stands
returns-clause-stands g c = λ before stands.
    let below = bytes_below c.args.bytes.now (λ i. omega (arith, c.type_inv.bytes i)) in
    let old = c.args.self.now in
    let new = c.take_log.new.self in
    let read = read_by old c.args.bytes.now in
    let Q : List ℕ → Type 0 = λ l. IsAfter front_of new l in
    subst Q (sym (as_read-more old before c.args.bytes.now below stands))
    (IsAfter-counted front_of (λ _ _. ⊤) parser_added parser_after Decodes-parser_after old read
    (read_from-below parser_after (machine_of old) c.args.bytes.now below) (as_read before) stands new c.take_log.ensures.same)

pub returns-clause-calls : goal.returns-clause-calls
returns-clause-calls g c =
    let led = c.take_log.ensures in
    subst (λ calls. g.P.PerformText.receives c.args.performer.now calls c.take_log.new.performer) (sym (led.joined ∙ append-nil led.made)) led.received

pub returns-clause-received : goal.returns-clause-received
returns-clause-received g c = λ first before stands (calls, are, received).
    let below = bytes_below c.args.bytes.now (λ i. omega (arith, c.type_inv.bytes i)) in
    let old = c.args.self.now in
    let read = read_by old c.args.bytes.now in
    let more = machine_calls parser_after read (machine_of old) in (
      calls ++ more,
      subst (λ l. AreCalls l (calls ++ more)) (sym (as_read-more old before c.args.bytes.now below stands))
          (Continues-calls front_of (λ _ _. ⊤) parser_added parser_after Decodes-parser_after old read
          (read_from-below parser_after (machine_of old) c.args.bytes.now below) (as_read before) stands calls are),
      g.met.P.PerformText.follows.more first c.args.performer.now c.take_log.new.performer calls more received (returns-clause-calls g c),
    )
