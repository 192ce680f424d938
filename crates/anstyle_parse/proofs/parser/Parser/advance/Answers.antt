use Rattle.std.proofs.Common.{List, ◌∷◌, [], subst, sym, arith}
use Rattle.std.proofs.lemmas.List.{append-nil}
use Rattle.anstyle_parse.specs.Stream.Call.{Call}
use Rattle.anstyle_parse.specs.Stream.Calls.{Continues}
use Rattle.anstyle_parse.specs.Machine.Step.{Machine, IsWithinLimits, step_calls}
use Rattle.anstyle_parse.specs.Views.Parser.{machine_of}
use Rattle.anstyle_parse.proofs.Machine.CallCounts.{step_calls-few, step_calls-two}
use Rattle.anstyle_parse.proofs.Headline.{HasReceived-more}
use Rattle.anstyle_parse.proofs.Machine.Limits.{IsWithinLimits-step, IsWithinLimits-parser}
use Rattle.anstyle_parse.proofs.Streams.{CanTake-may, IsAfter-taken, Continues-taken, IsAfterAscii-taken, Continues-ascii}
use Rattle.anstyle_parse.proofs.parser.Parser.advance.Goals as goal

pub step-requires : goal.step-requires
step-requires g c =
    let n = g.C.CharAccumulator in
    CanTake-may n.front n.takes n.adds n.taken n.decodes g.met.C.CharAccumulator.follows c.args.self.now c.args.byte (omega arith) c.requires

pub returns-clause-stands : goal.returns-clause-stands
returns-clause-stands g c = λ before decodes stands.
    let n = g.C.CharAccumulator in
    IsAfter-taken n.front n.takes n.adds n.taken (g.met.C.CharAccumulator.follows decodes) c.args.self.now c.step.new.self (c.args.byte ∷ []) (omega arith, tt) c.step.ensures.machine before stands

pub returns-clause-stream : goal.returns-clause-stream
returns-clause-stream g c = λ before decodes stands.
    let n = g.C.CharAccumulator in
    let Q : List Call → Type 0 = λ calls. Continues before (c.args.byte ∷ []) calls in
    subst Q (append-nil (step_calls n.taken c.args.byte (machine_of c.args.self.now)))
    (Continues-taken n.front n.takes n.adds n.taken (g.met.C.CharAccumulator.follows decodes) c.args.self.now c.step.new.self (c.args.byte ∷ []) (omega arith, tt) c.step.ensures.machine before stands)

pub returns-clause-received : goal.returns-clause-received
returns-clause-received g c = λ first before decodes stands.
    HasReceived-more g.P.Perform.means first c.args.performer.now c.step.new.performer before (c.args.byte ∷ [])
    (step_calls g.C.CharAccumulator.taken c.args.byte (machine_of c.args.self.now))
    (returns-clause-stream g c before decodes stands) c.step.ensures.calls

pub returns-clause-ascii_stands : goal.returns-clause-ascii_stands
returns-clause-ascii_stands g c = λ before below stands.
    IsAfterAscii-taken g.C.CharAccumulator.taken c.args.self.now c.step.new.self (c.args.byte ∷ []) (below, tt) c.step.ensures.machine before stands

pub returns-clause-ascii_stream : goal.returns-clause-ascii_stream
returns-clause-ascii_stream g c = λ before below stands.
    let adds = g.C.CharAccumulator.taken in
    let Q : List Call → Type 0 = λ calls. Continues before (c.args.byte ∷ []) calls in
    subst Q (append-nil (step_calls adds c.args.byte (machine_of c.args.self.now)))
    (Continues-ascii adds c.args.self.now c.step.new.self (c.args.byte ∷ []) (below, tt) c.step.ensures.machine before stands)

pub returns-clause-few : goal.returns-clause-few
returns-clause-few g c = step_calls-few g.C.CharAccumulator.taken c.args.byte (machine_of c.args.self.now)

pub returns-clause-two : goal.returns-clause-two
returns-clause-two g c = step_calls-two g.C.CharAccumulator.taken c.args.byte (machine_of c.args.self.now)

pub returns-clause-limits : goal.returns-clause-limits
returns-clause-limits g c =
    let P : Machine g.row.C.Denot → Type 0 = λ m. IsWithinLimits m in
    subst P (sym c.step.ensures.machine)
    (IsWithinLimits-step g.C.CharAccumulator.taken c.args.byte (machine_of c.args.self.now)
    (IsWithinLimits-parser c.args.self.now (omega arith)))
