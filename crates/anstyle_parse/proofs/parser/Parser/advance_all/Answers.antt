use Rattle.std.proofs.Common.{arith, subst, sym, List, [], ◌∷◌, ◌++◌}
use Rattle.anstyle_parse.specs.Stream.Bytes.{escape_byte}
use Rattle.anstyle_parse.specs.Machine.Step.{Machine, IsWithinLimits, machine_calls}
use Rattle.anstyle_parse.specs.Views.Parser.{machine_of}
use Rattle.anstyle_parse.proofs.Machine.Limits.{IsWithinLimits-machine, IsWithinLimits-parser}
use Rattle.anstyle_parse.proofs.Streams.{CanTakeAll-may, bytes_below, IsAfter-taken, Continues-taken, IsAfterAscii-taken, Continues-ascii}
use Rattle.anstyle_parse.specs.Stream.Call.{Call, Goes}
use Rattle.anstyle_parse.proofs.Canonical.Twice.{Continues-replay}
use Rattle.anstyle_parse.specs.Machine.Stands.{seen, unseen}
use Rattle.anstyle_parse.proofs.Lawful.Calls.{lawful}
use Rattle.anstyle_parse.proofs.Canonical.Items.{AreCalls-nil}
use Rattle.anstyle_parse.proofs.Agreement.Forgotten.{forgotten, cancelled_is_new}
use Rattle.anstyle_parse.proofs.Headline.{AreCalls-escape, HasReceived-more}
use Rattle.anstyle_parse.proofs.parser.Parser.advance_all.Goals as goal

pub take_bytes-requires : goal.take_bytes-requires
take_bytes-requires g c =
    let n = g.C.CharAccumulator in
    CanTakeAll-may n.front n.takes n.adds n.taken n.decodes g.met.C.CharAccumulator.follows c.args.self.now c.args.bytes.now c.requires

pub returns-clause-stands : goal.returns-clause-stands
returns-clause-stands g c = λ before decodes stands.
    let n = g.C.CharAccumulator in
    let below = bytes_below c.args.bytes.now (λ i. omega (arith, c.type_inv.bytes i)) in
    IsAfter-taken n.front n.takes n.adds n.taken (g.met.C.CharAccumulator.follows decodes) c.args.self.now c.take_bytes.new.self c.args.bytes.now below c.take_bytes.ensures.machine before stands

pub returns-clause-stream : goal.returns-clause-stream
returns-clause-stream g c = λ before decodes stands.
    let n = g.C.CharAccumulator in
    let below = bytes_below c.args.bytes.now (λ i. omega (arith, c.type_inv.bytes i)) in
    Continues-taken n.front n.takes n.adds n.taken (g.met.C.CharAccumulator.follows decodes) c.args.self.now c.take_bytes.new.self c.args.bytes.now below c.take_bytes.ensures.machine before stands

pub returns-clause-received : goal.returns-clause-received
returns-clause-received g c = λ first before decodes stands.
    HasReceived-more g.P.Perform.means first c.args.performer.now c.take_bytes.new.performer before c.args.bytes.now
    (machine_calls g.C.CharAccumulator.taken c.args.bytes.now (machine_of c.args.self.now))
    (returns-clause-stream g c before decodes stands) c.take_bytes.ensures.calls

pub returns-clause-forgotten : goal.returns-clause-forgotten
returns-clause-forgotten g c = λ before decodes stands.
    let m = seen g.C.CharAccumulator.front (machine_of c.args.self.now) in
    returns-clause-stream g c (escape_byte ∷ []) decodes (forgotten m before stands) [] AreCalls-escape

pub returns-clause-cancelled : goal.returns-clause-cancelled
returns-clause-cancelled g c = λ before cancel decodes is stands.
    let m = seen g.C.CharAccumulator.front (machine_of c.args.self.now) in
    returns-clause-stream g c [] decodes (cancelled_is_new m before cancel is stands) [] AreCalls-nil

pub returns-clause-ascii_stands : goal.returns-clause-ascii_stands
returns-clause-ascii_stands g c = λ before below stands.
    IsAfterAscii-taken g.C.CharAccumulator.taken c.args.self.now c.take_bytes.new.self c.args.bytes.now below c.take_bytes.ensures.machine before stands

pub returns-clause-ascii_stream : goal.returns-clause-ascii_stream
returns-clause-ascii_stream g c = λ before below stands.
    Continues-ascii g.C.CharAccumulator.taken c.args.self.now c.take_bytes.new.self c.args.bytes.now below c.take_bytes.ensures.machine before stands

pub returns-clause-ascii_escape : goal.returns-clause-ascii_escape
returns-clause-ascii_escape g c = λ before below stands.
    let m = unseen (machine_of c.args.self.now) in
    returns-clause-ascii_stream g c (escape_byte ∷ []) below ((omega arith, tt), forgotten m before stands.1) [] AreCalls-escape

pub returns-clause-ascii_cancel : goal.returns-clause-ascii_cancel
returns-clause-ascii_cancel g c = λ before cancel below is stands.
    let m = unseen (machine_of c.args.self.now) in
    returns-clause-ascii_stream g c [] below (tt, cancelled_is_new m before cancel is stands.1) [] AreCalls-nil

pub returns-clause-limits : goal.returns-clause-limits
returns-clause-limits g c =
    let P : Machine g.row.C.Denot → Type 0 = λ m. IsWithinLimits m in
    subst P (sym c.take_bytes.ensures.machine)
    (IsWithinLimits-machine g.C.CharAccumulator.taken c.args.bytes.now (machine_of c.args.self.now)
    (IsWithinLimits-parser c.args.self.now (omega arith)))

pub returns-clause-lawful : goal.returns-clause-lawful
returns-clause-lawful g c = λ before first decodes stands are.
    lawful (before ++ c.args.bytes.now) (first ++ machine_calls g.C.CharAccumulator.taken c.args.bytes.now (machine_of c.args.self.now))
    (returns-clause-stream g c before decodes stands first are)

pub returns-clause-replay : goal.returns-clause-replay
returns-clause-replay g c = λ calls decodes stands h e.
    let Q : List Call → Type 0 = λ l. Goes g.P.Perform.means c.args.performer.now l c.take_bytes.new.performer in
    subst Q
    (Continues-replay c.args.bytes.now (machine_calls g.C.CharAccumulator.taken c.args.bytes.now (machine_of c.args.self.now)) calls
    (returns-clause-stream g c [] decodes stands) h e)
    c.take_bytes.ensures.calls
