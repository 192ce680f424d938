-- A run is what its output took before, what its performer received and how it ended.
use Rattle.std.proofs.Common.{◌++◌, [], ℕ, List, is_some, IsTrue, refl, sym, ap, ◌∙◌}
use Rattle.std.specs.Io.KnownBytes.{IsAtEnd}
use Rattle.anstyle_parse.specs.Stream.Call.{Call}
use Rattle.anstyle_parse.specs.Io.Output.{Adds, fault_in}
use Rattle.anstyle_parse.proofs.Written.Run.{StopsAs-no_read, Adds-unless_stopped, Adds-no_fault, Runs-ended, Runs-failed, Runs-stopped}
use Rattle.anstyle_parse.proofs.Written.Output.{Adds-append}
use Rattle.anstyle_parse.proofs.io.engine.write_calls_by.Goals as goal

pub returns-then-is_some-clause-runs : goal.returns-then-is_some-clause-runs
returns-then-is_some-clause-runs g c = λ start head none added.
    let performer = c.args.performer in
    let text : List Call → List ℕ = λ calls. head ++ g.P.WritingPerformer.text_from performer calls in
    let ending : List Call → List ℕ = λ calls. g.P.WritingPerformer.ending_from performer calls ++ c.args.tail.now in
    Runs-stopped g.row.R.Denot g.row.W.Denot (Unit {0}) g.R.Source g.W.Sink
    text ending head (g.P.WritingPerformer.text_from performer []) (g.P.WritingPerformer.ending_from performer []) c.args.reader.now
    start (g.P.WritingPerformer.output_in performer) c.into_output.result c.finish.result.0 c.finish.result.1
    refl (sym (c.is_some.ensures ∙ ap is_some (c.fault.ensures ∙ ap fault_in c.output.ensures)) ∙ c.if-is_some.true)
    none added c.into_output.ensures c.finish.ensures.finishes

pub returns-in-AtRead-clause-runs : goal.returns-in-AtRead-clause-runs
returns-in-AtRead-clause-runs g c = λ start head none added.
    let R = g.row.R.Denot in
    let W = g.row.W.Denot in
    let sink = g.W.Sink in
    let d = c.in-AtRead.ensures in
    let performer = c.args.performer in
    let after = c.drive-stop.new.performer in
    let begun = g.P.WritingPerformer.output_in performer in
    let middle = g.P.WritingPerformer.output_in after in
    let ended = c.into_output-output.result in
    let final = c.put.new.self in
    let written = g.P.WritingPerformer.text_from performer d.calls in
    let left = g.P.WritingPerformer.ending_from performer d.calls in
    let text : List Call → List ℕ = λ calls. head ++ g.P.WritingPerformer.text_from performer calls in
    let ending : List Call → List ℕ = λ calls. g.P.WritingPerformer.ending_from performer calls ++ c.args.tail.now in
    let performed : Adds sink written begun middle = g.met.P.WritingPerformer.adds performer d.calls after d.received in
    let own : Adds sink left middle ended =
    Adds-unless_stopped R W (Unit {0}) g.R.Source sink (g.P.WritingPerformer.ending_from after []) left middle ended
    (λ clear. g.met.P.WritingPerformer.ends performer d.calls after d.received clear) c.into_output-output.ensures in
    Runs-failed R W (Unit {0}) g.R.Source sink text ending c.args.reader.now c.drive-stop.new.reader
    start middle final c.finish-writer.result.0 c.finish-writer.result.1 d.read d.calls d.consumed d.are_calls d.stops.1 none d.stops.0
    (Adds-append sink head written start begun middle added performed)
    (Adds-append sink left c.args.tail.now middle ended final own c.put.ensures)
    c.finish-writer.ensures.finishes

pub returns-in-AtEnd-clause-runs : goal.returns-in-AtEnd-clause-runs
returns-in-AtEnd-clause-runs g c = λ start head none added.
    let R = g.row.R.Denot in
    let W = g.row.W.Denot in
    let sink = g.W.Sink in
    let d = c.drive-stop.ensures in
    let performer = c.args.performer in
    let after = c.drive-stop.new.performer in
    let begun = g.P.WritingPerformer.output_in performer in
    let middle = g.P.WritingPerformer.output_in after in
    let ended = c.into_output-output.result in
    let final = c.put.new.self in
    let written = g.P.WritingPerformer.text_from performer d.calls in
    let left = g.P.WritingPerformer.ending_from performer d.calls in
    let text : List Call → List ℕ = λ calls. head ++ g.P.WritingPerformer.text_from performer calls in
    let ending : List Call → List ℕ = λ calls. g.P.WritingPerformer.ending_from performer calls ++ c.args.tail.now in
    let performed : Adds sink written begun middle = g.met.P.WritingPerformer.adds performer d.calls after d.received in
    let own : Adds sink left middle ended =
    Adds-unless_stopped R W (Unit {0}) g.R.Source sink (g.P.WritingPerformer.ending_from after []) left middle ended
    (λ clear. g.met.P.WritingPerformer.ends performer d.calls after d.received clear) c.into_output-output.ensures in
    let behind : Adds sink (ending d.calls) middle final = Adds-append sink left c.args.tail.now middle ended final own c.put.ensures in
    let stops = StopsAs-no_read c.drive-stop.result (IsTrue g.R.Source.zero_is_end → IsAtEnd (g.R.Source.remaining c.drive-stop.new.reader)) (fault_in middle)
    (g.R.Source.has_failed c.args.reader.now) (g.R.Source.has_failed c.drive-stop.new.reader) _ c.in-AtEnd.is d.stops in
    Runs-ended R W (Unit {0}) g.R.Source sink text ending c.args.reader.now c.drive-stop.new.reader
    start final c.finish-writer.result.0 c.finish-writer.result.1 d.read d.calls d.consumed d.are_calls stops.0
    (λ clear. stops.1 (Adds-no_fault R W (Unit {0}) g.R.Source sink (ending d.calls) middle final behind clear)) none
    (Adds-append sink (text d.calls) (ending d.calls) start middle final (Adds-append sink head written start begun middle added performed) behind)
    c.finish-writer.ensures.finishes
