-- What the head adds counts as written by the run, and a new performer's text is that of its type.
use Rattle.std.proofs.Common.{◌++◌, ℕ, List, ap, sym, subst}
use Rattle.anstyle_parse.specs.Stream.Call.{Call}
use Rattle.anstyle_parse.specs.Io.Output.{Adds}
use Rattle.anstyle_parse.specs.Io.Run.{RunsToEnding}
use Rattle.anstyle_parse.proofs.Written.Run.{Runs-same}
use Rattle.anstyle_parse.proofs.io.engine.write_calls_between.Goals as goal

pub returns-clause-runs : goal.returns-clause-runs
returns-clause-runs g c =
    let R = g.row.R.Denot in
    let W = g.row.W.Denot in
    let head = c.args.head.now in
    let tail = c.args.tail.now in
    let start = c.new-output.result in
    let performer = c.over.result in
    let text : List Call → List ℕ = λ calls. head ++ g.P.CallWriter.text calls in
    let ending : List Call → List ℕ = λ calls. g.P.CallWriter.ending calls ++ tail in
    let its_text : List Call → List ℕ = λ calls. head ++ g.P.WritingPerformer.text_from performer calls in
    let its_ending : List Call → List ℕ = λ calls. g.P.WritingPerformer.ending_from performer calls ++ tail in
    let Ran : W → Type 0 = λ w. RunsToEnding {R = R} {W = W} {T = Unit {0}} g.R.Source g.W.Sink text ending
    c.args.reader.now c.write_calls_by.new.reader w c.write_calls_by.result in
    subst Ran c.new-output.ensures.writer
    (Runs-same R W (Unit {0}) g.R.Source g.W.Sink its_text its_ending text ending
    c.args.reader.now c.write_calls_by.new.reader start.writer c.write_calls_by.result
    (λ calls. ap (λ t. head ++ t) (g.met.P.CallWriter.text_of_new performer c.over.ensures.new calls))
    (λ calls. ap (λ t. t ++ tail) (g.met.P.CallWriter.ending_of_new performer c.over.ensures.new calls))
    (c.write_calls_by.ensures.runs start head c.new-output.ensures.no_fault
    (subst (λ output. Adds g.W.Sink head start output) (sym c.over.ensures.output) c.put.ensures)))
