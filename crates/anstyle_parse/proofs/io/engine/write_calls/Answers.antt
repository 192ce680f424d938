-- With no head and no tail.
use Rattle.std.proofs.Common.{[], ◌++◌, List, ℕ, refl, ◌∙◌, append-nil}
use Rattle.anstyle_parse.specs.Stream.Call.{Call}
use Rattle.anstyle_parse.proofs.Written.Run.{Runs-without_ending, Runs-same}
use Rattle.anstyle_parse.proofs.io.engine.write_calls.Goals as goal

pub returns-clause-runs : goal.returns-clause-runs
returns-clause-runs g c =
    let no_tail : List Call → List ℕ = λ calls. g.P.CallWriter.ending calls ++ [] in
    Runs-same g.row.R.Denot g.row.W.Denot (Unit {0}) g.R.Source g.W.Sink
    g.P.CallWriter.text no_tail g.P.CallWriter.text g.P.CallWriter.ending c.args.reader.now c.write_calls_between.new.reader c.args.writer c.write_calls_between.result
    (λ calls. refl) (λ calls. append-nil (g.P.CallWriter.ending calls)) c.write_calls_between.ensures.runs

pub returns-clause-without_ending : goal.returns-clause-without_ending
returns-clause-without_ending g c = λ none.
    let no_tail : List Call → List ℕ = λ calls. g.P.CallWriter.ending calls ++ [] in
    Runs-without_ending g.row.R.Denot g.row.W.Denot (Unit {0}) g.R.Source g.W.Sink
    g.P.CallWriter.text no_tail c.args.reader.now c.write_calls_between.new.reader c.args.writer c.write_calls_between.result
    (λ calls. append-nil (g.P.CallWriter.ending calls) ∙ none calls) c.write_calls_between.ensures.runs
