use Rattle.std.proofs.Common.{refl}
use Rattle.parselog.proofs.NormalLemmas.{Normalises-run}
use Rattle.parselog.proofs.run.run.Goals as goal

pub returns-in-Canon-clause-normalises : goal.returns-in-Canon-clause-normalises
returns-in-Canon-clause-normalises g c = λ canonical.
    Normalises-run g.row.R.Denot g.row.W.Denot (Unit {0}) g.R.Source g.W.Sink
    c.args.reader.now c.write_calls-in-Canon.new.reader c.args.writer c.write_calls-in-Canon.result (c.write_calls-in-Canon.ensures.without_ending (λ calls. refl))
