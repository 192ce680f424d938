use Rattle.anstyle_parse.specs.Io.AddingProof.{Adds-canon}
use Rattle.anstyle_parse.proofs.laws.canonical_text.Goals as goal

pub returns : goal.returns
returns g c = Adds-canon g.W.Sink
