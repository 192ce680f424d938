use Rattle.anstyle_parse.proofs.Counted.{Goes-sum, Goes-number}
use Rattle.anstyle_parse.proofs.laws.counted.Goals as goal

pub returns-clause-sum : goal.returns-clause-sum
returns-clause-sum g c = λ count weight limit adds. Goes-sum g.P.Perform.means count limit weight adds

pub returns-clause-number : goal.returns-clause-number
returns-clause-number g c = λ count limit adds. Goes-number g.P.Perform.means count limit adds
