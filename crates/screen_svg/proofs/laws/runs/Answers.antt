use Rattle.screen_svg.proofs.RunLemmas.{cells-runs, columns-runs, alike-runs}
use Rattle.screen_svg.proofs.laws.runs.Goals as goal

pub returns-clause-cells : goal.returns-clause-cells
returns-clause-cells c = cells-runs

pub returns-clause-columns : goal.returns-clause-columns
returns-clause-columns c = columns-runs

pub returns-clause-alike : goal.returns-clause-alike
returns-clause-alike c = alike-runs
