use Rattle.ansi_screen.proofs.EqualityLemmas.{equal_cells, equal_places}
use Rattle.ansi_screen.proofs.laws.equality.Goals as goal

pub returns-clause-cells : goal.returns-clause-cells
returns-clause-cells c = equal_cells

pub returns-clause-places : goal.returns-clause-places
returns-clause-places c = equal_places
