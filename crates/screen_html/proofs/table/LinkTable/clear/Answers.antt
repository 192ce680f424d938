-- No place is written.
use Rattle.std.proofs.Common.{ap}
use Rattle.screen_html.specs.Links.{table}
use Rattle.screen_html.specs.Places.{all_kept}
use Rattle.screen_html.proofs.table.LinkTable.clear.Goals as goal

pub returns : goal.returns
returns c = ap (λ places. table (all_kept places) 100) c.clear.ensures.items
