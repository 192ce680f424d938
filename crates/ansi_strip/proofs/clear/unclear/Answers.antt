use Rattle.ansi_strip.proofs.LaneLemmas.{ends-clear}
use Rattle.ansi_strip.proofs.clear.unclear.Goals as goal

pub returns : goal.returns
returns g c = ends-clear g.row.N c.requires c.args.first c.args.last c.fits-first.0 c.fits-last.0
