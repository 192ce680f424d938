use Rattle.ansi_strip.proofs.LaneLemmas.{mask-beginnings}
use Rattle.ansi_strip.proofs.driving.beginnings.Goals as goal

pub returns : goal.returns
returns g c = mask-beginnings g.row.N c.requires c.args.bytes c.fits-bytes.0
