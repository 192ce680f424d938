use Rattle.ansi_strip.proofs.LineFeedLemmas.{mask-returns}
use Rattle.ansi_strip.proofs.returns.returns.Goals as goal

pub returns : goal.returns
returns c = mask-returns c.args.bytes c.fits-bytes.0
