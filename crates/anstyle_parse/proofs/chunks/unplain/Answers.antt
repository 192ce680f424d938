use Rattle.anstyle_parse.proofs.Machine.Lanes.{mask-unplain}
use Rattle.anstyle_parse.proofs.chunks.unplain.Goals as goal

pub returns : goal.returns
returns c = mask-unplain c.args.bytes c.fits-bytes.0 c.fits-bytes.1
