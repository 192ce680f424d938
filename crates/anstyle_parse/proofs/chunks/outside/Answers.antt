use Rattle.anstyle_parse.proofs.Machine.Lanes.{mask-outside}
use Rattle.anstyle_parse.proofs.chunks.outside.Goals as goal

pub returns : goal.returns
returns c = mask-outside c.args.first c.args.count c.requires.some c.requires.within c.args.bytes c.fits-bytes.0 c.fits-bytes.1
