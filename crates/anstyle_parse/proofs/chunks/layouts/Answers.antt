use Rattle.anstyle_parse.proofs.Machine.Lanes.{mask-layouts}
use Rattle.anstyle_parse.proofs.chunks.layouts.Goals as goal

pub returns : goal.returns
returns c = mask-layouts c.args.bytes c.fits-bytes.0
