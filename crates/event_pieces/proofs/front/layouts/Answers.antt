use Rattle.anstyle_parse.proofs.Machine.Lanes.{mask-layouts}
use Rattle.event_pieces.proofs.front.layouts.Goals as goal

pub returns : goal.returns
returns c = mask-layouts c.args.bytes c.fits-bytes.0
