use Rattle.ansi_html.proofs.ChunkLemmas.{mask-specials}
use Rattle.ansi_html.proofs.chunks.specials.Goals as goal

pub returns : goal.returns
returns c = mask-specials c.args.bytes c.fits-bytes.0
