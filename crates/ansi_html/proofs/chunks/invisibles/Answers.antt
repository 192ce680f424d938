use Rattle.ansi_html.proofs.ChunkLemmas.{mask-invisibles}
use Rattle.ansi_html.proofs.chunks.invisibles.Goals as goal

pub returns : goal.returns
returns c = mask-invisibles c.args.bytes c.fits-bytes.0
