use Rattle.ansi_html.proofs.ChunkLemmas.{mask-not_verbatim}
use Rattle.ansi_html.proofs.verbatim.VerbatimKind.others.Goals as goal

pub returns : goal.returns
returns c = mask-not_verbatim c.args.bytes c.fits-bytes.0 c.fits-bytes.1
