use Rattle.safe_text.proofs.MaskLemmas.{mask-others}
use Rattle.safe_text.proofs.plain.PlainKind.others.Goals as goal

pub returns : goal.returns
returns c = mask-others c.args.bytes c.fits-bytes.0 c.fits-bytes.1
