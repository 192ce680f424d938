use Rattle.ansi_strip.specs.Driving.{is_clear}
use Rattle.ansi_strip.proofs.PassLemmas.{PassTo_then, PassTo_all}
use Rattle.ansi_strip.proofs.clear.is_long_clear.Goals as goal

pub returns : goal.returns
returns c = λ is.
    let bytes = c.args.bytes.now in
    PassTo_all is_clear bytes c.after_blocks-few.result.now
    (PassTo_then is_clear bytes c.after_blocks-rest.result.now c.after_blocks-few.result.now c.after_blocks-rest.ensures c.after_blocks-few.ensures) (c.is_short_clear.ensures is)
