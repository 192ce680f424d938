use Rattle.ansi_strip.specs.Driving.{is_clear}
use Rattle.ansi_strip.proofs.PassLemmas.{PassTo_then}
use Rattle.ansi_strip.proofs.driving.from_beginning.Goals as goal

pub returns : goal.returns
returns c =
    let bytes = c.args.bytes.now in
    PassTo_then is_clear bytes c.after_blocks-few.result.now c.after_bytes.result.now
    (PassTo_then is_clear bytes c.after_blocks-rest.result.now c.after_blocks-few.result.now c.after_blocks-rest.ensures c.after_blocks-few.ensures) c.after_bytes.ensures
