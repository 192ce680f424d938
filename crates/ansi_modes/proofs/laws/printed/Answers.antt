-- Character by character.
use Rattle.std.proofs.Common.{sym}
use Rattle.ansi_modes.specs.AskedProof.{prints-quiet}
use Rattle.ansi_modes.proofs.laws.printed.Goals as goal

pub returns : goal.returns
returns c = λ asked text. sym (prints-quiet text asked)
