-- No text has no control.
use Rattle.ansi_modes.proofs.TextLemmas.{inert_none}
use Rattle.ansi_modes.proofs.text.Text.new.Goals as goal

pub invariant_of-result : goal.invariant_of-result
invariant_of-result c = (rw c.new.ensures inert_none, tt)
