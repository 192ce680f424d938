-- No text has no control.
use Rattle.ansi_modes.proofs.TextLemmas.{inert_none}
use Rattle.ansi_modes.proofs.text.Text.clear.Goals as goal

pub invariant_of-self-inside : goal.invariant_of-self-inside
invariant_of-self-inside c = (rw c.clear.ensures inert_none, tt)
