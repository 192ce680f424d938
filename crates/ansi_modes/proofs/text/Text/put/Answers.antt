-- One character more leaves the text without controls.
use Rattle.std.proofs.Common.{sym, ◌∙◌}
use Rattle.ansi_modes.proofs.TextLemmas.{inert_more}
use Rattle.ansi_modes.proofs.text.Text.put.Goals as goal

pub invariant_of-self-inside : goal.invariant_of-self-inside
invariant_of-self-inside c =
    (rw c.push.ensures.bytes (inert_more c.args.c c.self.inside.text.bytes c.ranges.c.0 (sym c.is_shown.ensures ∙ c.if-is_shown.true) c.self.inside.inert), tt)
