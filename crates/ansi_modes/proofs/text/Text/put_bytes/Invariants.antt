-- The characters so far were taken.
use Rattle.std.proofs.Common.{◌≡◌}
use Rattle.ansi_modes.specs.Text.{with_characters}
use Rattle.ansi_modes.proofs.text.Text.put_bytes.Given as goal

abbrev pub invariant-loop-c : goal.invariant-loop-c
invariant-loop-c l = l.self ≡ with_characters l.yielded l.initial.self
