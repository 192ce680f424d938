-- The parts that are left make the same of the text as all of them did.
use Rattle.std.proofs.Common.{◌≡◌, map, drop}
use Rattle.ansi_modes.specs.Text.{with_parts}
use Rattle.ansi_modes.proofs.text.Text.put_parts.Given as goal

abbrev pub invariant-loop-part : goal.invariant-loop-part
invariant-loop-part l =
    with_parts (map (λ part. part.now) (drop l.part-index l.parts)) l.self ≡ with_parts (map (λ part. part.now) l.parts) l.initial.self
