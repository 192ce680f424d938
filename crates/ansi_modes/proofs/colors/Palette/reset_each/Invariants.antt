-- The parts that are left make the same of the palette as all of them did.
use Rattle.std.proofs.Common.{◌≡◌, map, drop}
use Rattle.ansi_modes.specs.Colors.{without_each}
use Rattle.ansi_modes.proofs.colors.Palette.reset_each.Given as goal

abbrev pub invariant-loop-part : goal.invariant-loop-part
invariant-loop-part l =
    without_each (map (λ part. part.now) (drop l.part-index l.parts)) l.self ≡ without_each (map (λ part. part.now) l.parts) l.initial.self
