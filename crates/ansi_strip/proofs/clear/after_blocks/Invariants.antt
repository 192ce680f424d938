use Rattle.std.proofs.Common.{length}
use Rattle.ansi_strip.specs.Driving.{is_clear, PassTo}
use Rattle.ansi_strip.proofs.clear.after_blocks.Given as goal

abbrev pub invariant-many : goal.invariant-many
invariant-many g l = PassTo is_clear l.bytes l.rest

abbrev pub decreases-many : goal.decreases-many
decreases-many g l = length l.rest
