use Rattle.std.proofs.Common.{length}
use Rattle.ansi_strip.specs.Driving.{is_clear, PassTo}
use Rattle.ansi_strip.proofs.driving.after_bytes.Given as goal

abbrev pub invariant-bytes : goal.invariant-bytes
invariant-bytes l = PassTo is_clear l.bytes l.rest

abbrev pub decreases-bytes : goal.decreases-bytes
decreases-bytes l = length l.rest
