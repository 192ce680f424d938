-- The line says what its rest says.
use Rattle.std.proofs.Common.{◌≡◌, length}
use Rattle.screen_text.specs.Recording.{size_of_line}
use Rattle.screen_text.proofs.recording.size_of_line.Given as goal

abbrev pub invariant-rest : goal.invariant-rest
invariant-rest l = size_of_line l.line ≡ size_of_line l.rest

abbrev pub decreases-rest : goal.decreases-rest
decreases-rest l = length l.rest
