-- So many are written.
use Rattle.std.proofs.Common.{◌≡◌, take, map}
use Rattle.screen_pieces.specs.Answers.{color_told}
use Rattle.screen_pieces.proofs.answers.put_colors.Given as goal

abbrev pub invariant-loop-place : goal.invariant-loop-place
invariant-loop-place l = take l.place l.colors ≡ map color_told (take l.place l.bytes)
