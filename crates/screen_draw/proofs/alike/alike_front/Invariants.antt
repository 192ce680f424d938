-- Those so far are the same.
use Rattle.std.proofs.Common.{◌≡◌, take, true}
use Rattle.screen_draw.specs.Alike.{all_two, are_alike}
use Rattle.screen_draw.proofs.alike.alike_front.Given as goal

abbrev pub invariant-loop-place : goal.invariant-loop-place
invariant-loop-place l = all_two are_alike (take l.place l.a) (take l.place l.b) ≡ true
