-- Those so far are the same.
use Rattle.std.proofs.Common.{◌≡◌, take, true}
use Rattle.std.specs.Bool.{beq}
use Rattle.screen_draw.specs.Alike.{all_two}
use Rattle.screen_draw.proofs.alike.are_same_stops.Given as goal

abbrev pub invariant-loop-column : goal.invariant-loop-column
invariant-loop-column l = all_two beq (take l.column l.a) (take l.column l.b) ≡ true
