-- The rows so far are alike.
use Rattle.std.proofs.Common.{◌≡◌, ◌*◌, take, true}
use Rattle.screen_draw.specs.Alike.{all_two, are_alike}
use Rattle.screen_draw.specs.Buffers.{cells_of}
use Rattle.screen_draw.proofs.alike.are_buffers_alike.Given as goal

abbrev pub invariant-loop-row : goal.invariant-loop-row
invariant-loop-row l =
    all_two are_alike (take (l.row * l.a.display.width) (cells_of l.buffer l.a.display))
    (take (l.row * l.a.display.width) (cells_of l.buffer l.b.display)) ≡ true
