-- The best of the cube and the greys so far.
use Rattle.std.proofs.Common.{◌≡◌}
use Rattle.ansi_html.specs.Nearest.{nearest_of}
use Rattle.ansi_html.proofs.contrast.Rgb.nearest.Given as goal

abbrev pub invariant-loop-grey : goal.invariant-loop-grey
invariant-loop-grey l = l.best ≡ nearest_of l.grey l.self
