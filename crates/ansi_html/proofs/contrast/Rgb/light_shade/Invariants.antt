-- The shade is that of the shares that are left.
use Rattle.std.proofs.Common.{◌≡◌, ◌≤◌}
use Rattle.ansi_html.specs.Contrast.{light_from, light_shade}
use Rattle.ansi_html.proofs.contrast.Rgb.light_shade.Given as goal

abbrev pub invariant-shares : goal.invariant-shares
invariant-shares l = record {
  most : l.share ≤ 16;
  left : light_from l.share l.self ≡ light_shade l.self;
}

abbrev pub decreases-shares : goal.decreases-shares
decreases-shares l = l.share
