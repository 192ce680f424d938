-- Values that are written as they are.
use Rattle.std.proofs.Common.{ℕ, ◌*◌, Bool, ◌++◌, codes, decimal, refl}
use Rattle.ansi_html.proofs.ColorLemmas.{choose}
use Rattle.ansi_html.proofs.DeclarationLemmas.{is_safe, AreSafe, AreSafe-append}
use Rattle.ansi_html.proofs.LineTagLemmas.{AreSafe-decimal}
use Rattle.screen_svg.specs.Picture.{pair, units_high, corner, view}

pub AreSafe-pair : (first second : ℕ) → AreSafe (pair first second)
unfolding is_safe
AreSafe-pair first second =
    AreSafe-append (decimal first) (codes " " ++ decimal second) (AreSafe-decimal first) (AreSafe-append (codes " ") (decimal second) refl (AreSafe-decimal second))

pub AreSafe-view : (window : Bool) (columns rows : ℕ) → AreSafe (view window columns rows)
unfolding is_safe
AreSafe-view window columns rows =
    AreSafe-append (corner window) (pair (10 * columns) (units_high window rows))
    (choose AreSafe window (codes "0 -30 ") (codes "0 0 ") refl refl) (AreSafe-pair (10 * columns) (units_high window rows))
