-- The cursor's shape, and whether it blinks.
--
-- Sources: xterm's ctlseqs, "Functions using CSI", DECSCUSR; the VT510 manual, DECSCUSR. That 12 and DECSCUSR speak of
-- one blinking, and that a number above 6 changes nothing: xterm 379, asked by DECRQSS and DECRQM.
use Rattle.std.specs.Prelude.{ℕ, Bool, true, false, Option, ◌==◌, List, [], ◌∷◌}
use Rattle.std.specs.Map.{lookup}
use Rattle.ansi_modes.specs.declared.cursor.Shape.{Shape}
use Rattle.ansi_modes.specs.declared.cursor.Shape.TheVariants.{Own, Block, Underline, Bar}

-- DECSCUSR: the shape, and whether it blinks. 0 asks for the terminal's own shape.
abbrev pub shapes : List (ℕ × (Shape × Bool))
shapes =
    (0, (Own, true)) ∷ (1, (Block, true)) ∷ (2, (Block, false)) ∷ (3, (Underline, true)) ∷ (4, (Underline, false)) ∷
    (5, (Bar, true)) ∷ (6, (Bar, false)) ∷ []

unfoldable pub shape_of : ℕ → Option (Shape × Bool)
shape_of number = lookup (λ known. number == known) shapes
