-- The attributes of a style, each as a number.
use Rattle.std.specs.Prelude.{ℕ, Bool, List, [], ◌∷◌, if◌then◌else◌}
use Rattle.ansi_style.specs.declared.style.Style.{Style}

-- 1 for an attribute that a style has, and 0 for another
abbrev pub bit : Bool → ℕ
bit has = if has then 1 else 0

abbrev pub attributes_of : Style → List ℕ
attributes_of style =
    bit style.bold
    ∷ bit style.dim
    ∷ bit style.italic
    ∷ bit style.blink
    ∷ bit style.reverse
    ∷ bit style.hidden
    ∷ bit style.struck_out
    ∷ bit style.overlined
    ∷ []
