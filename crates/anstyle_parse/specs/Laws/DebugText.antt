-- The plain Debug text of parameters.
use Rattle.std.specs.Prelude.{ℕ, List, [], ◌∷◌, ◌++◌}
use Rattle.anstyle_parse.specs.Stream.Groups.{groups_text}

-- 5B, the fields in decimal: 3A between the fields of a group, 3B between groups; then 5D
abbrev pub debug_text : List (List ℕ) → List ℕ
debug_text groups = 0x5B ∷ (groups_text groups ++ 0x5D ∷ [])
