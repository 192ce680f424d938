-- The size that an option names, and the file that is read.
use Rattle.std.specs.Prelude.{◌≡◌, ℕ, List, [], ◌∷◌, Option, None, Some, Result, Ok, MatchResult, codes}
use Rattle.ansi_screen.specs.declared.size.Size.{Size}
use Rattle.ansi_screen.specs.Size.{IsSaid}
use Rattle.screen_text.specs.declared.option.NoSize.{NoSize}

-- the file that is read: standard input's where none is named, and none where more than one is
abbrev pub file_of : (files : List (List ℕ)) → Option (List ℕ)
file_of [] = Some (codes "-")
file_of (file ∷ []) = Some file
file_of (file ∷ other ∷ files) = None

-- what is made of the text after --size=: with none no size is given, and else the one that it says, where it says one
abbrev pub IsNamed : (text : Option (List ℕ)) → Result (Option Size) NoSize → Type 0
IsNamed None named = named ≡ Ok None
IsNamed (Some text) named =
    MatchResult named (λ size. (said : Size) × (size ≡ Some said) × IsSaid text (Some said)) (λ error. IsSaid text None)
