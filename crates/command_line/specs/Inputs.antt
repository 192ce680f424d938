-- The inputs of a program.
use Rattle.std.specs.Prelude.{ℕ, Bool, List, [], ◌∷◌, codes}
use Rattle.command_line.specs.declared.input_files.Input.{Input}

-- whether it could not be opened, or a read has failed
abbrev pub input_failed : Input → Bool
input_failed input = input.has_failed

-- the name of the file, or -
abbrev pub name_of : Input → List ℕ
name_of input = input.name.now

-- the names that are read: with none, standard input's
abbrev pub names_read : List (List ℕ) → List (List ℕ)
names_read [] = codes "-" ∷ []
names_read (name ∷ names) = name ∷ names
