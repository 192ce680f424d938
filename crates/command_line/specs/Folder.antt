-- An output for each file, in a folder.
--
-- Source: POSIX.1-2024, XBD 4.16 (pathname resolution: what ends in a slash is a directory; . and .. name none by
-- itself).
use Rattle.std.specs.Prelude.{◌≡◌, ℕ, Bool, nat_eq, List, [], ◌∷◌, ◌++◌, map, codes, bytes_eq, Option, None, Some, if◌then◌else◌, ⊤}
use Rattle.std.specs.List.{ends_with, list_any}
use Rattle.std.specs.Path.{path_file_name}
use Rattle.command_line.specs.declared.folder.Unnamed.{Unnamed}
use Rattle.command_line.specs.declared.folder.Unnamed.TheVariants.{NoMemory, File}

-- what is written to is a folder
abbrev pub is_folder : (output : List ℕ) → Bool
is_folder output = ends_with nat_eq output (codes "/")

-- What an output is named after: the last part of its file's name. Standard input has no name, nor has what is . or ..
-- there.
abbrev pub file_name : (name : List ℕ) → Option (List ℕ)
file_name name = if bytes_eq name (codes "-") then None else path_file_name name

-- the outputs are named after these files, one after another
abbrev pub are_named : (files names : List (List ℕ)) → Type 0
are_named files names = map Some files ≡ map file_name names

-- why files have no outputs: one has no name for it
abbrev pub refuses : Unnamed → Type 0
refuses NoMemory = ⊤
refuses (File name) = file_name name.now ≡ None

-- The first of them that another has too.
abbrev pub is_among : (file : List ℕ) → (files : List (List ℕ)) → Bool
is_among file files = list_any (λ other. bytes_eq other file) files

abbrev pub first_twice : (files : List (List ℕ)) → Option (List ℕ)
first_twice [] = None
first_twice (file ∷ files) = if is_among file files then Some file else first_twice files

-- where an output stands, and where each does
abbrev pub output_path : (folder extension file : List ℕ) → List ℕ
output_path folder extension file = folder ++ (file ++ extension)

abbrev pub output_paths : (folder extension : List ℕ) → (files : List (List ℕ)) → List (List ℕ)
output_paths folder extension files = map (output_path folder extension) files

-- These are the paths of the outputs of files, each in the folder and named after its file, and no two have one name.
abbrev pub are_outputs : (folder extension : List ℕ) → (paths names : List (List ℕ)) → Type 0
are_outputs folder extension paths names =
    (files : List (List ℕ)) × are_named files names × (first_twice files ≡ None)
    × (paths ≡ output_paths folder extension files)
