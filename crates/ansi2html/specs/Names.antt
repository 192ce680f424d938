-- The names of files, as a page shows them.
use Rattle.std.specs.Prelude.{ℕ, List, [], ◌∷◌, Option, None, Some}
use Rattle.anstyle_parse.specs.Stream.Texts.{text_calls}
use Rattle.safe_text.specs.Safe.{safe}
use Rattle.command_line.specs.Folder.{file_name}
use Rattle.ansi2html.specs.Words.{default_title}

-- A name as a page shows it: the safe text of its characters. A file may have any name that has neither / nor NUL
-- (POSIX.1-2024, XBD 3.141), so also one that drives a terminal, or reads otherwise than it is.
unfoldable pub visible : (name : List ℕ) → List ℕ
visible name = safe (text_calls name)

-- The title of a page that is given none: of one file the last part of its name, where it has one.
abbrev pub title_by : (name : Option (List ℕ)) → List ℕ
title_by None = default_title
title_by (Some name) = visible name

abbrev pub title_of : (files : List (List ℕ)) → List ℕ
title_of [] = default_title
title_of (file ∷ []) = title_by (file_name file)
title_of (file ∷ other ∷ files) = default_title
