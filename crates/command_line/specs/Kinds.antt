-- What a stream is by its first bytes.
--
-- Source: Unicode 15.0, 23.8 (the byte order mark: FE FF and FF FE in UTF-16); asciicast v2 and v3,
-- https://docs.asciinema.org/manual/asciicast/v2/ (the first line is an object, whose first member is the version).
use Rattle.std.specs.Prelude.{ℕ, Bool, ◌||◌, nat_eq, List, [], ◌∷◌, take, codes, Option, None, Some, is_some, if◌then◌else◌}
use Rattle.std.specs.List.{starts_with, list_any}
use Rattle.command_line.specs.declared.beginning.Kind.{Kind}
use Rattle.command_line.specs.declared.beginning.Kind.TheVariants.{Utf16, Asciicast}

-- no mark is longer
abbrev pub longest_mark : ℕ
longest_mark = 14

-- the byte order mark of UTF-16, in either order
abbrev pub is_utf16 : List ℕ → Bool
is_utf16 bytes = starts_with nat_eq bytes (0xFF ∷ 0xFE ∷ []) || starts_with nat_eq bytes (0xFE ∷ 0xFF ∷ [])

-- the front of an asciicast, as JSON is written with blanks and without
abbrev pub is_asciicast : List ℕ → Bool
is_asciicast bytes =
    starts_with nat_eq bytes (codes "{\"version\": 2,")
    || (starts_with nat_eq bytes (codes "{\"version\":2,")
    || (starts_with nat_eq bytes (codes "{\"version\": 3,")
    || starts_with nat_eq bytes (codes "{\"version\":3,")))

-- what a stream is that begins so
abbrev pub kind_of : List ℕ → Option Kind
kind_of bytes = if is_utf16 bytes then Some Utf16 else if is_asciicast bytes then Some Asciicast else None

-- what is told by bytes after others: once
abbrev pub told : (before after : List ℕ) → Option Kind
told before after = if is_some (kind_of before) then None else kind_of after
