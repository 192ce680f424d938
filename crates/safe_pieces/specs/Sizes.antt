-- How many bytes of safe text there can be.
use Rattle.std.specs.Prelude.{◌*◌, ◌+◌, ℕ}

-- The bytes of safe text at most that so many bytes of a stream lead to: ten for each character and each mark. Each
-- byte makes two characters at most (U+FFFD for one that it breaks off, and its own), with a mark before each; and two
-- characters wait at most.
abbrev pub most_safe : ℕ → ℕ
most_safe count = 40 * count + 20

-- what one byte may lead to
abbrev pub least_room : ℕ
least_room = most_safe 1

-- the room in which so many bytes are taken in one call
abbrev pub at_once : ℕ → ℕ
at_once count = 40 * count + 40

-- what waits at most, U+FFFD, a mark before it, and the mark that closes
abbrev pub end_room : ℕ
end_room = most_safe 0 + 30
