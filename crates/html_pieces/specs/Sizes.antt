-- How many bytes of HTML there can be.
use Rattle.std.specs.Prelude.{◌*◌, ◌+◌, ℕ}
use Rattle.anstyle_parse.specs.Laws.Checkpoint.{max_checkpoint}
use Rattle.ansi_html.specs.declared.scheme.Styling.{Styling}
use Rattle.ansi_html.specs.Html.{html_of_a_byte, html_of_an_end}

-- The bytes of HTML at most that a few bytes of a stream lead to: for each the end of an element and the
-- beginning of another (6,521, with a link of 1,035 bytes), a line break (4), the character that the byte has
-- broken off (3) and its own reference (6), or U+FFFD (3).
abbrev pub most_html : ℕ → ℕ
most_html count = 6534 * count

-- Those that many bytes lead to: for each of them, and of the 1,042 that are pending at most, what a byte of a stream
-- does, and what the style and the link do that were selected before.
abbrev pub most_together : Styling → ℕ → ℕ
most_together styling count = html_of_a_byte styling * (max_checkpoint + count) + 6457

-- what one byte may lead to
abbrev pub least_room : ℕ
least_room = most_html 1

-- What the end of a stream leads to at most: the beginning of an element and a line break (6,525), U+FFFD (3), and what
-- closes an element.
abbrev pub end_room : ℕ
end_room = 6528 + html_of_an_end

-- the bytes that one call takes at most
abbrev pub most_taken : ℕ
most_taken = 4096

-- the bytes that one call writes at most
abbrev pub capacity : ℕ
capacity = 16384
