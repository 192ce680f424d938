-- Verbatim text, which is its own HTML.
use Rattle.std.specs.Prelude.{ℕ, Bool, ◌&&◌, nat_lt}
use Rattle.ansi_html.specs.Grammar.{is_text_byte}

-- A byte of verbatim text: ASCII from the space on, a tab or a line feed, and none with a meaning in HTML.
unfoldable pub is_verbatim : ℕ → Bool
is_verbatim b = nat_lt b 0x80 && is_text_byte b
