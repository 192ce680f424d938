-- Text that is drawn and not seen: text that is concealed, and text in the colour of its ground.
--
-- Sources: ECMA-48 (5th edition), 8.3.117 SGR: 8, concealed characters, until 28, revealed characters, or 0. xterm's
-- ctlseqs, "Character Attributes (SGR)": 30 to 39, 90 to 97 for the colour of text, 40 to 49, 100 to 107 for its ground.
-- The colours are those of xterm (`crates/xterm_palette/specs/Palette.antt`).
use Rattle.std.specs.Prelude.{ℕ, Bool, false, ◌||◌, ◌==◌, Option, None, Some}
use Rattle.ansi_style.specs.declared.style.Color.{Color}
use Rattle.ansi_style.specs.declared.style.Style.{Style}
use Rattle.xterm_palette.specs.Palette.{number_of}

-- one number; what has none is like nothing, and not like another that has none
abbrev pub is_one : Option ℕ → Option ℕ → Bool
is_one one None = false
is_one None (Some m) = false
is_one (Some n) (Some m) = n == m

-- The terminal's own colours have no number, so they are like no other, and not like each other.
abbrev pub is_one_color : Color → Color → Bool
is_one_color one other = is_one (number_of one) (number_of other)

-- In reverse video the two change places, so it makes no difference; nor does what is bold or dim.
unfoldable pub is_unseen : Style → Bool
is_unseen style = style.hidden || is_one_color style.foreground style.background
