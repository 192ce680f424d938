-- The words of the program.
use Rattle.std.specs.Prelude.{◌≡◌, ℕ, Bool, List, codes}
use Rattle.command_line.specs.Options.{has_word}
use Rattle.shared_options.specs.Scheme.{scheme_of}
use Rattle.screen_svg.specs.declared.drawing.Drawing.{Drawing}

-- the fonts where no word names any: those of Debian, macOS, Windows and Fedora whose letters are as wide as a cell
abbrev pub usual_font : List ℕ
usual_font = codes "'DejaVu Sans Mono', Menlo, Consolas, 'Liberation Mono', monospace"

-- all that the screen showed is drawn where some word is --shown
abbrev pub asks_for_all : List (List ℕ) → Bool
asks_for_all words = has_word (codes "--shown") words

-- How the words ask for the picture to be drawn: in the colours of the pages that they name, with the cursor and in a
-- window where some word is --cursor and --window.
pub record AsksFor (words : List (List ℕ)) (drawing : Drawing) : Type 0 where
  pub scheme : drawing.scheme ≡ scheme_of words
  pub cursor : drawing.cursor ≡ has_word (codes "--cursor") words
  pub window : drawing.window ≡ has_word (codes "--window") words
