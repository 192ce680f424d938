-- The words of the program.
use Rattle.std.specs.Prelude.{ℕ, Bool, List, codes}
use Rattle.command_line.specs.Options.{has_word}

-- safe text is asked for where some word is --safe
abbrev pub asks_for_safe : (words : List (List ℕ)) → Bool
asks_for_safe words = has_word (codes "--safe") words

-- lines that end with a line feed alone, where some word is --lf
abbrev pub asks_for_line_feeds : (words : List (List ℕ)) → Bool
asks_for_line_feeds words = has_word (codes "--lf") words

-- text without what is hidden, where some word is --no-hidden
abbrev pub asks_for_no_hidden : (words : List (List ℕ)) → Bool
asks_for_no_hidden words = has_word (codes "--no-hidden") words
