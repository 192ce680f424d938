-- The words of the program.
use Rattle.std.specs.Prelude.{ℕ, Bool, List, codes}
use Rattle.command_line.specs.Options.{has_word}

-- the bytes that draw the screen are asked for where some word is --draw
abbrev pub asks_to_draw : (words : List (List ℕ)) → Bool
asks_to_draw words = has_word (codes "--draw") words

-- and the updates where some word is --updates
abbrev pub asks_for_updates : (words : List (List ℕ)) → Bool
asks_for_updates words = has_word (codes "--updates") words
