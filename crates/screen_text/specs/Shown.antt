-- What a screen showed of the calls of a stream, as text.
--
-- Source: termios(3), ONLCR: a terminal's line gives a carriage return to the screen before each line feed. A
-- stream that was recorded behind one has it already, and one more changes nothing.
use Rattle.std.specs.Prelude.{ℕ, Bool, false, ◌==◌, List, [], ◌∷◌, ◌++◌, if◌then◌else◌}
use Rattle.std.specs.List.{flat_map}
use Rattle.anstyle_parse.specs.Stream.Call.{Call, execute}
use Rattle.ansi_screen.specs.Display.{Display}
use Rattle.ansi_screen.specs.After.{State, after_all}
use Rattle.ansi_screen.specs.Leaving.{all_left}
use Rattle.ansi_screen.specs.Laws.{carriage_return, line_feed}
use Rattle.screen_text.specs.Lines.{rows_text, open_after, closing, showing}

-- what is given to the screen of a call, and of a list of calls
abbrev pub given : Call → List Call
given (execute byte) =
    if byte == 0x0A then carriage_return ∷ line_feed ∷ [] else execute byte ∷ []
given call = call ∷ []

abbrev pub given_all : List Call → List Call
given_all calls = flat_map given calls

-- the text of the rows that leave the screen by the calls
abbrev pub left_text : State → List Call → List ℕ
left_text s calls = rows_text (all_left (given_all calls) s)

-- and of those that still show at the end; a line that is open there, from before or by the last row, is ended
abbrev pub still_text : (on : Bool) → Display → List ℕ
still_text on d = rows_text (showing d) ++ closing (open_after on (showing d))

abbrev pub ending_text : State → List Call → List ℕ
ending_text s calls =
    still_text (open_after false (all_left (given_all calls) s)) (after_all (given_all calls) s).display

-- all that a screen showed
abbrev pub shown_text : State → List Call → List ℕ
shown_text s calls = left_text s calls ++ ending_text s calls
