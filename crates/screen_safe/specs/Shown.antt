-- What a screen showed of the calls of a stream, as safe text: the safe text of the characters of the rows that left,
-- and of those that still show.
use Rattle.std.specs.Prelude.{ℕ, Bool, false, List, ◌++◌}
use Rattle.std.specs.Str.{encode_utf8_all}
use Rattle.anstyle_parse.specs.Stream.Call.{Call}
use Rattle.ansi_screen.specs.Display.{Display}
use Rattle.ansi_screen.specs.After.{State, after_all}
use Rattle.ansi_screen.specs.Leaving.{all_left}
use Rattle.safe_text.specs.Safe.{safe_from}
use Rattle.safe_text.specs.Decided.{decided_from, waiting, last_from}
use Rattle.screen_text.specs.Lines.{open_after, closing, showing}
use Rattle.screen_text.specs.Shown.{given_all}
use Rattle.screen_safe.specs.Characters.{rows_characters, rows_marked}

-- the characters of the rows that leave the screen by the calls
abbrev pub left_characters : State → List Call → List ℕ
left_characters s calls = rows_characters (all_left (given_all calls) s)

-- and of those that still show at the end; a line that is open there, from before or by the last row, is ended
abbrev pub still_characters : (on : Bool) → Display → List ℕ
still_characters on d = rows_characters (showing d) ++ closing (open_after on (showing d))

abbrev pub ending_characters : State → List Call → List ℕ
ending_characters s calls =
    still_characters (open_after false (all_left (given_all calls) s)) (after_all (given_all calls) s).display

-- all that a screen showed
abbrev pub shown_characters : State → List Call → List ℕ
shown_characters s calls = left_characters s calls ++ ending_characters s calls

-- the same with marks where hidden text begins and ends, and its safe text
abbrev pub left_marked : State → List Call → List ℕ
left_marked s calls = rows_marked (all_left (given_all calls) s)

abbrev pub still_marked : (on : Bool) → Display → List ℕ
still_marked on d = rows_marked (showing d) ++ closing (open_after on (showing d))

abbrev pub ending_marked : State → List Call → List ℕ
ending_marked s calls =
    still_marked (open_after false (all_left (given_all calls) s)) (after_all (given_all calls) s).display

abbrev pub shown_marked : State → List Call → List ℕ
shown_marked s calls = left_marked s calls ++ ending_marked s calls

abbrev pub safe_shown : State → List Call → List ℕ
safe_shown s calls = encode_utf8_all (safe_from 0 (shown_marked s calls))

-- Its two parts, which `joined` of `laws::whole` joins: what is decided as rows leave, and the rest at the end.
abbrev pub safe_left : State → List Call → List ℕ
safe_left s calls = encode_utf8_all (decided_from 0 (left_marked s calls))

abbrev pub safe_ending : State → List Call → List ℕ
safe_ending s calls = encode_utf8_all (safe_from (last_from 0 (left_marked s calls))
    (waiting (left_marked s calls) ++ ending_marked s calls))
