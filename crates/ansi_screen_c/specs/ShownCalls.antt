-- What the calls from C do with a log that is shown.
use Rattle.std.specs.Prelude.{◌≡◌, ◌==◌, not, ⊤, ℕ, List, [], Option, None, Some}
use Rattle.ansi_screen_c.specs.declared.shown.ShownOptions.{ShownOptions}
use Rattle.anstyle_parse.specs.declared.io.devices.Sink.{Ghosts as SinkOf}
use Rattle.shown_pieces.specs.declared.how.How.{How}
use Rattle.shown_pieces.specs.declared.log.ShownLog.{ShownLog}
use Rattle.shown_pieces.specs.Log.{size_of, how_of, text_of, HasCome, HasText, LacksRoom}
use Rattle.shown_pieces.specs.Numbers.{screen_numbered, form_numbered}
use Rattle.shown_pieces.specs.Running.{Memory}

-- how a log is written by options: a number that is not 0 asks for what it names
abbrev pub how_asked : ShownOptions → How
how_asked options = record {
  form = form_numbered options.form options.styling;
  has_lines = not (options.lines == 0);
  has_urls = not (options.urls == 0);
  no_hidden = not (options.no_hidden == 0);
}

-- A log is held, of which nothing has come, and its screen, and how it is written, are those of the options.
abbrev pub IsOpened : SinkOf Memory → ShownOptions → Option ShownLog → Type 0
IsOpened sink options None = ⊥
IsOpened sink options (Some log) =
    (Some (size_of log) ≡ screen_numbered options.no_screen options.columns options.rows)
    × (how_of log ≡ how_asked options) × HasCome sink [] log

-- A log was held, and one is held now: they are related so.
abbrev pub BothLogs : (ShownLog → ShownLog → Type 0) → Option ShownLog → Option ShownLog → Type 0
BothLogs R (Some old) (Some new) = R old new
BothLogs R old new = ⊥

-- The same, or none was held, and none is.
abbrev pub BothOrNone : (ShownLog → ShownLog → Type 0) → Option ShownLog → Option ShownLog → Type 0
BothOrNone R None None = ⊤
BothOrNone R old new = BothLogs R old new

-- What is written of the log that is held stands at the front of the room; or it does not: none is held, and the number
-- is 0; or the room has fewer bytes.
abbrev pub ReadsLog : (room room_after : List ℕ) (written : ℕ) → Option ShownLog → Type 0
ReadsLog room room_after written None = ⊥
ReadsLog room room_after written (Some log) = HasText (text_of log) room room_after written

abbrev pub LacksRoomOfLog : (room room_after : List ℕ) (needed : ℕ) → Option ShownLog → Type 0
LacksRoomOfLog room room_after needed None = (needed ≡ 0) × (room_after ≡ room)
LacksRoomOfLog room room_after needed (Some log) = LacksRoom (text_of log) room room_after needed
