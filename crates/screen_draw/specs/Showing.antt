-- What a screen shows at the end of a stream, as text or as the bytes that draw it.
use Rattle.std.specs.Prelude.{ℕ, List, length, Result, IsTrue}
use Rattle.std.specs.Io.KnownBytes.{Consumes, IsAtEnd}
use Rattle.anstyle_parse.specs.declared.io.Fault.{Fault}
use Rattle.anstyle_parse.specs.declared.io.devices.Sink.{Ghosts as SinkOf}
use Rattle.anstyle_parse.specs.declared.io.devices.Source.{Ghosts as SourceOf}
use Rattle.anstyle_parse.specs.declared.io.output.Output.{Output}
use Rattle.anstyle_parse.specs.Io.Output.{Adds}
use Rattle.anstyle_parse.specs.Io.Run.{EndsAs}
use Rattle.anstyle_parse.specs.Stream.Canon.{canon}
use Rattle.ansi_screen.specs.After.{State, Shows}
use Rattle.ansi_screen.specs.Display.{Display}
use Rattle.ansi_screen.specs.Text.{text_of}
use Rattle.screen_draw.specs.declared.showing.Form.{Form}
use Rattle.screen_draw.specs.declared.showing.Form.TheVariants.{Text, Drawing}
use Rattle.screen_draw.specs.Draw.{drawn_calls}

-- what is written of a screen
abbrev pub written_of : Form → Display → List ℕ
written_of Text display = text_of display
written_of Drawing display = canon (drawn_calls display)

-- The screen took all that the reader gave, and what it shows then was written: all of it where no write failed, and
-- where a read failed what the bytes before it lead to.
pub record ShowsToEnd {R W T : Type 0} (source : SourceOf R) (sink : SinkOf W) (form : Form) (reader reader_after : R)
    (first last : State) (output output_after : Output W) (answer : Result T Fault) : Type 0 where
  pub read : List ℕ
  pub consumed : Consumes (source.remaining reader) (source.remaining reader_after) read
  pub shows : Shows first read last
  pub written : Adds sink (written_of form last.display) output output_after
  pub ends : EndsAs answer (IsTrue source.zero_is_end → IsAtEnd (source.remaining reader_after))
      (source.has_failed reader) (source.has_failed reader_after) (length read)
