-- What a screen shows at the end of a stream, or all that it showed, with its links, as a picture.
use Rattle.std.specs.Prelude.{◌≡◌, ℕ, Bool, ◌&&◌, ◌==◌, Some, List, [], ◌∷◌, length, Result, IsTrue, if◌then◌else◌}
use Rattle.std.specs.List.{flat_map}
use Rattle.std.specs.Io.KnownBytes.{Consumes, IsAtEnd}
use Rattle.anstyle_parse.specs.declared.io.Fault.{Fault}
use Rattle.anstyle_parse.specs.declared.io.devices.Sink.{Ghosts as SinkOf}
use Rattle.anstyle_parse.specs.declared.io.devices.Source.{Ghosts as SourceOf}
use Rattle.anstyle_parse.specs.declared.io.output.Output.{Output}
use Rattle.anstyle_parse.specs.Io.Output.{Adds}
use Rattle.anstyle_parse.specs.Io.Run.{EndsAs}
use Rattle.anstyle_parse.specs.Stream.Call.{Call, execute}
use Rattle.anstyle_parse.specs.Stream.Calls.{AreCalls}
use Rattle.ansi_screen.specs.After.{State, after_all, new_state}
use Rattle.ansi_screen.specs.declared.size.Size.{Size}
use Rattle.ansi_screen.specs.History.{nothing_kept}
use Rattle.ansi_screen.specs.Laws.{carriage_return, line_feed}
use Rattle.ansi_screen.specs.Leaving.{with_kept}
use Rattle.screen_html.specs.Links.{no_links}
use Rattle.screen_html.specs.Page.{links_by, all_links}
use Rattle.screen_svg.specs.declared.drawing.Drawing.{Drawing}
use Rattle.screen_svg.specs.declared.drawing.Extent.{Extent}
use Rattle.screen_svg.specs.Picture.{all_of, all_shown, most_above, svg}
use Rattle.ansi2svg.specs.declared.picture.Linked.{Linked}

-- a blank screen of this size, which keeps rows that leave it where all that it shows is drawn; with no link
abbrev pub first_screen : (is_all : Bool) → Size → State
first_screen is_all size =
    if is_all then with_kept (Some (nothing_kept most_above size.columns)) (new_state size.columns size.rows)
    else new_state size.columns size.rows

pub record IsNew (size : Size) (wanted : Bool) (linked : Linked) : Type 0 where
  pub screen : linked.screen ≡ first_screen wanted size
  pub links : linked.links ≡ no_links
  pub is_all : linked.is_all ≡ wanted

-- what is given to the screen of a call: where all that it shows is drawn, a carriage return before each line feed
abbrev pub given : (is_all : Bool) → Call → List Call
given is_all (execute byte) =
    if is_all && byte == 0x0A then carriage_return ∷ line_feed ∷ [] else execute byte ∷ []
given is_all call = call ∷ []

abbrev pub given_all : (is_all : Bool) → List Call → List Call
given_all is_all calls = flat_map (given is_all) calls

-- A call leads the screen on, and a link that begins is kept by the number then in force.
abbrev pub linked_after : Call → Linked → Linked
linked_after call linked = record linked {
  screen = after_all (given linked.is_all call) linked.screen;
  links = links_by call (after_all (given linked.is_all call) linked.screen) linked.links;
}

-- the rows that are drawn, and the picture of them
abbrev pub drawn_rows : (is_all cursor : Bool) → State → Extent
drawn_rows is_all cursor s = if is_all then all_shown cursor s else all_of s.display

abbrev pub picture_of : Drawing → (title font : List ℕ) → Linked → List ℕ
picture_of drawing title font linked =
    svg drawing title font linked.links (drawn_rows linked.is_all drawing.cursor linked.screen) linked.screen

-- The screen took all that the reader gave, with the links that began, and the picture of what it shows then, or of all
-- that it showed, was written: all of it where no write failed, and where a read failed that of the bytes before it.
pub record DrawsToEnd {R W T : Type 0} (source : SourceOf R) (sink : SinkOf W)
    (picture : Linked → List ℕ) (reader reader_after : R) (first last : Linked)
    (output output_after : Output W) (answer : Result T Fault) : Type 0 where
  pub read : List ℕ
  pub consumed : Consumes (source.remaining reader) (source.remaining reader_after) read
  pub calls : List Call
  pub made : AreCalls read calls
  pub screen : last.screen ≡ after_all (given_all first.is_all calls) first.screen
  pub links : last.links ≡ all_links (given_all first.is_all calls) first.screen first.links
  pub is_all : last.is_all ≡ first.is_all
  pub written : Adds sink (picture last) output output_after
  pub ends : EndsAs answer (IsTrue source.zero_is_end → IsAtEnd (source.remaining reader_after))
      (source.has_failed reader) (source.has_failed reader_after) (length read)
