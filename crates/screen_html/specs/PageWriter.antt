-- What a writer of rows as HTML writes whose links are kept elsewhere: from where it stands that which one writes that keeps
-- its own (`Writer`).
use Rattle.std.specs.Prelude.{List}
use Rattle.anstyle_parse.specs.declared.io.devices.Sink.{Ghosts as SinkOf}
use Rattle.anstyle_parse.specs.declared.io.output.Output.{Output}
use Rattle.ansi_html.specs.Styled.{output_of as styled_output, styling_of, shown_in}
use Rattle.ansi_screen.specs.declared.cell.Cell.{Cell}
use Rattle.screen_text.specs.Rows.{WritesRow, WritesNothing}
use Rattle.screen_html.specs.declared.page.PageRows.{PageRows}
use Rattle.screen_html.specs.Shown.{linking_of}
use Rattle.screen_html.specs.Writer.{Between, row_html, after_row}

abbrev pub output_of : {W : Type 0} → PageRows W → Output W
output_of rows = styled_output rows.writer

abbrev pub standing_of : {W : Type 0} → PageRows W → Between
standing_of rows = record {
  styling = styling_of rows.writer;
  shown = shown_in rows.writer;
  linking = linking_of rows.last rows.links.now.places rows.spare;
  is_open = rows.is_open;
}

abbrev pub TakesRow : {W : Type 0} → SinkOf W → PageRows W → List Cell → PageRows W → Type 0
TakesRow sink old row new = WritesRow sink output_of standing_of row_html after_row old row new

abbrev pub PassesOn : {W : Type 0} → SinkOf W → PageRows W → PageRows W → Type 0
PassesOn sink old new = WritesNothing sink output_of standing_of old new
