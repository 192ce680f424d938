-- What a writer of rows as HTML writes of a row, from where it stands.
use Rattle.std.specs.Prelude.{ℕ, Bool, List, ◌++◌}
use Rattle.anstyle_parse.specs.declared.io.devices.Sink.{Ghosts as SinkOf}
use Rattle.anstyle_parse.specs.declared.io.output.Output.{Output}
use Rattle.ansi_html.specs.declared.scheme.Styling.{Styling}
use Rattle.ansi_html.specs.Html.{Element, element_end}
use Rattle.ansi_html.specs.ShownLinks.{link_in}
use Rattle.ansi_html.specs.Styled.{styled_html, shown_after, output_of as styled_output, styling_of, shown_in}
use Rattle.ansi_screen.specs.declared.cell.Cell.{Cell}
use Rattle.ansi_screen.specs.Text.{goes_on}
use Rattle.screen_text.specs.Rows.{WritesRow, WritesCommand, WritesNothing}
use Rattle.screen_html.specs.declared.rows.HtmlRows.{HtmlRows}
use Rattle.screen_html.specs.Shown.{Linking, linked, row_styled, row_linking, command_linking, closing_styled}

-- Where it stands between two rows: how it says a style, the element of the last text, where its links stand, and
-- whether a line is open.
pub record Between : Type 0 where
  pub styling : Styling
  pub shown : Element
  pub linking : Linking
  pub is_open : Bool

abbrev pub row_html : Between → List Cell → List ℕ
row_html at row = styled_html at.styling at.shown (row_styled at.linking row)

abbrev pub after_row : Between → List Cell → Between
after_row at row = record {
  styling = at.styling;
  shown = shown_after at.shown (row_styled at.linking row);
  linking = row_linking at.linking row;
  is_open = goes_on row;
}

abbrev pub after_command : Between → ℕ → List (List ℕ) → Between
after_command at number parts = record at { linking = command_linking at.linking number parts }

abbrev pub closing_html : Between → List ℕ
closing_html at =
    styled_html at.styling at.shown (closing_styled at.is_open)
    ++ element_end (shown_after at.shown (closing_styled at.is_open))

-- the output of a writer, and where it stands
abbrev pub output_of : {W : Type 0} → HtmlRows W → Output W
output_of rows = styled_output rows.writer

abbrev pub standing_of : {W : Type 0} → HtmlRows W → Between
standing_of rows = record {
  styling = styling_of rows.writer;
  shown = shown_in rows.writer;
  linking = linked (link_in rows.last) rows.links;
  is_open = rows.is_open;
}

-- what a row does to it, a command, and handing on what its output holds back
abbrev pub TakesRow : {W : Type 0} → SinkOf W → HtmlRows W → List Cell → HtmlRows W → Type 0
TakesRow sink old row new = WritesRow sink output_of standing_of row_html after_row old row new

abbrev pub TakesCommand : {W : Type 0} → SinkOf W → HtmlRows W → ℕ → List (List ℕ) → HtmlRows W → Type 0
TakesCommand sink old number parts new = WritesCommand sink output_of standing_of after_command old number parts new

abbrev pub PassesOn : {W : Type 0} → SinkOf W → HtmlRows W → HtmlRows W → Type 0
PassesOn sink old new = WritesNothing sink output_of standing_of old new
