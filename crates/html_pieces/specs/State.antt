-- What a state of a stream and its HTML stands for.
use Rattle.std.specs.Prelude.{◌≡◌, ℕ, List, [], ◌∷◌, take, ◌==◌, if◌then◌else◌}
use Rattle.anstyle_parse.specs.Stream.Call.{Call}
use Rattle.anstyle_parse.specs.Stream.Calls.{AreCalls}
use Rattle.anstyle_parse.specs.Machine.AsRead.{as_read}
use Rattle.stream_state.specs.Log.{StandsForLog}
use Rattle.ansi_html.specs.declared.scheme.Scheme.TheVariants.{Light, Dark, Both}
use Rattle.ansi_html.specs.declared.scheme.Styling.{Styling}
use Rattle.ansi_html.specs.declared.scheme.Styling.TheVariants.{Inline, Classes}
use Rattle.ansi_html.specs.Html.{Element, element, Standing, at_start, standing_at_end}
use Rattle.ansi_html.specs.Writer.{kept}
use Rattle.html_pieces.specs.declared.state.ElementBytes.{ElementBytes}
use Rattle.html_pieces.specs.declared.state.HtmlState.{HtmlState}
use Rattle.ansi_style.specs.declared.bytes.ColorBytes.{ColorBytes}
use Rattle.ansi_style.specs.declared.bytes.StyleBytes.{StyleBytes}
use Rattle.ansi_style.specs.Bytes.{is_set, style_of}

-- any other number is for both
abbrev pub styling_numbered : ℕ → Styling
styling_numbered number =
    if number == 1 then Inline Light
    else if number == 2 then Inline Dark
    else if number == 3 then Classes
    else Inline Both

abbrev pub styling_in : HtmlState → Styling
styling_in state = styling_numbered state.styling

-- the style and the link that are held: any number in `length` counts for as many bytes as there are
abbrev pub held_element : ElementBytes → Element
held_element bytes = element (style_of bytes.style) (take bytes.length bytes.link)

abbrev pub held_standing : HtmlState → Standing
held_standing state = record {
  shown = held_element state.shown;
  selected = held_element state.selected;
  returned = is_set state.returned;
}

-- Where the HTML stands: as it is held, but for a link that none may have.
abbrev pub standing_of : HtmlState → Standing
standing_of state = kept (held_standing state)

-- The state stands for the bytes before: its stream does, and its HTML stands where it does after the calls of what is
-- read of them.
pub record StandsFor (state : HtmlState) (before : List ℕ) : Type 0 where
  pub stream : StandsForLog state.stream before
  pub standing : (calls : List Call) → AreCalls (as_read before) calls
      → standing_of state ≡ standing_at_end at_start calls

-- the style whose bytes are zero
abbrev pub zero_color : ColorBytes
zero_color = record { kind = 0; values = 0 ∷ 0 ∷ 0 ∷ [] }

abbrev pub zero_style : StyleBytes
zero_style = record {
  foreground = zero_color;
  background = zero_color;
  underline = 0;
  bold = 0;
  dim = 0;
  italic = 0;
  blink = 0;
  reverse = 0;
  hidden = 0;
  struck_out = 0;
  overlined = 0;
}

-- the numbers of a state are zero (the bytes after a length of 0 may be any)
pub record IsZero (state : HtmlState) : Type 0 where
  pub stream : state.stream.length ≡ 0
  pub shown_style : state.shown.style ≡ zero_style
  pub shown_link : state.shown.length ≡ 0
  pub selected_style : state.selected.style ≡ zero_style
  pub selected_link : state.selected.length ≡ 0
  pub returned : state.returned ≡ 0
  pub styling : state.styling ≡ 0
