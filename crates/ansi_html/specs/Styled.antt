-- The HTML of texts that have styles and links, as the cells of a screen do: each in its element,
-- escaped. The texts have no 0D, so that no line break is wanted before one.
use Rattle.std.specs.Prelude.{◌≡◌, ℕ, false, List, [], ◌∷◌, ◌++◌, map}
use Rattle.std.specs.List.{flat_map}
use Rattle.anstyle_parse.specs.declared.io.devices.Sink.{Ghosts as SinkOf}
use Rattle.anstyle_parse.specs.declared.io.output.Output.{Output}
use Rattle.anstyle_parse.specs.Io.Output.{Adds}
use Rattle.ansi_style.specs.declared.style.Style.{Style}
use Rattle.ansi_html.specs.declared.scheme.Styling.{Styling}
use Rattle.ansi_html.specs.declared.styled.StyledWriter.{StyledWriter}
use Rattle.ansi_html.specs.Html.{Element, element, no_element, element_end, Standing, after_text, text_html}
use Rattle.ansi_html.specs.ShownLinks.{link_in}
use Rattle.ansi_html.specs.Reader.{Shown, under, attributes_of}

-- a text, its style, and its link; the empty list is none
pub record Styled : Type 0 where
  pub style : Style
  pub link : List ℕ
  pub text : List ℕ

abbrev pub styled : Style → (link text : List ℕ) → Styled
styled style link text = record { style = style; link = link; text = text }

-- bytes, each a text of its own, of one style and one link
abbrev pub each_styled : Style → (link bytes : List ℕ) → List Styled
each_styled style link bytes = map (λ byte. styled style link (byte ∷ [])) bytes

-- the element that it stands in
abbrev pub element_of : Styled → Element
element_of it = element it.style it.link

-- where the HTML stands before it, after text of an element; and the element of the last text after it
abbrev pub before : Element → Styled → Standing
before shown it = record { shown = shown; selected = element_of it; returned = false }

abbrev pub behind : Element → Styled → Element
behind shown it = after_text shown (element_of it) it.text

-- the HTML of texts, one after another, after text of an element; and the element of the last
abbrev pub styled_html : Styling → Element → List Styled → List ℕ
styled_html styling shown [] = []
styled_html styling shown (it ∷ texts) =
    text_html styling (before shown it) false it.text ++ styled_html styling (behind shown it) texts

abbrev pub shown_after : Element → List Styled → Element
shown_after shown [] = shown
shown_after shown (it ∷ texts) = shown_after (behind shown it) texts

-- The HTML of all of them: from no element, and with the end of the last.
abbrev pub all_html : Styling → List Styled → List ℕ
all_html styling texts = styled_html styling no_element texts ++ element_end (shown_after no_element texts)

-- what they show: each byte with what is said of its style, and with its link; and the bytes alone
abbrev pub shown_of : Styling → Styled → List Shown
shown_of styling it = map (under (attributes_of styling (element_of it))) it.text

abbrev pub all_shown : Styling → List Styled → List Shown
all_shown styling texts = flat_map (shown_of styling) texts

abbrev pub bytes_of : Styled → List ℕ
bytes_of it = it.text

abbrev pub all_bytes : List Styled → List ℕ
all_bytes texts = flat_map bytes_of texts

-- the output of a writer, how it says a style, and the element of its last text
abbrev pub output_of : {W : Type 0} → StyledWriter W → Output W
output_of writer = writer.output

abbrev pub styling_of : {W : Type 0} → StyledWriter W → Styling
styling_of writer = writer.styling

abbrev pub shown_in : {W : Type 0} → StyledWriter W → Element
shown_in writer = element writer.shown (link_in writer.link)

-- The texts are written.
pub record WritesStyled {W : Type 0} (sink : SinkOf W)
    (old : StyledWriter W) (texts : List Styled) (new : StyledWriter W) : Type 0 where
  pub styling : styling_of new ≡ styling_of old
  pub shown : shown_in new ≡ shown_after (shown_in old) texts
  pub added : Adds sink (styled_html (styling_of old) (shown_in old) texts) (output_of old) (output_of new)
