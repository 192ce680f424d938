-- What a writer of HTML shows, and what a call does to it.
use Rattle.std.specs.Prelude.{◌≡◌, ℕ, Bool, if◌then◌else◌, ◌==◌, List, [], ◌∷◌, ◌++◌, Option, None, Some}
use Rattle.anstyle_parse.specs.declared.io.devices.Sink.{Ghosts as SinkOf}
use Rattle.anstyle_parse.specs.declared.io.output.Output.{Output}
use Rattle.anstyle_parse.specs.Stream.Call.{Call}
use Rattle.anstyle_parse.specs.Io.Output.{Adds}
use Rattle.ansi_style.specs.declared.style.Style.{Style}
use Rattle.ansi_html.specs.declared.scheme.Styling.{Styling}
use Rattle.ansi_html.specs.declared.performer.HtmlWriter.{HtmlWriter}
use Rattle.ansi_html.specs.declared.standing.Element.{Element as ElementSeen}
use Rattle.ansi_html.specs.declared.standing.Standing.{Standing as StandingSeen}
use Rattle.ansi_html.specs.Links.{kept_link}
use Rattle.ansi_html.specs.Html.{Element, element, Standing, at_start, escaped, beginning, call_html, standing_after, html_from, standing_at_end, element_end}
use Rattle.ansi_html.specs.declared.link.Links.{Links}
use Rattle.ansi_html.specs.ShownLinks.{shown_link, selected_link}

-- the output that it writes to; how it says a style
abbrev pub output_of : {W : Type 0} → HtmlWriter W → Output W
output_of performer = performer.output

abbrev pub styling_of : {W : Type 0} → HtmlWriter W → Styling
styling_of performer = performer.styling

-- the style that is selected, where a sequence has selected a style or a link since the last text
abbrev pub next_of : {W : Type 0} → HtmlWriter W → Option Style
next_of performer = if performer.has_selected then Some performer.selected else None

-- The element that is selected; where nothing has been selected since the last text, that one's.
abbrev pub selected_of : Option Style → Style → Links → Element
selected_of None shown links = element shown (shown_link links)
selected_of (Some style) shown links = element style (selected_link links)

-- where it stands
abbrev pub standing_of : {W : Type 0} → HtmlWriter W → Standing
standing_of performer = record {
  shown = element performer.shown (shown_link performer.links);
  selected = selected_of (next_of performer) performer.shown performer.links;
  returned = performer.returned;
}

-- the same as a value that its caller sees
abbrev pub element_in : ElementSeen → Element
element_in seen = element seen.style seen.link.now

abbrev pub standing_in : StandingSeen → Standing
standing_in seen = record {
  shown = element_in seen.shown;
  selected = element_in seen.selected;
  returned = seen.returned;
}

-- where a writer stands that goes on there: a link that none may have is left out
abbrev pub kept : Standing → Standing
kept at = record {
  shown = element at.shown.style (kept_link at.shown.link);
  selected = element at.selected.style (kept_link at.selected.link);
  returned = at.returned;
}

-- in the midst of text of an element
abbrev pub in_element : Element → (returned : Bool) → Standing
in_element it returned = record { shown = it; selected = it; returned = returned }

-- at the start, in this styling
pub record IsNew {W : Type 0} (wanted : Styling) (performer : HtmlWriter W) : Type 0 where
  pub styling : styling_of performer ≡ wanted
  pub standing : standing_of performer ≡ at_start

-- what it writes by a list of calls, as it stands; and the end of the element that is then open
abbrev pub text_from : {W : Type 0} → HtmlWriter W → List Call → List ℕ
text_from performer calls = html_from (styling_of performer) (standing_of performer) calls

abbrev pub ending_from : {W : Type 0} → HtmlWriter W → List Call → List ℕ
ending_from performer calls = element_end (standing_at_end (standing_of performer) calls).shown

-- A call selects a style or a link, or its text is written.
pub record Takes {W : Type 0} (sink : SinkOf W) (old : HtmlWriter W) (call : Call) (new : HtmlWriter W) : Type 0 where
  pub styling : styling_of new ≡ styling_of old
  pub standing : standing_of new ≡ standing_after call (standing_of old)
  pub added : Adds sink (call_html (styling_of old) (standing_of old) call) (output_of old) (output_of new)

-- The calls, one after another.
pub record TakesAll {W : Type 0} (sink : SinkOf W)
    (old : HtmlWriter W) (calls : List Call) (new : HtmlWriter W) : Type 0 where
  pub styling : styling_of new ≡ styling_of old
  pub standing : standing_of new ≡ standing_at_end (standing_of old) calls
  pub added : Adds sink (text_from old calls) (output_of old) (output_of new)

-- what it writes by the bytes of a text, and where they lead: each begins as text does
abbrev pub bytes_html : Styling → Standing → List ℕ → List ℕ
bytes_html styling at [] = []
bytes_html styling at (b ∷ bytes) =
    (beginning styling at (b == 0x0A) ++ escaped b) ++ bytes_html styling (in_element at.selected (b == 0x0D)) bytes

abbrev pub standing_after_bytes : Standing → List ℕ → Standing
standing_after_bytes at [] = at
standing_after_bytes at (b ∷ bytes) = standing_after_bytes (in_element at.selected (b == 0x0D)) bytes

-- The bytes of a text are written.
pub record TakesBytes {W : Type 0} (sink : SinkOf W)
    (old : HtmlWriter W) (bytes : List ℕ) (new : HtmlWriter W) : Type 0 where
  pub styling : styling_of new ≡ styling_of old
  pub standing : standing_of new ≡ standing_after_bytes (standing_of old) bytes
  pub added : Adds sink (bytes_html (styling_of old) (standing_of old) bytes) (output_of old) (output_of new)
