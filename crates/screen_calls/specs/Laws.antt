-- What the laws speak of.
use Rattle.std.specs.Prelude.{ℕ, Bool, ◌+◌, ◌*◌, List, [], ◌∷◌, ◌++◌, length, map, if◌then◌else◌}
use Rattle.std.specs.List.{AllByRecursion, flat_map}
use Rattle.anstyle_parse.specs.Stream.Call.{Call, print}
use Rattle.ansi_style.specs.declared.style.Style.{Style}
use Rattle.ansi_style.specs.Rendition.{style_after}
use Rattle.ansi_style.specs.Style.{plain}
use Rattle.ansi_screen.specs.declared.cell.Cell.{Cell}
use Rattle.ansi_screen.specs.declared.size.Size.{Size}
use Rattle.ansi_screen.specs.After.{State, new_state, after_all}
use Rattle.ansi_screen.specs.Cells.{is_right}
use Rattle.ansi_screen.specs.Leaving.{all_left}
use Rattle.ansi_screen.specs.Reachable.{HasColors}
use Rattle.html_urls.specs.Linked.{linked}
use Rattle.screen_text.specs.Lines.{showing}
use Rattle.screen_html.specs.Shown.{begun_cost}
use Rattle.screen_text.specs.Shown.{given_all, shown_text}
use Rattle.screen_calls.specs.Calls.{characters_of, printed_cells, shown_calls}
use Rattle.without_hidden.specs.Hidden.{without_hidden}

-- a character that is printed, in the style that is selected for it
pub record Printed : Type 0 where
  pub style : Style
  pub character : ℕ

abbrev pub in_style : Style → ℕ → Printed
in_style style c = record { style = style; character = c }

-- the characters that calls print, from a style on
abbrev pub printed : Style → List Call → List Printed
printed style [] = []
printed style (print c ∷ calls) = in_style style c ∷ printed style calls
printed style (call ∷ calls) = printed (style_after call style) calls

-- the characters that cells show, each in the style of its cell; and those of a row, with its line feed left out
abbrev pub shown_in_cell : Cell → List Printed
shown_in_cell cell = if is_right cell.part then [] else map (in_style cell.style) (characters_of cell)

abbrev pub shown_in_row : List Cell → List Printed
shown_in_row row = flat_map shown_in_cell (printed_cells row)

-- the rows that a screen showed of the calls of a stream: those that left it, and those that still show
abbrev pub shown_rows : State → List Call → List (List Cell)
shown_rows s calls = all_left (given_all calls) s ++ showing (after_all (given_all calls) s).display

-- the colours of cells are such as SGR can select
abbrev pub AreColored : List Cell → Type 0
AreColored cells = AllByRecursion (λ cell. HasColors cell.style) cells

-- what is converted further of calls: all, or those without hidden text; as they are, or with links for addresses
abbrev pub kept_calls : (no_hidden : Bool) → List Call → List Call
kept_calls no_hidden calls = if no_hidden then without_hidden plain calls else calls

abbrev pub converted : (no_hidden has_urls : Bool) → List Call → List Call
converted no_hidden has_urls calls =
    if has_urls then linked (kept_calls no_hidden calls) else kept_calls no_hidden calls

-- the same of the calls of what a screen of this size showed
abbrev pub shown_by : Size → (no_hidden has_urls : Bool) → List Call → List Call
shown_by size no_hidden has_urls calls =
    converted no_hidden has_urls (shown_calls (new_state size.columns size.rows) calls)

-- What HTML is measured by that is made of it: each byte of the text that was shown counts as 109, as many as a line feed
-- with what it earns for links may lead to, and each link that begins as what it costs.
abbrev pub most_shown : Size → List Call → ℕ
most_shown size calls =
    109 * length (shown_text (new_state size.columns size.rows) calls) + (begun_cost calls + 100)
