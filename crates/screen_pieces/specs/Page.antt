-- What a screen shows as HTML.
use Rattle.std.specs.Prelude.{ℕ, List, ◌==◌, if◌then◌else◌}
use Rattle.ansi_html.specs.declared.scheme.Scheme.TheVariants.{Light, Dark, Both}
use Rattle.ansi_html.specs.declared.scheme.Styling.{Styling}
use Rattle.ansi_html.specs.declared.scheme.Styling.TheVariants.{Inline, Classes}
use Rattle.screen_html.specs.Page.{page_html}
use Rattle.screen_pieces.specs.declared.terminal.Terminal.{Terminal}
use Rattle.screen_pieces.specs.Terminal.{display_of, table_of}

-- any other number is both schemes
abbrev pub styling_numbered : ℕ → Styling
styling_numbered number =
    if number == 1 then Inline Light
    else if number == 2 then Inline Dark
    else if number == 3 then Classes
    else Inline Both

abbrev pub html_of : (styling : ℕ) → Terminal → List ℕ
html_of styling terminal = page_html (styling_numbered styling) (table_of terminal) (display_of terminal)
