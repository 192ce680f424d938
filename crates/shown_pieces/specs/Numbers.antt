-- Sizes and forms by numbers.
use Rattle.std.specs.Prelude.{ℕ, ◌==◌, ◌&&◌, Option, None, Some, if◌then◌else◌}
use Rattle.std.specs.Option.{option_map}
use Rattle.ansi_html.specs.declared.scheme.Scheme.TheVariants.{Both, Light, Dark}
use Rattle.ansi_html.specs.declared.scheme.Styling.{Styling}
use Rattle.ansi_html.specs.declared.scheme.Styling.TheVariants.{Inline, Classes}
use Rattle.ansi_screen.specs.Size.{size_if_taken}
use Rattle.screen_text.specs.declared.recording.ShownSize.{ShownSize}
use Rattle.screen_text.specs.declared.recording.ShownSize.TheVariants.{Recorded, Fixed}
use Rattle.shown_pieces.specs.declared.how.Form.{Form}
use Rattle.shown_pieces.specs.declared.how.Form.TheVariants.{Text, Safe, Html}

-- so many columns and rows, where a screen can have them; of none of both the size that the recording says
abbrev pub size_numbered : (columns rows : ℕ) → Option ShownSize
size_numbered columns rows =
    if columns == 0 && rows == 0 then Some Recorded else option_map Fixed (size_if_taken columns rows)

-- the same, or no screen, where that is asked for
abbrev pub screen_numbered : (no_screen columns rows : ℕ) → Option (Option ShownSize)
screen_numbered no_screen columns rows =
    if no_screen == 0 then option_map (λ size. Some size) (size_numbered columns rows) else Some None

-- the styling of a number, as in `ansi_html.h`, and the form of one, as in `ansi_shown.h`
abbrev pub styling_numbered : ℕ → Styling
styling_numbered number =
    if number == 1 then Inline Light else if number == 2 then Inline Dark else if number == 3 then Classes else Inline Both

abbrev pub form_numbered : (form styling : ℕ) → Form
form_numbered form styling =
    if form == 1 then Safe else if form == 2 then Html (styling_numbered styling) else Text
