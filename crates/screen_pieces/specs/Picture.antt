-- The picture of what a screen shows, or of all that it showed: by the definitions of `screen_svg`, as `ansi2svg` draws it.
use Rattle.std.specs.Prelude.{ℕ, Bool, List, codes, ◌==◌, if◌then◌else◌}
use Rattle.ansi_html.specs.declared.scheme.Scheme.{Scheme}
use Rattle.ansi_html.specs.declared.scheme.Scheme.TheVariants.{Light, Dark, Both}
use Rattle.ansi_html.specs.Links.{is_none}
use Rattle.ansi_style.specs.Bytes.{is_set}
use Rattle.screen_svg.specs.declared.drawing.Drawing.{Drawing}
use Rattle.screen_svg.specs.declared.drawing.Extent.{Extent}
use Rattle.screen_svg.specs.Picture.{all_of, all_shown, picture, svg}
use Rattle.screen_svg.specs.Xml.{Event}
use Rattle.screen_pieces.specs.declared.picture.PictureBytes.{PictureBytes}
use Rattle.screen_pieces.specs.declared.terminal.Terminal.{Terminal}
use Rattle.screen_pieces.specs.Terminal.{screen_of, display_of, table_of}

-- any other number is both schemes
abbrev pub scheme_numbered : ℕ → Scheme
scheme_numbered number = if number == 1 then Light else if number == 2 then Dark else Both

abbrev pub drawing_told : PictureBytes → Drawing
drawing_told how = record {
  scheme = scheme_numbered how.scheme;
  cursor = is_set how.cursor;
  window = is_set how.window;
}

-- the usual fonts, where none are named
abbrev pub font_told : List ℕ → List ℕ
font_told font =
    if is_none font then codes "'DejaVu Sans Mono', Menlo, Consolas, 'Liberation Mono', monospace" else font

-- the rows that are drawn: all that the screen showed, or those that show
abbrev pub rows_wanted : (is_all cursor : Bool) → Terminal → Extent
rows_wanted is_all cursor terminal =
    if is_all then all_shown cursor (screen_of terminal) else all_of (display_of terminal)

abbrev pub rows_drawn : PictureBytes → Terminal → Extent
rows_drawn how terminal = rows_wanted (is_set how.shown) (is_set how.cursor) terminal

-- what a reader of its XML meets, and the picture as it is written
abbrev pub picture_of : PictureBytes → (title font : List ℕ) → Terminal → List Event
picture_of how title font terminal =
    picture (drawing_told how) title (font_told font) (table_of terminal) (rows_drawn how terminal) (screen_of terminal)

abbrev pub svg_of : PictureBytes → (title font : List ℕ) → Terminal → List ℕ
svg_of how title font terminal =
    svg (drawing_told how) title (font_told font) (table_of terminal) (rows_drawn how terminal) (screen_of terminal)
