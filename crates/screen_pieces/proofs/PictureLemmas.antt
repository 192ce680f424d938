-- The picture of a screen that stands after bytes: what holds of any picture whose links are kept.
use Rattle.std.proofs.Common.{◌≡◌, ◌≤◌, ◌+◌, ◌*◌, ℕ, Bool, List, length, sym, ap, ◌∙◌, subst}
use Rattle.std.specs.Prelude.{if◌then◌else◌}
use Rattle.ansi_html.specs.Links.{IsLink}
use Rattle.ansi_html.proofs.SoundLemmas.{IsSound}
use Rattle.ansi_screen.specs.After.{State, new_state}
use Rattle.screen_html.specs.Links.{Table, link_at}
use Rattle.screen_html.proofs.HandedLemmas.{sound-link_at}
use Rattle.screen_svg.specs.Characters.{text_of, IsXmlText}
use Rattle.screen_svg.specs.declared.drawing.Drawing.{Drawing}
use Rattle.screen_svg.specs.declared.drawing.Extent.{Extent}
use Rattle.screen_svg.specs.Grammar.{IsPicture}
use Rattle.screen_svg.specs.Picture.{all_of, all_shown, rows_in, svg}
use Rattle.screen_svg.specs.Xml.{read}
use Rattle.screen_svg.proofs.BoundLemmas.{length-svg}
use Rattle.screen_svg.proofs.GrammarLemmas.{IsPicture-of}
use Rattle.screen_svg.proofs.NamedLemmas.{read-svg}
use Rattle.screen_svg.proofs.WellFormedLemmas.{IsXml-picture}
use Rattle.screen_pieces.specs.declared.picture.PictureBytes.{PictureBytes}
use Rattle.screen_pieces.specs.declared.terminal.Terminal.{Terminal}
use Rattle.screen_pieces.specs.Picture.{scheme_numbered, drawing_told, font_told, rows_drawn, picture_of, svg_of}
use Rattle.screen_pieces.specs.Terminal.{screen_of, display_of, table_of, links_of, StandsAfter}
use Rattle.screen_pieces.proofs.LineLawLemmas.{kept-links}

-- the rows that are drawn of a screen
abbrev rows_of : (is_all cursor : Bool) → State → Extent
rows_of is_all cursor s = if is_all then all_shown cursor s else all_of s.display

pub drawn-parts : (known is_all : Bool) (drawing : Drawing) (title font : List ℕ) {k links : Table} {s screen : State} → is_all ≡ known → k ≡ links → s ≡ screen
    → svg drawing title font k (if known then all_shown drawing.cursor s else all_of s.display) s
    ≡ svg drawing title font links (if is_all then all_shown drawing.cursor screen else all_of screen.display) screen
drawn-parts known is_all drawing title font {k} {links} {s} {screen} e f g =
    ap (λ (b : Bool). svg drawing title font k (rows_of b drawing.cursor s) s) (sym e)
    ∙ (ap (λ (table : Table). svg drawing title font table (rows_of is_all drawing.cursor s) s) f
    ∙ ap (λ (state : State). svg drawing title font links (rows_of is_all drawing.cursor state) state) g)

module _ (columns rows : ℕ) (bytes title font : List ℕ) (how : PictureBytes) (terminal : Terminal) (stands : StandsAfter (new_state columns rows) bytes terminal) where
  sound : (number : ℕ) → IsSound (link_at number (links_of terminal))
  sound number = sound-link_at number (links_of terminal) (kept-links columns rows bytes terminal stands)

  are_links : (number : ℕ) → IsLink (link_at number (links_of terminal))
  are_links number = (sound number).is_link

  pub read-picture : read (svg_of how title font terminal) ≡ picture_of how title font terminal
  read-picture = read-svg (drawing_told how) title (font_told font) (table_of terminal) (rows_drawn how terminal) (screen_of terminal) are_links

  is_picture : IsPicture (scheme_numbered how.scheme) (picture_of how title font terminal)
  is_picture = IsPicture-of (drawing_told how) title (font_told font) (table_of terminal) (rows_drawn how terminal) (screen_of terminal) are_links

  pub IsPicture-drawn : IsPicture (scheme_numbered how.scheme) (read (svg_of how title font terminal))
  IsPicture-drawn = subst (IsPicture (scheme_numbered how.scheme)) (sym read-picture) is_picture

  pub IsXmlText-drawn : IsXmlText (svg_of how title font terminal)
  IsXmlText-drawn = IsXml-picture (scheme_numbered how.scheme) (picture_of how title font terminal) is_picture

  pub length-drawn : length (svg_of how title font terminal)
      ≤ 7700 * (rows_in (rows_drawn how terminal) * (display_of terminal).width) + (12 * length (text_of title) + (6 * length (text_of (font_told font)) + 1960))
  length-drawn = length-svg (drawing_told how) title (font_told font) (table_of terminal) (rows_drawn how terminal) (screen_of terminal) sound
