-- The laws of a picture with the links of a stream.
use Rattle.std.proofs.Common.{◌≡◌, ◌≤◌, ◌+◌, ◌*◌, ℕ, List, length, sym, ap, ◌∙◌, subst}
use Rattle.anstyle_parse.specs.Stream.Call.{Call}
use Rattle.ansi_html.specs.Links.{IsLink}
use Rattle.ansi_screen.specs.After.{State, after_all}
use Rattle.screen_html.specs.Links.{Table, no_links, link_at}
use Rattle.screen_html.specs.Page.{all_links}
use Rattle.screen_html.proofs.HandedLemmas.{sound-link_at, kept-none}
use Rattle.screen_html.proofs.WholeLemmas.{kept-all}
use Rattle.screen_svg.specs.declared.drawing.Drawing.{Drawing}
use Rattle.screen_svg.specs.declared.drawing.Extent.{Extent}
use Rattle.screen_svg.specs.Characters.{text_of, IsXmlText}
use Rattle.screen_svg.specs.Xml.{read}
use Rattle.screen_svg.specs.Picture.{rows_in, picture, svg}
use Rattle.screen_svg.specs.Reading.{texts, picture_texts}
use Rattle.screen_svg.specs.Grammar.{IsPicture}
use Rattle.screen_svg.proofs.BoundLemmas.{length-svg}
use Rattle.screen_svg.proofs.GrammarLemmas.{IsPicture-of}
use Rattle.screen_svg.proofs.NamedLemmas.{read-svg}
use Rattle.screen_svg.proofs.ReadingLemmas.{texts-picture}
use Rattle.screen_svg.proofs.WellFormedLemmas.{IsXml-picture}

module _ (drawing : Drawing) (title font : List ℕ) (extent : Extent) (s : State) (calls : List Call) where
  links : Table
  links = all_links calls s no_links

  last : State
  last = after_all calls s

  are_links : (number : ℕ) → IsLink (link_at number links.places)
  unfolding links
  are_links number = (sound-link_at number links.places (kept-all calls s no_links kept-none)).is_link

  pub read-all : read (svg drawing title font (all_links calls s no_links) extent (after_all calls s)) ≡ picture drawing title font (all_links calls s no_links) extent (after_all calls s)
  unfolding links last
  read-all = read-svg drawing title font links extent last are_links

  pub grammar-all : IsPicture drawing.scheme (read (svg drawing title font (all_links calls s no_links) extent (after_all calls s)))
  unfolding links last
  grammar-all = subst (IsPicture drawing.scheme) (sym read-all) (IsPicture-of drawing title font links extent last are_links)

  pub texts-all : texts (read (svg drawing title font (all_links calls s no_links) extent (after_all calls s))) ≡ picture_texts drawing title (all_links calls s no_links) extent (after_all calls s)
  unfolding links last
  texts-all = ap texts read-all ∙ texts-picture drawing title font links extent last

  pub characters-all : IsXmlText (svg drawing title font (all_links calls s no_links) extent (after_all calls s))
  unfolding links last
  characters-all = IsXml-picture drawing.scheme (picture drawing title font links extent last) (IsPicture-of drawing title font links extent last are_links)

  pub length-all : length (svg drawing title font (all_links calls s no_links) extent (after_all calls s))
      ≤ 7700 * (rows_in extent * (after_all calls s).display.width) + (12 * length (text_of title) + (6 * length (text_of font) + 1960))
  unfolding links last
  length-all = length-svg drawing title font links extent last (λ number. sound-link_at number links.places (kept-all calls s no_links kept-none))
