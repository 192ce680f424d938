-- Which links of texts are begun: one that is not that of the last text costs the bytes that it has in the HTML, and is
-- left out where fewer are spare.
use Rattle.std.specs.Prelude.{ℕ, ◌+◌, List, [], ◌∷◌, if◌then◌else◌}
use Rattle.std.specs.Str.{bytes_eq}
use Rattle.ansi_html.specs.declared.link.Link.{Link}
use Rattle.ansi_html.specs.Affordable.{link_cost, link_paid, left_of}
use Rattle.ansi_html.specs.Html.{after_text}
use Rattle.ansi_html.specs.ShownLinks.{link_in}
use Rattle.ansi_html.specs.Styled.{Styled, styled}

-- the link of the last text, and what is spare
pub record Purse : Type 0 where
  pub last : List ℕ
  pub spare : ℕ

abbrev pub purse : (last : List ℕ) → (spare : ℕ) → Purse
purse last spare = record { last = last; spare = spare }

abbrev pub purse_of : Link → (spare : ℕ) → Purse
purse_of last spare = purse (link_in last) spare

-- where text in a link leads
abbrev pub purse_with : Purse → (link : List ℕ) → Purse
purse_with it link =
    if bytes_eq it.last link then purse link it.spare else purse (link_paid it.spare link) (left_of it.spare link)

abbrev pub purse_behind : Purse → Styled → Purse
purse_behind it text = after_text it (purse_with it text.link) text.text

-- A text in the link that is begun for it, or none; for an empty one none need be.
abbrev pub paid_one : Purse → Styled → Styled
paid_one it text = styled text.style (after_text text.link (purse_with it text.link).last text.text) text.text

-- the texts, one after another, and where they lead
abbrev pub paid : Purse → List Styled → List Styled
paid it [] = []
paid it (text ∷ texts) = paid_one it text ∷ paid (purse_behind it text) texts

abbrev pub purse_after : Purse → List Styled → Purse
purse_after it [] = it
purse_after it (text ∷ texts) = purse_after (purse_behind it text) texts

-- what texts cost if each link in which there is text is begun that is not the last one
abbrev pub cost_behind : (last : List ℕ) → Styled → ℕ
cost_behind last text = after_text 0 (if bytes_eq last text.link then 0 else link_cost text.link) text.text

abbrev pub links_cost : (last : List ℕ) → List Styled → ℕ
links_cost last [] = 0
links_cost last (text ∷ texts) = cost_behind last text + links_cost (after_text last text.link text.text) texts
