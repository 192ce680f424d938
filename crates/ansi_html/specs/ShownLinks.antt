-- What the links of a writer are: the link of the last text, and the one for what comes.
use Rattle.std.specs.Prelude.{ℕ, Bool, List, take, not, if◌then◌else◌}
use Rattle.ansi_html.specs.declared.link.Links.{Links}
use Rattle.ansi_html.specs.declared.link.Link.{Link}
use Rattle.ansi_html.specs.declared.uri.Uri.{Uri}

-- what is written of a URI
abbrev pub uri_in : Uri → List ℕ
uri_in uri = take uri.count uri.room

-- the URI of a link; empty for none
abbrev pub link_in : Link → List ℕ
link_in link = uri_in link.uri

abbrev pub has_next : Links → Bool
has_next links = links.has_next

-- what stands in one of the two places
abbrev pub link_at : (is_second : Bool) → Links → List ℕ
link_at is_second links = if is_second then uri_in links.second else uri_in links.first

abbrev pub shown_link : Links → List ℕ
shown_link links = link_at links.shows_second links

abbrev pub selected_link : Links → List ℕ
selected_link links = if has_next links then link_at (not links.shows_second) links else shown_link links
