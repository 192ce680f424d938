-- What the places of a table keep.
use Rattle.std.specs.Prelude.{◌-◌, List, [], ◌++◌, length, map, replicate}
use Rattle.ansi_html.specs.ShownLinks.{link_in}
use Rattle.screen_html.specs.declared.table.Place.{Place}
use Rattle.screen_html.specs.Links.{Kept, kept, most_kept}

abbrev pub kept_in : Place → Kept
kept_in place = kept place.number (link_in place.link)

-- those past the last one keep no link
abbrev pub all_kept : List Place → List Kept
all_kept places = map kept_in places ++ replicate (most_kept - length places) (kept 0 [])
