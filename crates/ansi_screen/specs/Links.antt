-- The links of a screen (OSC 8). Each link that a command begins has a number, and a cell has the number of the
-- link in which it was printed; 0 is none. The screen doesn't keep which URI a number stands for.
--
-- Source: Egmont Koblinger, "Hyperlinks (a.k.a. HTML-like anchors) in terminal emulators" (the gist
-- egmontkob/eb114294efbcd5adb1944c9f3cb5feda): `OSC 8 ; params ; URI ST` begins a link, in which all is printed up
-- to the next OSC 8, and `OSC 8 ; ; ST` ends it.
use Rattle.std.specs.Prelude.{ℕ, suc, min, Bool, false, ◌&&◌, not, ◌==◌, nat_lt, List, [], ◌∷◌, codes, length, if◌then◌else◌}
use Rattle.std.specs.Str.{bytes_eq}
use Rattle.ansi_screen.specs.Display.{Display}

-- whether a command is OSC 8, by its first part
abbrev pub is_link : List (List ℕ) → Bool
is_link [] = false
is_link (number ∷ others) = bytes_eq number (codes "8")

-- whether it begins a link: its third part, where the URI begins, is not empty
abbrev pub begins_link : List (List ℕ) → Bool
begins_link (number ∷ params ∷ uri ∷ others) = bytes_eq number (codes "8") && not (length uri == 0)
begins_link parts = false

-- So many links have a number, on from 1. One that begins after them has none.
abbrev pub most_links : ℕ
most_links = 4294967295

-- how many links have begun after a command, where so many had before
unfoldable pub links_after : List (List ℕ) → ℕ → ℕ
links_after parts links = if begins_link parts then min most_links (suc links) else links

-- the number of the link in force after it, where `link` was
unfoldable pub link_after : List (List ℕ) → (links link : ℕ) → ℕ
link_after parts links link =
    if begins_link parts && nat_lt links most_links then suc links
    else if is_link parts then 0
    else link

abbrev pub commanded : List (List ℕ) → Display → Display
commanded parts d = record d { links = links_after parts d.links; link = link_after parts d.links d.link }
