-- Which URI the number of a link stands for: the screen gives each link of a stream a number, and a table keeps the
-- URIs of the last 1,024, and what is spare to begin links with.
use Rattle.std.specs.Prelude.{◌≡◌, ℕ, Bool, ◌+◌, ◌*◌, ◌%◌, true, nat_lt, ◌&&◌, ◌==◌, not, List, [], ◌∷◌, replicate, slice_index_or, slice_set, if◌then◌else◌}
use Rattle.std.specs.List.{AllByRecursion}
use Rattle.ansi_html.specs.Affordable.{byte_earns, feed_counts, max_spare, link_cost}
use Rattle.ansi_html.specs.Links.{is_link_command, link_of}

-- a number and its link; the empty list is none
pub record Kept : Type 0 where
  pub number : ℕ
  pub link : List ℕ

abbrev pub kept : ℕ → List ℕ → Kept
kept number link = record { number = number; link = link }

abbrev pub most_kept : ℕ
most_kept = 1024

-- no number has a link; 0, which is that of no link, has none ever
abbrev pub no_places : List Kept
no_places = replicate most_kept (kept 0 [])

-- A link's place is its number modulo 1,024, and there it is kept until the next one with this place begins.
abbrev pub place_of : ℕ → List Kept → Kept
place_of number links = slice_index_or links (number % most_kept) (kept 0 [])

unfoldable pub link_at : ℕ → List Kept → List ℕ
link_at number links = if (place_of number links).number == number then (place_of number links).link else []

-- a command, where the link of this number is in force after it
abbrev pub begins : ℕ → List (List ℕ) → Bool
begins number parts = is_link_command parts && not (number == 0)

unfoldable pub links_after : ℕ → List (List ℕ) → List Kept → List Kept
links_after number parts links =
    if begins number parts
    then slice_set links (number % most_kept) (kept number (link_of parts))
    else links

-- Commands that each begin a link, and get the numbers from one on, as a screen gives them since its last reset.
abbrev pub numbered : (first : ℕ) → List (List (List ℕ)) → List Kept → List Kept
numbered first [] links = links
numbered first (parts ∷ others) links = numbered (first + 1) others (links_after first parts links)

abbrev pub AreLinkCommands : List (List (List ℕ)) → Type 0
AreLinkCommands commands = AllByRecursion (λ parts. is_link_command parts ≡ true) commands

-- A table: its places, and how many bytes of HTML links may still take that are begun.
pub record Table : Type 0 where
  pub places : List Kept
  pub spare : ℕ

abbrev pub table : (places : List Kept) → (spare : ℕ) → Table
table places spare = record { places = places; spare = spare }

-- what a line feed earns; it is spare from the start
abbrev pub feed_earns : ℕ
feed_earns = byte_earns * feed_counts

abbrev pub no_links : Table
no_links = table no_places feed_earns

-- what is spare after so many bytes were earned
abbrev pub credited : (earned spare : ℕ) → ℕ
credited earned spare = if nat_lt (spare + earned) max_spare then spare + earned else max_spare

-- A command that begins a link earns what this costs.
abbrev pub command_cost : List (List ℕ) → ℕ
command_cost parts = if is_link_command parts then link_cost (link_of parts) else 0

unfoldable pub spare_after : ℕ → List (List ℕ) → (spare : ℕ) → ℕ
spare_after number parts spare =
    if begins number parts then credited (link_cost (link_of parts)) spare else spare

abbrev pub table_after : ℕ → List (List ℕ) → Table → Table
table_after number parts links =
    table (links_after number parts links.places) (spare_after number parts links.spare)
