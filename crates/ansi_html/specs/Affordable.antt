-- Which links go on over line feeds in HTML that is in lines. There a link is begun anew in each line, and pays for it with
-- what its text has earned: so no input costs more than so many times its length.
use Rattle.std.specs.Prelude.{ℕ, Bool, true, ◌&&◌, not, nat_le, nat_lt, ◌+◌, ◌*◌, ◌-◌, List, [], ◌∷◌, ◌++◌, codes, length, if◌then◌else◌, ◌≤◌}
use Rattle.std.specs.List.{AllByRecursion}
use Rattle.anstyle_parse.specs.Stream.Call.{Call, osc_dispatch}
use Rattle.ansi_strip.specs.Strip.{stripped_call}
use Rattle.ansi_html.specs.Links.{link_after}
use Rattle.ansi_html.specs.Html.{escaped_text, after_text, is_executed}

-- What a byte of text earns, in bytes of HTML. A byte of a stream makes four of them at most (U+FFFD is three), which earn
-- 100: so much a byte that ends no line leaves of the bound of lines, also by classes.
abbrev pub byte_earns : ℕ
byte_earns = 25

-- A line feed earns as much as so many bytes: 100, so that a link of a hundred bytes goes on over empty lines too.
abbrev pub feed_counts : ℕ
feed_counts = 4

-- The most that is kept of what was earned: enough for 160 of the longest links.
abbrev pub max_spare : ℕ
max_spare = 1000000

-- what is spare after so many bytes of text
abbrev pub earned : (count spare : ℕ) → ℕ
earned count spare = if nat_lt (spare + byte_earns * count) max_spare then spare + byte_earns * count else max_spare

abbrev pub earned_by_text : (text : List ℕ) → (spare : ℕ) → ℕ
earned_by_text text spare = after_text spare (earned (length text) spare) text

-- A link costs as many bytes as it has in the HTML. It goes on in the next line if as many are spare.
abbrev pub link_cost : (link : List ℕ) → ℕ
link_cost link = length (escaped_text link)

abbrev pub is_paid : (spare : ℕ) → (link : List ℕ) → Bool
is_paid spare link = nat_le (link_cost link) spare

abbrev pub link_paid : (spare : ℕ) → (link : List ℕ) → List ℕ
link_paid spare link = if is_paid spare link then link else []

abbrev pub left_of : (spare : ℕ) → (link : List ℕ) → ℕ
left_of spare link = if is_paid spare link then spare - link_cost link else spare

-- what is spare after a call, and the link that is then selected
abbrev pub spare_after : Call → (spare : ℕ) → (link : List ℕ) → ℕ
spare_after call spare link =
    if is_executed 0x0A call then left_of (earned feed_counts spare) (link_after call link)
    else earned_by_text (stripped_call call) spare

abbrev pub link_kept : Call → (spare : ℕ) → (link : List ℕ) → List ℕ
link_kept call spare link =
    if is_executed 0x0A call then link_paid (earned feed_counts spare) (link_after call link) else link_after call link

-- The command that ends a link: `OSC 8 ; ; BEL`.
abbrev pub end_of_link : Call
end_of_link = osc_dispatch (codes "8" ∷ [] ∷ [] ∷ []) true

abbrev pub end_unpaid : Call → (spare : ℕ) → (link : List ℕ) → List Call
end_unpaid call spare link =
    if is_executed 0x0A call && not (is_paid (earned feed_counts spare) (link_after call link)) then end_of_link ∷ [] else []

-- The calls of a stream as if it ended each link after the first line feed over which that can't pay to go on.
abbrev pub affordable_from : (spare : ℕ) → (link : List ℕ) → List Call → List Call
affordable_from spare link [] = []
affordable_from spare link (call ∷ calls) =
    call ∷ (end_unpaid call spare link ++ affordable_from (spare_after call spare link) (link_kept call spare link) calls)

abbrev pub affordable : List Call → List Call
affordable calls = affordable_from 0 [] calls

-- No link that calls select has more bytes in the HTML than a line feed earns.
abbrev pub HasShortLinks : List Call → Type 0
HasShortLinks calls = AllByRecursion (λ call. link_cost (link_after call []) ≤ byte_earns * feed_counts) calls
