-- A command has room for each link that is kept.
use Rattle.std.proofs.Common.{◌≡◌, ◌≤◌, ℕ, zero, suc, ◌+◌, ◌%◌, Bool, true, false, ◌&&◌, List, [], ◌∷◌, ◌++◌, codes, cond, length, set, refl, ap, arith, length-append}
use Rattle.std.specs.Prelude.{not, nat_le, nat_lt, ◌==◌, count_by, replicate, slice_index_or, if◌then◌else◌}
use Rattle.std.specs.List.{AllByRecursion, concat, join_with_byte, list_all}
use Rattle.std.proofs.lemmas.Bool.{and_parts, leb-true, ltb-true}
use Rattle.std.proofs.lemmas.List.Splits.{length-slice_split}
use Rattle.std.proofs.lemmas.List.Sums.{sum_by-append, sum_by-cons}
use Rattle.anstyle_parse.specs.Stream.Bytes.{semicolon}
use Rattle.anstyle_parse.specs.Stream.Items.{EachIs}
use Rattle.anstyle_parse.specs.Laws.Lawful.{AreParts}
use Rattle.anstyle_parse.proofs.Lists.Joins.{behind, joined_rest-cons}
use Rattle.anstyle_parse.proofs.Lists.Parts.{length-join_with_byte, spaced-slice_split}
use Rattle.ansi_html.specs.Links.{has_scheme, is_visible, is_linkable, is_link_command, is_whole, uri_of, link_of}
use Rattle.html_urls.specs.Addresses.{max_separators}
use Rattle.html_urls.specs.Linked.{with_room}
use Rattle.html_urls.proofs.TargetLemmas.{all-each, spaced-concat, parts, room-parts, link-parts, fits-none}
use Rattle.screen_html.specs.Links.{Kept, kept, most_kept, no_places, place_of, link_at, links_after}

abbrev is_separator : ℕ → Bool
is_separator b = b == semicolon

-- It has visible bytes alone, and no more than a parser stores, where separators are not counted.
pub record Fits (link : List ℕ) : Type 0 where
  pub visible : EachIs is_visible link
  pub short : length link ≤ 1022 + count_by is_separator link

pub fits-nothing : Fits []
fits-nothing = record { visible = tt; short = omega arith }

-- how many separators stand in a list: in one after another, and behind one
abbrev weight : ℕ → ℕ
weight b = cond (is_separator b) 1 0

count-append : (bytes more : List ℕ) → count_by is_separator (bytes ++ more) ≡ count_by is_separator bytes + count_by is_separator more
count-append bytes more = sum_by-append weight bytes more

count-separator : (bytes : List ℕ) → count_by is_separator (semicolon ∷ bytes) ≡ 1 + count_by is_separator bytes
count-separator bytes = sum_by-cons weight semicolon bytes

-- and in parts that are joined
count-behind : (parts : List (List ℕ)) → length parts ≤ count_by is_separator (behind semicolon parts)
count-behind [] = omega arith
count-behind (part ∷ parts) =
    let rest = behind semicolon parts in
    omega (arith, count-separator (part ++ rest), count-append part rest, count-behind parts)

count-joined : (part : List ℕ) (parts : List (List ℕ)) → length parts ≤ count_by is_separator (join_with_byte semicolon (part ∷ parts))
count-joined part parts =
    omega (
      arith,
      ap (count_by is_separator) (joined_rest-cons true semicolon part parts),
      count-append part (behind semicolon parts),
      count-behind parts,
    )

-- the URI of a command of which nothing was dropped
short-uri : (parts : List (List ℕ)) → is_link_command parts ≡ true → is_whole parts ≡ true
    → length (uri_of parts) ≤ 1022 + count_by is_separator (uri_of parts)
short-uri [] command whole = omega arith
short-uri (number ∷ []) command whole = omega arith
short-uri (number ∷ params ∷ []) command whole = omega arith
short-uri ([] ∷ params ∷ first ∷ others) command whole = absurd (cc command)
short-uri ((b ∷ number) ∷ params ∷ first ∷ others) command whole =
    let parts = (b ∷ number) ∷ params ∷ first ∷ others in
    let fits = and_parts (nat_lt (length parts) 16) (nat_lt (length (concat parts)) 1024) whole in
    omega (
      arith,
      ltb-true (length (concat parts)) 1024 fits.1,
      length-join_with_byte semicolon first others,
      spaced-concat (first ∷ others),
      length-append (b ∷ number) (params ++ concat (first ∷ others)),
      length-append params (concat (first ∷ others)),
      count-joined first others,
    )

fits-link : (parts : List (List ℕ)) → is_link_command parts ≡ true → Fits (link_of parts)
unfolding link_of is_linkable
fits-link parts command = by (is_whole parts) (is_linkable (uri_of parts)) refl refl
  where
    by : (whole linkable : Bool) → is_whole parts ≡ whole → is_linkable (uri_of parts) ≡ linkable
        → Fits (if whole && linkable then uri_of parts else [])
    by true true whole is = record {
      visible = all-each is_visible (uri_of parts) (and_parts (has_scheme (uri_of parts)) (list_all is_visible (uri_of parts)) is).1;
      short = short-uri parts command whole;
    }
    by true false whole is = fits-nothing
    by false linkable whole is = fits-nothing

-- so are the links that are kept
abbrev pub AreFit : List Kept → Type 0
AreFit links = AllByRecursion (λ (it : Kept). Fits it.link) links

fit-replicate : (n : ℕ) → AreFit (replicate n (kept 0 []))
fit-replicate zero = tt
fit-replicate (suc n) = (fits-nothing, fit-replicate n)

pub fit-none : AreFit no_places
fit-none = fit-replicate most_kept

fit-set : (links : List Kept) (i : ℕ) (it : Kept) → Fits it.link → AreFit links → AreFit (set links i it)
fit-set [] i it is are = are
fit-set (one ∷ links) zero it is are = (is, are.1)
fit-set (one ∷ links) (suc i) it is are = (are.0, fit-set links i it is are.1)

fit-get : (links : List Kept) (i : ℕ) → AreFit links → Fits (slice_index_or links i (kept 0 [])).link
fit-get [] i are = fits-nothing
fit-get (one ∷ links) zero are = are.0
fit-get (one ∷ links) (suc i) are = fit-get links i are.1

pub fits-link_at : (number : ℕ) (links : List Kept) → AreFit links → Fits (link_at number links)
unfolding link_at
fits-link_at number links are = by ((place_of number links).number == number)
  where
    by : (t : Bool) → Fits (if t then (place_of number links).link else [])
    by true = fit-get links (number % most_kept) are
    by false = fits-nothing

pub fit-after : (number : ℕ) (parts : List (List ℕ)) (links : List Kept) → AreFit links → AreFit (links_after number parts links)
unfolding links_after
fit-after number parts links are = by (is_link_command parts) (not (number == 0)) refl
  where
    by : (command some : Bool) → is_link_command parts ≡ command
        → AreFit (if command && some then set links (number % most_kept) (kept number (link_of parts)) else links)
    by true true is = fit-set links (number % most_kept) (kept number (link_of parts)) (fits-link parts is) are
    by true false is = are
    by false some is = are

-- the parts of the command that begins a link
pub command-parts : (link : List ℕ) → Fits link → AreParts (codes "8" ∷ [] ∷ parts (with_room link))
command-parts link fits = by (nat_le (count_by is_separator link) max_separators) refl
  where
    by : (room : Bool) → nat_le (count_by is_separator link) max_separators ≡ room
        → AreParts (codes "8" ∷ [] ∷ parts (if room then link else []))
    by true is =
        let few = leb-true (count_by is_separator link) max_separators is in
        let short = fits.short in
        let each = length-slice_split is_separator link in
        room-parts link fits.visible (record {
          few = omega (arith, few, each);
          short = omega (arith, short, each, spaced-concat (parts link), spaced-slice_split semicolon link);
        })
    by false is = link-parts [] tt fits-none
