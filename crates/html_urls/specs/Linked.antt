-- The calls of a stream in which addresses in its text are links (OSC 8).
use Rattle.std.specs.Prelude.{ℕ, Bool, true, false, not, nat_le, ◌&&◌, ◌==◌, List, [], ◌∷◌, ◌++◌, codes, count_by, map, if◌then◌else◌}
use Rattle.std.specs.List.{slice_split}
use Rattle.anstyle_parse.specs.Stream.Bytes.{semicolon}
use Rattle.anstyle_parse.specs.Stream.Call.{Call, print, osc_dispatch}
use Rattle.ansi_html.specs.Links.{is_none, is_link_command, uri_of}
use Rattle.html_urls.specs.Addresses.{max_separators, is_of_word, begins_scheme, goes_on, address_of, behind_address, target_of, is_link}

-- Where a stream stands: what may become an address is held back; whether the last character is one of a scheme; and
-- whether a link of the stream's own is open, whose text stays as it is.
pub record Standing : Type 0 where
  pub held : List ℕ
  pub is_within : Bool
  pub is_linked : Bool

abbrev pub standing : (held : List ℕ) → (is_within is_linked : Bool) → Standing
standing held is_within is_linked = record { held = held; is_within = is_within; is_linked = is_linked }

abbrev pub at_start : Standing
at_start = standing [] false false

-- the command that begins a link, parted at its separators as a parser would, or, of none, ends it
abbrev pub link_command : (target : List ℕ) → Call
link_command target = osc_dispatch (codes "8" ∷ [] ∷ slice_split (λ b. b == semicolon) target) false

-- A link for whose separators a command has no room is none.
abbrev pub with_room : (link : List ℕ) → List ℕ
with_room link = if nat_le (count_by (λ b. b == semicolon) link) max_separators then link else []

abbrev pub prints : List ℕ → List Call
prints text = map print text

-- What was held back, where it does not go on: as a link, if it is an address that was held whole, or as it is.
abbrev pub released_as : (is_link : Bool) → (address behind text : List ℕ) → List Call
released_as true address behind text =
    link_command (target_of address) ∷ prints address ++ (link_command [] ∷ prints behind)
released_as false address behind text = prints text

abbrev pub released : (text : List ℕ) → List Call
released text = released_as (is_link text) (address_of text) (behind_address text) text

-- An address begins with a character: at the start of a word.
abbrev pub begins : Standing → ℕ → Bool
begins at c = not at.is_within && begins_scheme (c ∷ [])

-- a character that is printed, where no link is open: what is then handed on, and what is held
abbrev pub handed_character : Standing → ℕ → List Call
handed_character at c =
    if goes_on at.held c then [] else released at.held ++ (if begins at c then [] else print c ∷ [])

abbrev pub held_character : Standing → ℕ → List ℕ
held_character at c =
    if goes_on at.held c then at.held ++ c ∷ [] else if begins at c then c ∷ [] else []

-- a link of the stream's own is open, as far as its commands say, whichever its URI
abbrev pub linked_after : Call → (is_linked : Bool) → Bool
linked_after (osc_dispatch parts bell_terminated) is_linked =
    if is_link_command parts then not (is_none (uri_of parts)) else is_linked
linked_after call is_linked = is_linked

-- what is handed on by a call, and where it leads: any but a print ends what is held
abbrev pub handed : Standing → Call → List Call
handed at (print c) = if at.is_linked then print c ∷ [] else handed_character at c
handed at call = released at.held ++ call ∷ []

abbrev pub standing_after : Standing → Call → Standing
standing_after at (print c) = if at.is_linked then at else standing (held_character at c) (is_of_word c) false
standing_after at call = standing [] false (linked_after call at.is_linked)

-- by calls, one after another
abbrev pub handed_from : Standing → List Call → List Call
handed_from at [] = []
handed_from at (call ∷ calls) = handed at call ++ handed_from (standing_after at call) calls

abbrev pub standing_at_end : Standing → List Call → Standing
standing_at_end at [] = at
standing_at_end at (call ∷ calls) = standing_at_end (standing_after at call) calls

-- what is still held after the calls, and is handed on at the end
abbrev pub left_from : Standing → List Call → List Call
left_from at calls = released (standing_at_end at calls).held

-- The calls of a stream whose addresses are links.
abbrev pub linked : List Call → List Call
linked calls = handed_from at_start calls ++ left_from at_start calls
