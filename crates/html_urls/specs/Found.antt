-- Which addresses stand in the text of a stream, and what a reader of its HTML sees as links.
--
-- This is said of the text, and of no performer. The rule of what an address is, where it begins and how far it goes, is
-- that of specs/Addresses.antt (`may_begin`, `IsRun`, `address_of`, `is_link`); another rule would change these alone.
use Rattle.std.specs.Prelude.{◌≡◌, ℕ, Bool, true, false, ◌⊎◌, List, [], ◌∷◌, ◌++◌, map, if◌then◌else◌}
use Rattle.anstyle_parse.specs.Stream.Call.{Call, print}
use Rattle.ansi_strip.specs.Strip.{stripped_call, stripped}
use Rattle.ansi_html.specs.Links.{link_after}
use Rattle.ansi_html.specs.Affordable.{spare_after, link_kept}
use Rattle.html_urls.specs.Addresses.{is_of_word, may_begin, joins_after, IsRun, address_of, behind_address, target_of, is_link}
use Rattle.html_urls.specs.Linked.{prints, released, linked_after}

-- the text that stands here: what is printed, up to the next call that is no print
abbrev pub printed : List Call → List ℕ
printed (print c ∷ calls) = c ∷ printed calls
printed calls = []

-- A part of a stream: a call as it is, or the characters that are printed of a run, with which an address begins.
pub data Part : Type 0 where
  as_is : Call → Part
  in_run : (run : List ℕ) → Part

-- whether a call prints a character of a scheme
abbrev pub joins_call : Call → Bool
joins_call (print c) = is_of_word c
joins_call call = false

-- The calls are these parts, one after another, and the addresses among them are found: each run begins where one may
-- begin in the text that stands there, and is all of it; and no call as it is stands where one may, unless a link of
-- the stream's own is open.
abbrev pub AreFound : (joins is_linked : Bool) → List Call → List Part → Type 0
AreFound joins is_linked calls [] = calls ≡ []
AreFound joins is_linked calls (as_is call ∷ parts) =
    (rest : List Call) × (calls ≡ call ∷ rest) × ((is_linked ≡ true) ⊎ (may_begin joins (printed calls) ≡ false))
    × AreFound (joins_call call) (linked_after call is_linked) rest parts
AreFound joins is_linked calls (in_run run ∷ parts) =
    (rest : List Call) × (calls ≡ prints run ++ rest) × (is_linked ≡ false) × (may_begin joins (printed calls) ≡ true)
    × IsRun (printed calls) run × AreFound (joins_after joins run) false rest parts

-- from the start of a stream
abbrev pub AreParts : List Call → List Part → Type 0
AreParts calls parts = AreFound false false calls parts

-- the calls of a part, with the commands around the address of a run, if it has one
abbrev pub with_link : Part → List Call
with_link (as_is call) = call ∷ []
with_link (in_run run) = released run

-- the same link for each byte of a text
abbrev pub hrefs_of : (link text : List ℕ) → List (List ℕ)
hrefs_of link text = map (λ b. link) (stripped (prints text))

-- The link of each byte that is left of a stream: in an address the one to it, in what else a run has none, and
-- elsewhere the one that the stream itself has there.
abbrev pub hrefs : (link : List ℕ) → List Part → List (List ℕ)
hrefs link [] = []
hrefs link (as_is call ∷ parts) = map (λ b. link) (stripped_call call) ++ hrefs (link_after call link) parts
hrefs link (in_run run ∷ parts) =
    hrefs_of (if is_link run then target_of (address_of run) else []) (address_of run)
    ++ (hrefs_of [] (behind_address run) ++ hrefs [] parts)

-- What is spare for links in lines, after characters that are printed.
abbrev pub spare_with : (text : List ℕ) → (spare : ℕ) → ℕ
spare_with [] spare = spare
spare_with (c ∷ text) spare = spare_with text (spare_after (print c) spare [])

-- The link of each byte in HTML that is in lines: the same, but that a link of the stream's own ends after a line feed over
-- which it can't pay to go on. An address has none in it.
abbrev pub hrefs_paid : (spare : ℕ) → (link : List ℕ) → List Part → List (List ℕ)
hrefs_paid spare link [] = []
hrefs_paid spare link (as_is call ∷ parts) =
    map (λ b. link) (stripped_call call) ++ hrefs_paid (spare_after call spare link) (link_kept call spare link) parts
hrefs_paid spare link (in_run run ∷ parts) =
    hrefs_of (if is_link run then target_of (address_of run) else []) (address_of run)
    ++ (hrefs_of [] (behind_address run) ++ hrefs_paid (spare_with run spare) [] parts)

-- in blocks, of text or of numbered lines
abbrev pub hrefs_in_blocks : (numbered : Bool) → List Part → List (List ℕ)
hrefs_in_blocks false parts = hrefs [] parts
hrefs_in_blocks true parts = hrefs_paid 0 [] parts
