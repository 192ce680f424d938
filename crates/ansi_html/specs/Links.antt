-- The links of a stream.
--
-- Source: Egmont Koblinger, "Hyperlinks (a.k.a. HTML-like anchors) in terminal emulators" (the gist
-- egmontkob/eb114294efbcd5adb1944c9f3cb5feda): `OSC 8 ; params ; URI ST` begins a link, and
-- `OSC 8 ; ; ST` ends it. A link is its URI, and none is the empty list.
use Rattle.std.specs.Prelude.{◌≡◌, ℕ, ◌⊎◌, Bool, false, ◌||◌, ◌&&◌, nat_le, nat_lt, nat_eq, ◌==◌, not, List, [], ◌∷◌, ◌++◌, codes, length, filter, IsTrue, if◌then◌else◌}
use Rattle.std.specs.Str.{bytes_eq}
use Rattle.std.specs.List.{list_all, concat, starts_with, join_with_byte}
use Rattle.anstyle_parse.specs.Stream.Bytes.{semicolon}
use Rattle.anstyle_parse.specs.Stream.Items.{EachIs}
use Rattle.anstyle_parse.specs.Stream.Arguments.{max_osc_bytes, max_osc_parts, is_kept}
use Rattle.anstyle_parse.specs.Stream.Call.{Call, osc_dispatch}

-- one of three schemes, of which none runs a script (RFC 9110, 4.2; RFC 6068)
unfoldable pub has_scheme : List ℕ → Bool
has_scheme uri =
    starts_with nat_eq uri (codes "https://")
    || (starts_with nat_eq uri (codes "http://") || starts_with nat_eq uri (codes "mailto:"))

-- ASCII without controls and the space (RFC 3986, 2)
abbrev pub is_visible : ℕ → Bool
is_visible b = nat_le 0x21 b && nat_le b 0x7E

-- such bytes stand first, and these are left
abbrev pub BeginWithVisible : List ℕ → (left : List ℕ) → Type 0
BeginWithVisible bytes left = (front : List ℕ) × EachIs is_visible front × (bytes ≡ front ++ left)

-- a URI that a link may have
unfoldable pub is_linkable : List ℕ → Bool
is_linkable uri = has_scheme uri && list_all is_visible uri

-- a link that may stand in the HTML: none, or such a URI
abbrev pub IsLink : List ℕ → Type 0
IsLink link = (link ≡ []) ⊎ IsTrue (is_linkable link)

abbrev pub is_none : List ℕ → Bool
is_none link = length link == 0

-- whether a command is OSC 8, by its first part
abbrev pub is_link_command : List (List ℕ) → Bool
is_link_command [] = false
is_link_command (number ∷ others) = bytes_eq number (codes "8")

-- The parser hands on sixteen parts at most, and stores 1,024 bytes. Of fewer nothing was dropped.
abbrev pub is_whole : List (List ℕ) → Bool
is_whole parts = nat_lt (length parts) max_osc_parts && nat_lt (length (concat parts)) max_osc_bytes

-- the URI of such a command: all after the second separator, also where the parser parted it
abbrev pub uri_of : List (List ℕ) → List ℕ
uri_of [] = []
uri_of (number ∷ []) = []
uri_of (number ∷ params ∷ uri) = join_with_byte semicolon uri

-- The link that it selects; none where its URI is empty, is not one of these, or was cut.
unfoldable pub link_of : List (List ℕ) → List ℕ
link_of parts = if is_whole parts && is_linkable (uri_of parts) then uri_of parts else []

-- The text of a command says a link: that is all of it, but for the controls that a parser drops,
-- after `8;`, the parameters, which have no separator, and one separator.
pub record SaysLink (text link : List ℕ) : Type 0 where
  pub params : List ℕ
  pub no_separator : EachIs (λ b. not (b == semicolon)) params
  pub whole : filter is_kept text ≡ codes "8;" ++ (params ++ (semicolon ∷ link))

-- the link after a call
abbrev pub link_after : Call → List ℕ → List ℕ
link_after (osc_dispatch parts bell_terminated) link = if is_link_command parts then link_of parts else link
link_after call link = link

-- One more than the bytes that a link has at most: 1,023 that the parser stores, the `8` among them, and twelve
-- separators between thirteen parts.
abbrev pub max_link : ℕ
max_link = 1035

-- A link that was written down; none where no link may have these bytes.
abbrev pub kept_link : List ℕ → List ℕ
kept_link link = if nat_le (length link) max_link && is_linkable link then link else []
