-- Addresses in a text, and what a link to one has.
--
-- Sources: RFC 3986, 2 (the characters of a URI), 2.1 (an escaped byte) and 3.1 (the characters of a scheme, which is
-- the same in letters of any case); RFC 3987, 2.2 and 4.1 (the characters of an IRI beyond ASCII) and 3.1 (the URI of
-- an IRI); GitHub Flavored Markdown, 6.9 ("Autolinks (extension)"), for what stands after an address: marks at its end,
-- what looks like an entity, and brackets that it does not open.
use Rattle.std.specs.Prelude.{◌≡◌, ◌<◌, ◌≤◌, ◌+◌, ◌/◌, ◌%◌, ℕ, zero, suc, Bool, true, false, not, ◌||◌, ◌&&◌, ◌⊎◌, nat_le, nat_lt, nat_eq, ◌==◌, List, [], ◌∷◌, ◌++◌, codes, length, map, take, drop, count_by, encode_utf8, ⊤, if◌then◌else◌}
use Rattle.std.specs.Char.{to_ascii_lowercase, is_ascii_alphanumeric}
use Rattle.std.specs.List.{flat_map, starts_with}
use Rattle.anstyle_parse.specs.Stream.Bytes.{semicolon}
use Rattle.anstyle_parse.specs.Stream.Items.{EachIs}
use Rattle.ansi_html.specs.Links.{has_scheme}

abbrev pub is_between : (first last : ℕ) → ℕ → Bool
is_between first last c = nat_le first c && nat_le c last

-- a letter, a digit, `+`, `-` or `.`: a character of a scheme, right after which none begins
abbrev pub is_of_word : ℕ → Bool
is_of_word c =
    is_between 0x30 0x39 c
    || (is_between 0x41 0x5A c || (is_between 0x61 0x7A c || (nat_eq c 0x2B || (nat_eq c 0x2D || nat_eq c 0x2E))))

-- a character of a URI: 21 to 7E but `"`, `<`, `>`, `\`, `^`, the grave accent, `{`, `|` and `}`
abbrev pub is_of_uri : ℕ → Bool
is_of_uri c =
    nat_eq c 0x21
    || (is_between 0x23 0x3B c || (nat_eq c 0x3D || (is_between 0x3F 0x5B c
    || (nat_eq c 0x5D || (nat_eq c 0x5F || (is_between 0x61 0x7A c || nat_eq c 0x7E))))))

-- one of an IRI beyond ASCII: no space, no control of direction, and none of those with which tables are drawn (2500 to
-- 259F)
abbrev pub is_beyond_uri : ℕ → Bool
is_beyond_uri c =
    is_between 0xA1 0x167F c
    || (is_between 0x1681 0x1FFF c || (is_between 0x200C 0x200D c || (is_between 0x2010 0x2027 c
    || (is_between 0x2030 0x205E c || (is_between 0x2070 0x24FF c || (is_between 0x25A0 0x2FFF c
    || (is_between 0x3001 0xD7FF c || (is_between 0xF900 0xFDCF c || (is_between 0xFDF0 0xFFEF c
    || is_between 0x1_0000 0xD_FFFD c)))))))))

abbrev pub is_of_address : ℕ → Bool
is_of_address c = is_of_uri c || is_beyond_uri c

-- a text with its letters of ASCII in small
abbrev pub in_small : List ℕ → List ℕ
in_small text = map to_ascii_lowercase text

-- one of the three schemes of links stands first
abbrev pub says_scheme : (text : List ℕ) → Bool
says_scheme text = has_scheme (in_small text)

-- in small letters, it begins with the text, or is it
unfoldable pub begins_small : (text : List ℕ) → Bool
begins_small text =
    starts_with nat_eq (codes "https://") text
    || (starts_with nat_eq (codes "http://") text || starts_with nat_eq (codes "mailto:") text)

abbrev pub begins_scheme : (text : List ℕ) → Bool
begins_scheme text = begins_small (in_small text)

-- What has come, if anything, goes on with a character: after a scheme with any of an address, and before with the
-- scheme's.
abbrev pub max_held : ℕ
max_held = 1023

abbrev pub goes_on : (text : List ℕ) → ℕ → Bool
goes_on [] c = false
goes_on (first ∷ text) c =
    nat_lt (length (first ∷ text)) max_held
    && (if says_scheme (first ∷ text) then is_of_address c else begins_scheme ((first ∷ text) ++ c ∷ []))

-- `? ! . , : ; * _ ~`, quotes and dashes, and marks of Chinese and Japanese
abbrev pub is_mark : ℕ → Bool
is_mark c =
    nat_eq c 0x3F
    || (nat_eq c 0x21 || (nat_eq c 0x2E || (nat_eq c 0x2C || (is_between 0x3A 0x3B c || (nat_eq c 0x2A
    || (nat_eq c 0x5F || (nat_eq c 0x7E || (nat_eq c 0x27 || (nat_eq c 0xAB || (nat_eq c 0xBB
    || (is_between 0x2010 0x205E c || (is_between 0x3001 0x3003 c || (is_between 0x3008 0x301F c
    || (is_between 0xFF01 0xFF0F c || is_between 0xFF1A 0xFF20 c))))))))))))))

-- more brackets are closed than opened
abbrev pub is_unmatched : (text : List ℕ) → (opening closing : ℕ) → Bool
is_unmatched text opening closing =
    nat_lt (count_by (λ c. c == opening) text) (count_by (λ c. c == closing) text)

abbrev pub last_of : List ℕ → ℕ
last_of [] = 0
last_of (c ∷ []) = c
last_of (c ∷ next ∷ text) = last_of (next ∷ text)

-- the last character stands after the address: a bracket that is not opened, or a mark
abbrev pub is_behind : (text : List ℕ) → (last : ℕ) → Bool
is_behind text last =
    if last == 0x29 then is_unmatched text 0x28 0x29
    else if last == 0x5D then is_unmatched text 0x5B 0x5D
    else is_mark last

abbrev pub ends_behind : (text : List ℕ) → Bool
ends_behind text = is_behind text (last_of text)

-- `&` and letters or digits stand at the end of a text, at least one of these: where they did before it or not.
abbrev pub ends_entity : (opened named : Bool) → List ℕ → Bool
ends_entity opened named [] = opened && named
ends_entity opened named (c ∷ text) =
    ends_entity (nat_eq c 0x26 || (opened && is_ascii_alphanumeric c)) (is_ascii_alphanumeric c) text

-- A text ends within what looks like an entity, `&`, letters or digits and `;`, of which the rest stands behind it.
abbrev pub parts_entity : (text behind : List ℕ) → Bool
parts_entity text [] = false
parts_entity text (c ∷ behind) =
    if nat_eq c 0x3B then ends_entity false false text
    else is_ascii_alphanumeric c && parts_entity (text ++ c ∷ []) behind

-- More than the address stands in a text, before what stands behind it.
abbrev pub goes_past : (text behind : List ℕ) → Bool
goes_past text behind = ends_behind text || parts_entity text behind

-- how many of the first characters are the address: all, without those that stand after it
abbrev pub address_length : (count : ℕ) → (text : List ℕ) → ℕ
address_length zero text = 0
address_length (suc count) text =
    if goes_past (take (suc count) text) (drop (suc count) text) then address_length count text else suc count

abbrev pub address_of : (text : List ℕ) → List ℕ
address_of text = take (address_length (length text) text) text

abbrev pub behind_address : (text : List ℕ) → List ℕ
behind_address text = drop (address_length (length text) text) text

-- a scheme, and more after it
unfoldable pub is_address : (text : List ℕ) → Bool
is_address text = says_scheme text && not (begins_scheme text)

-- A byte as `%` and two digits; and a character in a link, where each byte of one beyond ASCII stands so.
abbrev pub digit : ℕ → ℕ
digit n = if nat_lt n 10 then 0x30 + n else 0x37 + n

abbrev pub escaped : ℕ → List ℕ
escaped b = 0x25 ∷ digit (b / 16 % 16) ∷ digit (b % 16) ∷ []

abbrev pub in_link : ℕ → List ℕ
in_link c = if nat_lt c 0x80 then c ∷ [] else flat_map escaped (encode_utf8 c)

-- the scheme that stands first, in small letters
abbrev pub scheme_of : List ℕ → List ℕ
scheme_of text =
    if starts_with nat_eq (in_small text) (codes "https://") then codes "https://"
    else if starts_with nat_eq (in_small text) (codes "http://") then codes "http://"
    else if starts_with nat_eq (in_small text) (codes "mailto:") then codes "mailto:"
    else []

-- What a link to an address has: its scheme in small letters, and what stands after it, in ASCII.
unfoldable pub target_of : (address : List ℕ) → List ℕ
target_of address = scheme_of address ++ flat_map in_link (drop (length (scheme_of address)) address)

-- A command has room for it: the parser stores 1,024 bytes in sixteen parts, and of fewer nothing was cut.
abbrev pub max_separators : ℕ
max_separators = 12

unfoldable pub fits : (target : List ℕ) → Bool
fits target =
    nat_lt (length target) max_held && nat_le (count_by (λ b. b == semicolon) target) max_separators

-- Where an address may begin in a text: where a scheme stands, and right before it no character of one.
abbrev pub may_begin : (joins : Bool) → (text : List ℕ) → Bool
may_begin joins text = not joins && says_scheme text

-- whether a character of a scheme stands at the end of a text, where one stood before it or not
abbrev pub joins_after : (joins : Bool) → (text : List ℕ) → Bool
joins_after joins [] = joins
joins_after joins (c ∷ text) = joins_after (is_of_word c) text

-- a text that begins with no character of an address
abbrev pub IsOffAddress : List ℕ → Type 0
IsOffAddress [] = ⊤
IsOffAddress (c ∷ text) = is_of_address c ≡ false

-- How far it may go: a run are all the characters of an address with which a text begins; of more than 1,023 it is the
-- first so many, and then no address.
pub record IsRun (text run : List ℕ) : Type 0 where
  pub behind : List ℕ
  pub joined : text ≡ run ++ behind
  pub each : EachIs is_of_address run
  pub most : length run ≤ max_held
  pub ends : (length run ≡ max_held) ⊎ IsOffAddress behind

-- whether a run is a link: it was not cut, what it has is an address, and there is room for that
abbrev pub is_link : (run : List ℕ) → Bool
is_link run =
    nat_lt (length run) max_held && (is_address (address_of run) && fits (target_of (address_of run)))

-- What of a run is the address: the longest front of it that ends neither with a character that stands after an address
-- nor within what looks like an entity.
pub record IsAddressOf (run address : List ℕ) : Type 0 where
  pub behind : List ℕ
  pub joined : run ≡ address ++ behind
  pub ends : (address ≡ []) ⊎ (goes_past address behind ≡ false)
  pub longest : (n : ℕ) → length address < n → n ≤ length run → goes_past (take n run) (drop n run) ≡ true
