-- Which characters show, and where one that shows nothing may stay.
--
-- Sources: The Unicode Standard 15.0, 5.21 (Default_Ignorable_Code_Point) and 23.2 (joiners); Unicode Technical
-- Standards 39, 5.4 (such characters are hidden in identifiers) and 51, ED-16 (a joiner in an emoji) and ED-8 (its
-- presentation); RFC 5892, A.1 and A.2 (where joiners may stand in a name).
use Rattle.std.specs.Prelude.{ℕ, Bool, true, false, ◌&&◌, ◌||◌, ◌==◌, nat_le, not, List, [], ◌∷◌, if◌then◌else◌}
use Rattle.anstyle_parse.specs.Stream.Bytes.{is_within}
use Rattle.safe_text.specs.Ranges.{hidden, pictographic, virama, joins_next, joins_previous, unspaced}

-- whether a number is in one of the ranges, which are in ascending order: the first that ends
-- at it or past it decides
unfoldable pub is_among : ℕ → List (ℕ × ℕ) → Bool
is_among n [] = false
is_among n (range ∷ ranges) = if nat_le n range.1 then nat_le range.0 n else is_among n ranges

-- the ranges end one after another
abbrev pub ends_from : ℕ → List (ℕ × ℕ) → Bool
ends_from n [] = true
ends_from n (range ∷ ranges) = nat_le n range.1 && ends_from range.1 ranges

abbrev pub ends_ascend : List (ℕ × ℕ) → Bool
ends_ascend ranges = ends_from 0 ranges

-- A character that shows or is blank: a tab, a line feed, and each that is neither a control nor of those that say
-- how text is ordered or divided, or show nothing.
unfoldable pub is_shown : ℕ → Bool
is_shown c = c == 0x09 || c == 0x0A || not (is_among c hidden)

-- Those of the others that may stay between their neighbours: ZERO WIDTH SPACE, NON-JOINER and JOINER, and the two
-- variation selectors of emoji.
unfoldable pub is_joiner : ℕ → Bool
is_joiner c = c == 0x200B || c == 0x200C || c == 0x200D || c == 0xFE0E || c == 0xFE0F

-- ZERO WIDTH SPACE, in scripts that are written without spaces
unfoldable pub space_stays : (before next : ℕ) → Bool
space_stays before next = is_among before unspaced && is_among next unspaced

-- ZERO WIDTH NON-JOINER, after a virama, or between letters that would join
unfoldable pub non_joiner_stays : (before next : ℕ) → Bool
non_joiner_stays before next =
    is_among before virama || is_among before joins_next && is_among next joins_previous

-- ZERO WIDTH JOINER, after a virama, or between two emoji: the first may have a skin tone or a selector
unfoldable pub joiner_stays : (before next : ℕ) → Bool
joiner_stays before next =
    is_among before virama
    || (is_among before pictographic || is_within 0x1F3FB 0x1F3FF before || before == 0xFE0F)
    && is_among next pictographic

-- a variation selector, after an emoji, or between a digit, # or * and U+20E3, the keycap around it
unfoldable pub selector_stays : (before next : ℕ) → Bool
selector_stays before next =
    is_among before pictographic
    || (is_within 0x30 0x39 before || before == 0x23 || before == 0x2A) && next == 0x20E3

-- whether a joiner stays
unfoldable pub stays : (before c next : ℕ) → Bool
stays before c next =
    if c == 0x200B then space_stays before next else if c == 0x200C then non_joiner_stays before next
    else if c == 0x200D then joiner_stays before next
    else if c == 0xFE0E || c == 0xFE0F then selector_stays before next else false

-- The class of the characters of safe text.
abbrev pub is_of_safe_text : ℕ → Bool
is_of_safe_text c = is_shown c || is_joiner c
