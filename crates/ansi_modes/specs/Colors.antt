-- The colours that a program asks for: those of the palette, and those of text, background and cursor.
--
-- Sources: xterm's ctlseqs, "Operating System Commands", 4, 10 to 12, 104, 110 to 112; XParseColor(3), "RGB Device String
-- Specification", for how a colour is written. Of its more than eight bits the first eight count, as xterm 379 reports
-- them. Names of colours are not known.
use Rattle.std.specs.Prelude.{ℕ, suc, min, ◌+◌, ◌-◌, ◌*◌, ◌/◌, ◌%◌, Bool, true, false, ◌&&◌, ◌||◌, ◌==◌, nat_le, nat_lt, Option, None, Some, List, [], ◌∷◌, length, take, drop, replicate, slice_set, if◌then◌else◌}
use Rattle.std.specs.List.{list_all}
use Rattle.anstyle_parse.specs.Stream.Bytes.{is_within}
use Rattle.ansi_modes.specs.Fields.{number_of}
use Rattle.ansi_modes.specs.declared.colors.Rgb.{Rgb}
use Rattle.ansi_modes.specs.declared.colors.Colors.{Colors}

-- digits of base 16
unfoldable pub is_hex : ℕ → Bool
is_hex byte = is_within 0x30 0x39 byte || is_within 0x41 0x46 byte || is_within 0x61 0x66 byte

unfoldable pub hex_value : ℕ → ℕ
hex_value byte =
    min 15 (if nat_le byte 0x39 then byte - 0x30 else if nat_le byte 0x46 then byte - 0x37 else byte - 0x57)

-- The first eight bits of one to four digits. A single digit is scaled (rgb:), or is the first four bits (#).
abbrev pub eight_bits : (is_scaled : Bool) → List ℕ → Option ℕ
eight_bits is_scaled (a ∷ []) = Some (hex_value a * (if is_scaled then 17 else 16))
eight_bits is_scaled (a ∷ b ∷ []) = Some (hex_value a * 16 + hex_value b)
eight_bits is_scaled (a ∷ b ∷ c ∷ []) = Some (hex_value a * 16 + hex_value b)
eight_bits is_scaled (a ∷ b ∷ c ∷ d ∷ []) = Some (hex_value a * 16 + hex_value b)
eight_bits is_scaled digits = None

unfoldable pub channel : (is_scaled : Bool) → List ℕ → Option ℕ
channel is_scaled digits = if list_all is_hex digits then eight_bits is_scaled digits else None

-- a colour of three
abbrev pub of_channels : Option ℕ → Option ℕ → Option ℕ → Option Rgb
of_channels (Some red) (Some green) (Some blue) = Some (record { red = red; green = green; blue = blue })
of_channels red green blue = None

-- how many bytes come before the first /
abbrev pub before_slash : List ℕ → ℕ
before_slash [] = 0
before_slash (byte ∷ bytes) = if byte == 0x2F then 0 else suc (before_slash bytes)

-- what comes after it
abbrev pub after_slash : List ℕ → List ℕ
after_slash text = drop 1 (drop (before_slash text) text)

-- rgb:RED/GREEN/BLUE
unfoldable pub slashed : List ℕ → Option Rgb
slashed text =
    of_channels (channel true (take (before_slash text) text))
    (channel true (take (before_slash (after_slash text)) (after_slash text)))
    (channel true (after_slash (after_slash text)))

-- #REDGREENBLUE, a third of the digits each
abbrev pub in_thirds : (n : ℕ) → List ℕ → Option Rgb
in_thirds n digits =
    of_channels (channel false (take n digits)) (channel false (take n (drop n digits))) (channel false (drop n (drop n digits)))

unfoldable pub hashed : List ℕ → Option Rgb
hashed digits = if length digits % 3 == 0 then in_thirds (length digits / 3) digits else None

-- what it is written as decides, in letters of either case
unfoldable pub is_prefix : (r g b : ℕ) → Bool
is_prefix r g b = (r == 0x72 || r == 0x52) && (g == 0x67 || g == 0x47) && (b == 0x62 || b == 0x42)

abbrev pub prefixed : (first : ℕ) → List ℕ → Option Rgb
prefixed first (g ∷ b ∷ colon ∷ text) = if is_prefix first g b && colon == 0x3A then slashed text else None
prefixed first text = None

unfoldable pub rgb_of : List ℕ → Option Rgb
rgb_of [] = None
rgb_of (first ∷ text) = if first == 0x23 then hashed text else prefixed first text

-- the colours of the palette that are asked for, by their numbers
unfoldable pub no_palette : List (Option Rgb)
no_palette = replicate 256 None

abbrev pub no_colors : Colors
no_colors = record { palette = no_palette; foreground = None; background = None; cursor = None }

unfoldable pub with_entry : (index : ℕ) → Option Rgb → List (Option Rgb) → List (Option Rgb)
with_entry index color palette = if nat_lt index 256 then slice_set palette index color else palette

-- OSC 4: pairs of a number and a colour; one that is none of these changes nothing
unfoldable pub with_pair : Option ℕ → Option Rgb → List (Option Rgb) → List (Option Rgb)
with_pair (Some index) (Some color) palette = with_entry index (Some color) palette
with_pair index color palette = palette

abbrev pub with_first_pair : List (List ℕ) → List (Option Rgb) → List (Option Rgb)
with_first_pair [] palette = palette
with_first_pair (index ∷ []) palette = palette
with_first_pair (index ∷ color ∷ parts) palette = with_pair (number_of index) (rgb_of color) palette

abbrev pub after_first : List (List ℕ) → List (List ℕ)
after_first [] = []
after_first (part ∷ parts) = parts

abbrev pub after_pair : List (List ℕ) → List (List ℕ)
after_pair parts = after_first (after_first parts)

unfoldable pub with_two_pairs : List (List ℕ) → List (Option Rgb) → List (Option Rgb)
with_two_pairs parts palette = with_first_pair (after_pair parts) (with_first_pair parts palette)

unfoldable pub with_four_pairs : List (List ℕ) → List (Option Rgb) → List (Option Rgb)
with_four_pairs parts palette = with_two_pairs (after_pair (after_pair parts)) (with_two_pairs parts palette)

-- A command has at most fifteen parts after its number, so eight pairs are all.
unfoldable pub with_pairs : List (List ℕ) → List (Option Rgb) → List (Option Rgb)
with_pairs parts palette =
    with_four_pairs (after_pair (after_pair (after_pair (after_pair parts)))) (with_four_pairs parts palette)

-- OSC 104: each of these numbers is asked for no more; without a number none is
unfoldable pub without : Option ℕ → List (Option Rgb) → List (Option Rgb)
without None palette = palette
without (Some index) palette = with_entry index None palette

abbrev pub without_each : List (List ℕ) → List (Option Rgb) → List (Option Rgb)
without_each [] palette = palette
without_each (index ∷ parts) palette = without_each parts (without (number_of index) palette)

unfoldable pub cleared : List (List ℕ) → List (Option Rgb) → List (Option Rgb)
cleared [] palette = no_palette
cleared (index ∷ parts) palette = without_each (index ∷ parts) palette

-- the colour that the first part is, or else the one before
abbrev pub if_some : Option Rgb → Option Rgb → Option Rgb
if_some None old = old
if_some (Some color) old = Some color

abbrev pub told : List (List ℕ) → Option Rgb → Option Rgb
told [] old = old
told (part ∷ parts) old = if_some (rgb_of part) old

-- OSC 10, 11, 12: the colours of text, background and cursor; each further part is of the next one
abbrev pub with_cursor : List (List ℕ) → Colors → Colors
with_cursor parts c = record c { cursor = told parts c.cursor }

abbrev pub with_background : List (List ℕ) → Colors → Colors
with_background parts c = with_cursor (after_first parts) (record c { background = told parts c.background })

abbrev pub with_foreground : List (List ℕ) → Colors → Colors
with_foreground parts c = with_background (after_first parts) (record c { foreground = told parts c.foreground })

unfoldable pub with_dynamic : (number : ℕ) → List (List ℕ) → Colors → Colors
with_dynamic number parts c =
    if number == 10 then with_foreground parts c
    else if number == 11 then with_background parts c
    else if number == 12 then with_cursor parts c
    else c

-- OSC 110, 111, 112
unfoldable pub without_dynamic : (number : ℕ) → Colors → Colors
without_dynamic number c = record c {
  foreground = if number == 110 then None else c.foreground;
  background = if number == 111 then None else c.background;
  cursor = if number == 112 then None else c.cursor;
}
