-- The lines of a log: for each call one line, which is ended by 0A.
use Rattle.std.specs.Prelude.{ℕ, ◌+◌, ◌/◌, ◌%◌, Bool, true, false, nat_lt, List, [], ◌∷◌, ◌++◌, codes, if◌then◌else◌}
use Rattle.std.specs.List.{flat_map}
use Rattle.anstyle_parse.specs.Stream.Call.{Call, print, execute, hook, put, unhook, osc_dispatch, csi_dispatch, esc_dispatch}
use Rattle.anstyle_parse.specs.Stream.Groups.{groups_text}

abbrev pub newline : ℕ
newline = 0x0A

-- the last hexadecimal digit of a number, in upper case: 0x30 is 0, and 0x41 is A
abbrev pub hex_digit : ℕ → ℕ
hex_digit n = if nat_lt (n % 16) 10 then 0x30 + n % 16 else 0x37 + n % 16

-- a byte, in two digits
abbrev pub hex_byte : ℕ → List ℕ
hex_byte b = hex_digit (b / 16) ∷ hex_digit b ∷ []

-- bytes, with nothing between them; - where there are none
abbrev pub hex_list : List ℕ → List ℕ
hex_list [] = codes "-"
hex_list (b ∷ bytes) = flat_map hex_byte (b ∷ bytes)

-- a character's number, in at least four digits
abbrev pub four_digits : ℕ → List ℕ
four_digits c = hex_digit (c / 0x1000) ∷ hex_digit (c / 0x100) ∷ hex_digit (c / 0x10) ∷ hex_digit c ∷ []

abbrev pub character_number : ℕ → List ℕ
character_number c =
    if nat_lt c 0x10000 then four_digits c
    else if nat_lt c 0x100000 then hex_digit (c / 0x10000) ∷ four_digits c
    else hex_digit (c / 0x100000) ∷ hex_digit (c / 0x10000) ∷ four_digits c

abbrev pub truth : Bool → List ℕ
truth true = codes "true"
truth false = codes "false"

-- each part, with a space before it
abbrev pub parts_text : List (List ℕ) → List ℕ
parts_text parts = flat_map (λ part. codes " " ++ hex_list part) parts

-- the intermediates, whether more came than are shown, and the final byte
abbrev pub end_text : List ℕ → Bool → ℕ → List ℕ
end_text intermediates ignore final =
    hex_list intermediates ++ (codes " " ++ (truth ignore ++ (codes " " ++ hex_byte final)))

-- the groups of a header, and these
abbrev pub line_header : List (List ℕ) → List ℕ → Bool → ℕ → List ℕ
line_header groups intermediates ignore final =
    codes "[" ++ (groups_text groups ++ (codes "] " ++ end_text intermediates ignore final))

-- the line of a call, without its end
abbrev pub line_text : Call → List ℕ
line_text (print character) = codes "print U+" ++ character_number character
line_text (execute byte) = codes "execute " ++ hex_byte byte
line_text (hook groups intermediates ignore final) = codes "hook " ++ line_header groups intermediates ignore final
line_text (put byte) = codes "put " ++ hex_byte byte
line_text unhook = codes "unhook"
line_text (osc_dispatch parts bell_terminated) = codes "osc_dispatch " ++ (truth bell_terminated ++ parts_text parts)
line_text (csi_dispatch groups intermediates ignore final) =
    codes "csi_dispatch " ++ line_header groups intermediates ignore final
line_text (esc_dispatch intermediates ignore final) = codes "esc_dispatch " ++ end_text intermediates ignore final

abbrev pub line : Call → List ℕ
line call = line_text call ++ newline ∷ []

-- the lines of the calls, joined
abbrev pub lines : List Call → List ℕ
lines calls = flat_map line calls
