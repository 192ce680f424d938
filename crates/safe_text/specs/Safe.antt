-- Safe text: the characters of a stream, each as it is or written visibly.
use Rattle.std.specs.List.{flat_map}
use Rattle.std.specs.Str.{chars, encode_utf8_all}
use Rattle.std.specs.Prelude.{ℕ, ◌+◌, ◌/◌, ◌%◌, Bool, true, false, ◌&&◌, ◌||◌, ◌==◌, nat_lt, not, List, [], ◌∷◌, ◌++◌, ⊤, IsTrue, if◌then◌else◌, codes}
use Rattle.anstyle_parse.specs.Stream.Call.{Call, print, execute}
use Rattle.safe_text.specs.Classes.{is_shown, stays}

-- the characters of a call: one that is printed, or a control that is executed
abbrev pub characters_of : Call → List ℕ
characters_of (print character) = character ∷ []
characters_of (execute byte) = byte ∷ []
characters_of call = []

abbrev pub characters : List Call → List ℕ
characters calls = flat_map characters_of calls

-- a number below 16 as a digit, 0 to 9 and A to F
unfoldable pub hex_digit : ℕ → ℕ
hex_digit n = if nat_lt n 10 then 0x30 + n else 0x37 + n

-- a number in base 16: at least four digits, and at most six
abbrev pub low_digits : ℕ → List ℕ
low_digits n =
    hex_digit (n / 0x1000 % 16) ∷ hex_digit (n / 0x100 % 16) ∷ hex_digit (n / 0x10 % 16) ∷ hex_digit (n % 16) ∷ []

abbrev pub hex_digits : ℕ → List ℕ
hex_digits n =
    if nat_lt n 0x10000 then low_digits n
    else if nat_lt n 0x100000 then hex_digit (n / 0x10000 % 16) ∷ low_digits n
    else hex_digit (n / 0x100000 % 16) ∷ hex_digit (n / 0x10000 % 16) ∷ low_digits n

-- Two marks may stand among characters, as numbers past the last one: here text begins that is hidden, and here it ends
-- (specs/Marks.antt).
abbrev pub hides : ℕ
hides = 0x110000

abbrev pub shows : ℕ
shows = 0x110001

-- what names a character, its number, or a mark: `hidden` or `shown`
abbrev pub name_of : ℕ → List ℕ
name_of c = if c == hides then codes "hidden" else if c == shows then codes "shown" else hex_digits c

-- What is written visibly, a character as `less` does: `<U+`, its name, `>`.
unfoldable pub visible : ℕ → List ℕ
visible c = 0x3C ∷ 0x55 ∷ 0x2B ∷ (name_of c ++ 0x3E ∷ [])

-- what comes first, or 0, and what comes after it
abbrev pub next_of : List ℕ → ℕ
next_of [] = 0
next_of (c ∷ after) = c

abbrev pub rest_of : List ℕ → List ℕ
rest_of [] = []
rest_of (c ∷ after) = after

-- whether `U+` comes first: after `<` that would look as one that is written visibly
abbrev pub begins_mark : List ℕ → Bool
begins_mark after = next_of after == 0x55 && next_of (rest_of after) == 0x2B

-- what ends a line: LF, VT and FF
abbrev pub is_line_end : ℕ → Bool
is_line_end c = c == 0x0A || c == 0x0B || c == 0x0C

-- a carriage return before a line feed
abbrev pub is_of_line_end : ℕ → (after : List ℕ) → Bool
is_of_line_end c after = c == 0x0D && next_of after == 0x0A

-- Whether a character is safe between what is written before it and what comes after it: it shows, and begins no
-- text that looks as one that is written visibly; or it is a joiner that stays there.
abbrev pub is_safe : (before c : ℕ) → (after : List ℕ) → Bool
is_safe before c after = is_shown c && not (c == 0x3C && begins_mark after) || stays before c (next_of after)

-- what is written of a character: a line feed for the end of a line, nothing of a carriage return before one,
-- itself where it is safe, and else what shows it
abbrev pub written_as : (line_end of_line_end safe : Bool) → ℕ → List ℕ
written_as true _ _ c = 0x0A ∷ []
written_as false true _ c = []
written_as false false true c = c ∷ []
written_as false false false c = visible c

unfoldable pub written : (before c : ℕ) → (after : List ℕ) → List ℕ
written before c after = written_as (is_line_end c) (is_of_line_end c after) (is_safe before c after) c

-- what then is written last
abbrev pub last_as : (line_end of_line_end safe : Bool) → (before c : ℕ) → ℕ
last_as true _ _ before c = 0x0A
last_as false true _ before c = before
last_as false false true before c = c
last_as false false false before c = 0x3E

unfoldable pub last_written : (before c : ℕ) → (after : List ℕ) → ℕ
last_written before c after = last_as (is_line_end c) (is_of_line_end c after) (is_safe before c after) before c

-- What is written of characters, after one that is written before them. At the start that is none: 0.
abbrev pub safe_from : ℕ → List ℕ → List ℕ
safe_from before [] = []
safe_from before (c ∷ cs) = written before c cs ++ safe_from (last_written before c cs) cs

-- the safe text of calls, as characters and in UTF-8
abbrev pub safe_characters : List Call → List ℕ
safe_characters calls = safe_from 0 (characters calls)

abbrev pub safe : List Call → List ℕ
safe calls = encode_utf8_all (safe_characters calls)

-- characters of which each is safe where it stands, in lines that end with a line feed
abbrev pub AreSafeFrom : ℕ → List ℕ → Type 0
AreSafeFrom before [] = ⊤
AreSafeFrom before (c ∷ cs) = IsTrue (is_safe before c cs) × AreSafeFrom c cs

-- text in UTF-8 in which nothing is forbidden
abbrev pub IsSafe : List ℕ → Type 0
IsSafe text = AreSafeFrom 0 (chars text)
