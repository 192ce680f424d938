-- Reading safe text: which characters it names.
use Rattle.std.specs.Prelude.{ℕ, ◌+◌, ◌-◌, ◌*◌, Bool, true, false, ◌&&◌, ◌==◌, nat_lt, not, List, [], ◌∷◌, ◌++◌, map, if◌then◌else◌}
use Rattle.safe_text.specs.Safe.{hides, shows, next_of, begins_mark, rest_of, is_line_end, is_of_line_end}

-- the value of a digit of base 16
unfoldable pub hex_value : ℕ → ℕ
hex_value c = if nat_lt c 0x41 then c - 0x30 else c - 0x37

-- the number whose digits come up to `>`, after those of `n`
abbrev pub number_from : (n : ℕ) → List ℕ → ℕ
number_from n [] = n
number_from n (c ∷ cs) = if c == 0x3E then n else number_from (n * 16 + hex_value c) cs

-- what a name says: a mark, by the first letter of `hidden` or `shown`, or the character with a number
abbrev pub named : List ℕ → ℕ
named cs =
    if next_of cs == 0x68 then hides else if next_of cs == 0x73 then shows else number_from 0 cs

-- The characters and the marks of a text, where `<U+`, a name and `>` are the one with that name: in the midst of such
-- a one up to its `>` nothing more.
abbrev pub read_from : (within : Bool) → List ℕ → List ℕ
read_from within [] = []
read_from true (c ∷ cs) = read_from (not (c == 0x3E)) cs
read_from false (c ∷ cs) =
    if c == 0x3C && begins_mark cs then named (rest_of (rest_of cs)) ∷ read_from true cs
    else c ∷ read_from false cs

abbrev pub read_back : List ℕ → List ℕ
read_back text = read_from false text

-- characters with each end of a line, LF, VT, FF or CR LF, as one line feed
abbrev pub ended_as : (line_end of_line_end : Bool) → ℕ → List ℕ
ended_as true _ c = 0x0A ∷ []
ended_as false true c = []
ended_as false false c = c ∷ []

abbrev pub with_line_feeds : List ℕ → List ℕ
with_line_feeds [] = []
with_line_feeds (c ∷ cs) = ended_as (is_line_end c) (is_of_line_end c cs) c ++ with_line_feeds cs

-- Each character that is read, and whether it stands in hidden text: after the mark where such text begins, and before
-- the one where it ends.
abbrev pub told_from : (hidden : Bool) → List ℕ → List (ℕ × Bool)
told_from hidden [] = []
told_from hidden (c ∷ cs) =
    if c == hides then told_from true cs
    else if c == shows then told_from false cs
    else (c, hidden) ∷ told_from hidden cs

abbrev pub told : List ℕ → List (ℕ × Bool)
told cs = told_from false cs

-- these with each end of a line as one line feed
abbrev pub told_with_line_feeds : List (ℕ × Bool) → List (ℕ × Bool)
told_with_line_feeds [] = []
told_with_line_feeds (it ∷ more) =
    map (λ c. (c, it.1)) (ended_as (is_line_end it.0) (is_of_line_end it.0 (map (λ next. next.0) more)) it.0)
    ++ told_with_line_feeds more
