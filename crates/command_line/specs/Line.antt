-- The words of a line: which are options, and which name files.
--
-- Source: POSIX.1-2024, XBD 12.2 (guideline 10: after -- all are operands; 13: - is standard input);
-- options may stand after operands, the value of a long one after = or as the next word, and that of -o right after it,
-- as GNU has it.
use Rattle.std.specs.Prelude.{ℕ, Bool, not, ◌&&◌, ◌||◌, nat_eq, nat_le, length, List, [], ◌∷◌, ◌++◌, codes, bytes_eq, Option, None, Some, if◌then◌else◌}
use Rattle.std.specs.List.{starts_with, list_any, list_all, before_first, after_first}
use Rattle.command_line.specs.declared.line.Place.{Place}
use Rattle.command_line.specs.declared.line.Place.TheVariants.{Words, Value, Size, Files}
use Rattle.command_line.specs.Options.{is_one_of, is_valued, wants_value, after_option}

-- A word names a file: it is no option of the program's own, and a dash alone, or it does not begin with one.
abbrev pub is_file : (options : List (List ℕ)) → (word : List ℕ) → Bool
is_file options word =
    not (is_one_of options word) && (bytes_eq word (codes "-") || not (starts_with nat_eq word (codes "-")))

-- a number in decimal: digits, and one at least
abbrev pub is_digit : ℕ → Bool
is_digit byte = nat_le 0x30 byte && nat_le byte 0x39

abbrev pub is_number : (text : List ℕ) → Bool
is_number text = not (nat_eq (length text) 0) && list_all is_digit text

-- a word that has the form of a size, COLUMNSxROWS, also with an X: a number before that sign, and one after it
abbrev pub is_size_by : (sign : ℕ) → (word : List ℕ) → Bool
is_size_by sign word =
    is_number (before_first (λ byte. nat_eq byte sign) word) && is_number (after_first (λ byte. nat_eq byte sign) word)

abbrev pub is_size : (word : List ℕ) → Bool
is_size word = is_size_by 0x78 word || is_size_by 0x58 word

-- A word may have a size, the next word, for its value: it is one of these options as it stands, and with = too.
abbrev pub may_have_size : (options : List (List ℕ)) → (word : List ℕ) → Bool
may_have_size options word = is_one_of options word && list_any (is_valued word) options

-- the place of the word after one that is no option's value
abbrev pub place_behind : (options : List (List ℕ)) → (word : List ℕ) → Place
place_behind options word =
    if bytes_eq word (codes "--") then Files
    else if wants_value options word then Value
    else if may_have_size options word then Size
    else Words

-- the place of the word after this one
abbrev pub place_after : (options : List (List ℕ)) → Place → (word : List ℕ) → Place
place_after options Files word = Files
place_after options Value word = Words
place_after options Size word = if is_size word then Words else place_behind options word
place_after options Words word = place_behind options word

-- a word that is neither option nor file: --, and an option whose value is the next word
abbrev pub is_sign : (options : List (List ℕ)) → (word : List ℕ) → Bool
is_sign options word = bytes_eq word (codes "--") || wants_value options word

-- what stands before a value that is joined to its option: --output= for -o, --title= for --title
abbrev pub before_value : (option : List ℕ) → List ℕ
before_value option = if bytes_eq option (codes "-o") then codes "--output=" else option ++ codes "="

-- an option with its value
abbrev pub joined : (option value : List ℕ) → List ℕ
joined option value = before_value option ++ value

-- what a word is that is no option's value: -o with the name of a file right after it, or others
abbrev pub output_or : (name : Option (List ℕ)) → (others : List (List ℕ)) → List (List ℕ)
output_or None others = others
output_or (Some name) others = joined (codes "-o") name ∷ []

abbrev pub unless_output : (name : Option (List ℕ)) → (others : List (List ℕ)) → List (List ℕ)
unless_output None others = others
unless_output (Some name) others = []

-- the options that such a word is: one, or none
abbrev pub options_said : (options : List (List ℕ)) → (word : List ℕ) → List (List ℕ)
options_said options word =
    if is_sign options word then []
    else output_or (after_option (codes "-o") word) (if is_file options word then [] else word ∷ [])

-- the files that it names
abbrev pub files_said : (options : List (List ℕ)) → (word : List ℕ) → List (List ℕ)
files_said options word =
    if is_sign options word then []
    else unless_output (after_option (codes "-o") word) (if is_file options word then word ∷ [] else [])

-- The options that a word at a place is, and the files that it names: one of them, or none. A value is joined to the
-- option that is the word before it.
abbrev pub options_of : (options : List (List ℕ)) → Place → (before word : List ℕ) → List (List ℕ)
options_of options Files before word = []
options_of options Value before word = joined before word ∷ []
options_of options Size before word = if is_size word then joined before word ∷ [] else options_said options word
options_of options Words before word = options_said options word

abbrev pub files_of : (options : List (List ℕ)) → Place → (word : List ℕ) → List (List ℕ)
files_of options Files word = word ∷ []
files_of options Value word = []
files_of options Size word = if is_size word then [] else files_said options word
files_of options Words word = files_said options word

-- what is left of a line that ends here: an option whose value would be the next word
abbrev pub options_left : Place → (before : List ℕ) → List (List ℕ)
options_left Value before = before ∷ []
options_left _ before = []

-- The options of a line from a place on, with the word before it, and its files.
abbrev pub options_from : (options : List (List ℕ)) → Place → (before : List ℕ) → (words : List (List ℕ))
    → List (List ℕ)
options_from options place before [] = options_left place before
options_from options place before (word ∷ words) =
    options_of options place before word ++ options_from options (place_after options place word) word words

abbrev pub options_in : (options : List (List ℕ)) → Place → (words : List (List ℕ)) → List (List ℕ)
options_in options place words = options_from options place [] words

abbrev pub files_in : (options : List (List ℕ)) → Place → (words : List (List ℕ)) → List (List ℕ)
files_in options place [] = []
files_in options place (word ∷ words) =
    files_of options place word ++ files_in options (place_after options place word) words
