-- The words that a program is given.
--
-- Source: the GNU Coding Standards, 4.8 (command-line interfaces: options of two dashes, their
-- values after =, --help and --version).
use Rattle.std.specs.Prelude.{◌≡◌, ◌≢◌, ℕ, Bool, true, false, not, ◌&&◌, ◌||◌, nat_eq, List, [], ◌∷◌, ◌++◌, map, drop, length, codes, bytes_eq, Option, None, Some, MatchOption, if◌then◌else◌, ◌⊎◌}
use Rattle.std.specs.Option.{option_or}
use Rattle.std.specs.List.{list_any, find, starts_with, ends_with}
use Rattle.command_line.specs.declared.options.Request.{Request}
use Rattle.command_line.specs.declared.options.Request.TheVariants.{Help, Version, Unvalued, Unknown}
use Rattle.std.specs.declared.io.Error.{Error}
use Rattle.command_line.specs.Words.{status_of}
use denote.Ref.{Bor}

-- the texts that references are to
abbrev pub texts : List (Bor (List ℕ)) → List (List ℕ)
texts references = map (λ it. it.now) references

-- a word is an option, or begins with it where the option ends in =
abbrev pub is_option : (option word : List ℕ) → Bool
is_option option word =
    if ends_with nat_eq option (codes "=") then starts_with nat_eq word option else bytes_eq word option

-- a word is one of these options
abbrev pub is_one_of : (options : List (List ℕ)) → (word : List ℕ) → Bool
is_one_of options word = list_any (λ option. is_option option word) options

-- a word is this option without the = at its end: the next word is its value
abbrev pub is_valued : (word option : List ℕ) → Bool
is_valued word option = bytes_eq option (word ++ codes "=")

-- A word wants a value, the next word: it is -o, or one of these options without its =, and none of them as it stands.
abbrev pub wants_value : (options : List (List ℕ)) → (word : List ℕ) → Bool
wants_value options word =
    bytes_eq word (codes "-o") || (list_any (is_valued word) options && not (is_one_of options word))

-- a word stands among the words
abbrev pub has_word : (wanted : List ℕ) → (words : List (List ℕ)) → Bool
has_word wanted words = list_any (λ word. bytes_eq word wanted) words

-- What a word asks for that is no option of the program's own.
abbrev pub Means : (options : List (List ℕ)) → List ℕ → Request → Type 0
Means options word Help = (word ≡ codes "--help") ⊎ (word ≡ codes "-h")
Means options word Version = word ≡ codes "--version"
Means options word (Unvalued given) = (given.now ≡ word) × (wants_value options word ≡ true)
Means options word (Unknown given) =
    (given.now ≡ word) × (word ≢ codes "--help") × (word ≢ codes "-h") × (word ≢ codes "--version")
    × (wants_value options word ≡ false)

-- What the words ask for: nothing, where each is an option of the program's own, or what the first
-- that is none says.
abbrev pub Asks : (options words : List (List ℕ)) → Option Request → Type 0
Asks options words asked =
    MatchOption (find (λ word. not (is_one_of options word)) words) (asked ≡ None)
    (λ word. (request : Request) × (asked ≡ Some request) × Means options word request)

-- The status of a program that was asked this: 2 for a word that it doesn't know, or that has no value; else 0, or that
-- of an output that failed.
abbrev pub AnswersWith : Request → (status : ℕ) → Type 0
AnswersWith (Unvalued word) status = status ≡ 2
AnswersWith (Unknown word) status = status ≡ 2
AnswersWith _ status = (status ≡ 0) ⊎ ((error : Error) × (status ≡ status_of (Some error)))

-- what follows an option, where a word begins with it
abbrev pub after_option : (option word : List ℕ) → Option (List ℕ)
after_option option word = if starts_with nat_eq word option then Some (drop (length option) word) else None

-- What follows an option in the last of the words that begin with it.
abbrev pub last_value : (option : List ℕ) → (words : List (List ℕ)) → Option (List ℕ)
last_value option [] = None
last_value option (word ∷ words) = option_or (last_value option words) (after_option option word)
