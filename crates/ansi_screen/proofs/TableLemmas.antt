-- The table has the columns that the ranges say. A test reads each word once, beside those ranges that still matter.
use Rattle.std.proofs.Common.{◌≡◌, ℕ, zero, suc, ◌+◌, ◌*◌, ◌/◌, ◌%◌, ◌^◌, ◌<◌, ◌≤◌, Bool, true, false, ◌&&◌, ◌==◌, List, [], ◌∷◌, length, get_or, refl, sym, ap, ◌∙◌, subst, arith, inl, inr, eqb-true, le_of_suc-le-suc, not-suc-le-zero}
use Rattle.std.specs.Prelude.{◌||◌, nat_lt, if◌then◌else◌}
use Rattle.std.proofs.lemmas.Bool.{and_parts, or_cases, cases_lt, ltb-true}
use Rattle.std.proofs.lemmas.List.{get_or_past}
use Rattle.ansi_screen.specs.declared.width.table.TheConstants.{INDEX, GROUPS, WORDS}
use Rattle.ansi_screen.specs.Ranges.{no_column, two_columns}
use Rattle.ansi_screen.specs.Widths.{is_among, columns, entry, IsTable}
use Rattle.ansi_screen.proofs.RangeLemmas.{skip, is_among-skip, begins_past, is_among-before, covers, is_among-covered}

-- the columns that a word has for one of its characters
abbrev pub slot : ℕ → ℕ → ℕ
slot word j = (word / 2 ^ (j * 2)) % 4

-- and what ranges say of a character
unfoldable said : ℕ → List (ℕ × ℕ) → List (ℕ × ℕ) → ℕ
said n none two = if is_among n none then 0 else if is_among n two then 2 else 1

said-skip : (n c : ℕ) (none two : List (ℕ × ℕ)) → c ≤ n → said n (skip c none) (skip c two) ≡ said n none two
unfolding said
said-skip n c none two reached = rw (is_among-skip n c none reached, is_among-skip n c two reached) refl

-- each number below n passes
unfoldable all_below : (ℕ → Bool) → ℕ → Bool
all_below p zero = true
all_below p (suc n) = p n && all_below p n

all_below-at : (p : ℕ → Bool) (n j : ℕ) → all_below p n ≡ true → j < n → p j ≡ true
unfolding all_below
all_below-at p zero j passed inside = absurd (not-suc-le-zero inside)
all_below-at p (suc n) j passed inside =
    let parts = and_parts (p n) (all_below p n) passed in
    elim (cases_lt j n) [
      | inl below ↦ all_below-at p n j parts.1 below
      | inr last ↦ let at : n ≡ j = omega arith in subst (λ k. p k ≡ true) at parts.0
    ]

-- Each of the 32 characters of a word has what the ranges say: all have one column, all have two, or they are tested one by one.
unfoldable is_one : ℕ → ℕ → List (ℕ × ℕ) → List (ℕ × ℕ) → Bool
is_one c word none two = word == 0x5555555555555555 && (begins_past (c + 32) none && begins_past (c + 32) two)

unfoldable is_two : ℕ → ℕ → List (ℕ × ℕ) → List (ℕ × ℕ) → Bool
is_two c word none two = word == 0xAAAAAAAAAAAAAAAA && (begins_past (c + 31 + 1) none && covers c (c + 31) two)

unfoldable word_ok : ℕ → ℕ → List (ℕ × ℕ) → List (ℕ × ℕ) → Bool
word_ok c word none two =
    is_one c word none two || (is_two c word none two || all_below (λ j. slot word j == said (c + j) none two) 32)

each_one : all_below (λ j. slot 0x5555555555555555 j == 1) 32 ≡ true
unfolding all_below
each_one = refl

each_two : all_below (λ j. slot 0xAAAAAAAAAAAAAAAA j == 2) 32 ≡ true
unfolding all_below
each_two = refl

said-one : (n top : ℕ) (none two : List (ℕ × ℕ)) → begins_past top none ≡ true → begins_past top two ≡ true → n < top → said n none two ≡ 1
unfolding said
said-one n top none two past past_two below = rw (is_among-before n top none past below, is_among-before n top two past_two below) refl

said-two : (n c top : ℕ) (none two : List (ℕ × ℕ)) → begins_past (top + 1) none ≡ true → covers c top two ≡ true → c ≤ n → n ≤ top → said n none two ≡ 2
unfolding said
said-two n c top none two past covered low high = rw (is_among-before n (top + 1) none past (omega arith), is_among-covered n c top two covered low high) refl

word_ok-true : (c word : ℕ) (none two : List (ℕ × ℕ)) (j : ℕ) → word_ok c word none two ≡ true → j < 32 → slot word j ≡ said (c + j) none two
unfolding word_ok is_one is_two
word_ok-true c word none two j passed inside = elim (or_cases (is_one c word none two) _ passed) [
  | inl ones ↦
      let parts = and_parts (word == 0x5555555555555555) _ ones in
      let past = and_parts (begins_past (c + 32) none) (begins_past (c + 32) two) parts.1 in
      ap (λ w. slot w j) (eqb-true word 0x5555555555555555 parts.0)
      ∙ (eqb-true (slot 0x5555555555555555 j) 1 (all_below-at (λ k. slot 0x5555555555555555 k == 1) 32 j each_one inside)
      ∙ sym (said-one (c + j) (c + 32) none two past.0 past.1 (omega arith)))
  | inr others ↦ elim (or_cases (is_two c word none two) _ others) [
    | inl twos ↦
        let parts = and_parts (word == 0xAAAAAAAAAAAAAAAA) _ twos in
        let both = and_parts (begins_past (c + 31 + 1) none) (covers c (c + 31) two) parts.1 in
        ap (λ w. slot w j) (eqb-true word 0xAAAAAAAAAAAAAAAA parts.0)
        ∙ (eqb-true (slot 0xAAAAAAAAAAAAAAAA j) 2 (all_below-at (λ k. slot 0xAAAAAAAAAAAAAAAA k == 2) 32 j each_two inside)
        ∙ sym (said-two (c + j) c (c + 31) none two both.0 both.1 (omega arith) (omega arith)))
    | inr each ↦ eqb-true (slot word j) (said (c + j) none two) (all_below-at (λ k. slot word k == said (c + k) none two) 32 j each inside)
  ]
]

-- the words that a group leads to, one after another
unfoldable words_ok : List ℕ → ℕ → List ℕ → List (ℕ × ℕ) → List (ℕ × ℕ) → Bool
words_ok words c [] none two = true
words_ok words c (k ∷ ks) none two =
    let none_left = skip c none in
    let two_left = skip c two in
    (nat_lt k (length words) && word_ok c (get_or words k 0) none_left two_left) && words_ok words (c + 32) ks none_left two_left

-- where a group leads for a character, and what is there
abbrev IsInWord : List ℕ → List ℕ → ℕ → List (ℕ × ℕ) → List (ℕ × ℕ) → ℕ → Type 0
IsInWord words ks c none two i =
    (get_or ks i 0 < length words)
    × ((j : ℕ) → j < 32 → slot (get_or words (get_or ks i 0) 0) j ≡ said (c + (i * 32 + j)) none two)

words_ok-true : (words ks : List ℕ) (c : ℕ) (none two : List (ℕ × ℕ)) → words_ok words c ks none two ≡ true → (i : ℕ) → i < length ks
    → IsInWord words ks c none two i
unfolding words_ok
words_ok-true words [] c none two passed i there = absurd (not-suc-le-zero there)
words_ok-true words (k ∷ ks) c none two passed zero there =
    let none_left = skip c none in
    let two_left = skip c two in
    let word = get_or words k 0 in
    let parts = and_parts (nat_lt k (length words) && word_ok c word none_left two_left) (words_ok words (c + 32) ks none_left two_left) passed in
    let first = and_parts (nat_lt k (length words)) (word_ok c word none_left two_left) parts.0 in (
      ltb-true k (length words) first.0,
      λ j inside.
          let at : c + j ≡ c + (0 * 32 + j) = omega arith in
          word_ok-true c word none_left two_left j first.1 inside
          ∙ (said-skip (c + j) c none two (omega arith) ∙ ap (λ n. said n none two) at),
    )
words_ok-true words (k ∷ ks) c none two passed (suc i) there =
    let none_left = skip c none in
    let two_left = skip c two in
    let word = get_or words k 0 in
    let parts = and_parts (nat_lt k (length words) && word_ok c word none_left two_left) (words_ok words (c + 32) ks none_left two_left) passed in
    let later = words_ok-true words ks (c + 32) none_left two_left parts.1 i (le_of_suc-le-suc there) in (
      later.0,
      λ j inside.
          let at : c + 32 + (i * 32 + j) ≡ c + (suc i * 32 + j) = omega arith in
          later.1 j inside
          ∙ (said-skip (c + 32 + (i * 32 + j)) c none two (omega arith) ∙ ap (λ n. said n none two) at),
    )

-- the groups that an index leads to, one after another
unfoldable groups_ok : List (List ℕ) → List ℕ → ℕ → List ℕ → List (ℕ × ℕ) → List (ℕ × ℕ) → Bool
groups_ok groups words c [] none two = true
groups_ok groups words c (k ∷ ks) none two =
    let none_left = skip c none in
    let two_left = skip c two in
    let group = get_or groups k [] in
    (length group == 32 && words_ok words c group none_left two_left) && groups_ok groups words (c + 1024) ks none_left two_left

-- where an index leads for a character, and what is there
abbrev IsInGroup : List (List ℕ) → List ℕ → List ℕ → ℕ → List (ℕ × ℕ) → List (ℕ × ℕ) → ℕ → Type 0
IsInGroup groups words ks c none two b =
    (length (get_or groups (get_or ks b 0) []) ≡ 32)
    × ((i : ℕ) → i < 32 → IsInWord words (get_or groups (get_or ks b 0) []) (c + b * 1024) none two i)

groups_ok-true : (groups : List (List ℕ)) (words ks : List ℕ) (c : ℕ) (none two : List (ℕ × ℕ)) → groups_ok groups words c ks none two ≡ true
    → (b : ℕ) → b < length ks → IsInGroup groups words ks c none two b
unfolding groups_ok
groups_ok-true groups words [] c none two passed b there = absurd (not-suc-le-zero there)
groups_ok-true groups words (k ∷ ks) c none two passed zero there =
    let none_left = skip c none in
    let two_left = skip c two in
    let group = get_or groups k [] in
    let parts = and_parts (length group == 32 && words_ok words c group none_left two_left) (groups_ok groups words (c + 1024) ks none_left two_left) passed in
    let first = and_parts (length group == 32) (words_ok words c group none_left two_left) parts.0 in
    let long : length group ≡ 32 = eqb-true (length group) 32 first.0 in (
      long,
      λ i inside.
          let found = words_ok-true words group c none_left two_left first.1 i (omega (arith, long)) in (
            found.0,
            λ j below.
                let at : c + (i * 32 + j) ≡ c + 0 * 1024 + (i * 32 + j) = omega arith in
                found.1 j below
                ∙ (said-skip (c + (i * 32 + j)) c none two (omega arith) ∙ ap (λ n. said n none two) at),
          ),
    )
groups_ok-true groups words (k ∷ ks) c none two passed (suc b) there =
    let none_left = skip c none in
    let two_left = skip c two in
    let group = get_or groups k [] in
    let parts = and_parts (length group == 32 && words_ok words c group none_left two_left) (groups_ok groups words (c + 1024) ks none_left two_left) passed in
    let later = groups_ok-true groups words ks (c + 1024) none_left two_left parts.1 b (le_of_suc-le-suc there) in (
      later.0,
      λ i inside.
          let found = later.1 i inside in (
            found.0,
            λ j below.
                let n = c + 1024 + b * 1024 + (i * 32 + j) in
                let at : n ≡ c + suc b * 1024 + (i * 32 + j) = omega arith in
                found.1 j below ∙ (said-skip n c none two (omega arith) ∙ ap (λ m. said m none two) at),
          ),
    )

table_ok : groups_ok GROUPS WORDS 0 INDEX no_column two_columns ≡ true
unfolding groups_ok words_ok word_ok is_one is_two all_below said skip begins_past covers is_among
table_ok = refl

index-long : length INDEX ≡ 1088
index-long = refl

in-group : (n : ℕ) → n < 0x110000 → IsInGroup GROUPS WORDS INDEX 0 no_column two_columns (n / 1024)
in-group n small = groups_ok-true GROUPS WORDS INDEX 0 no_column two_columns table_ok (n / 1024) (omega (arith, index-long))

in-word : (n : ℕ) → n < 0x110000
    → IsInWord WORDS (get_or GROUPS (get_or INDEX (n / 1024) 0) []) (0 + n / 1024 * 1024) no_column two_columns (n % 1024 / 32)
in-word n small = (in-group n small).1 (n % 1024 / 32) (omega arith)

group-there : (n : ℕ) → n < 0x110000 → get_or INDEX (n / 1024) 0 < length GROUPS
group-there n small =
    let k = get_or INDEX (n / 1024) 0 in
    let long = (in-group n small).0 in
    elim (cases_lt k (length GROUPS)) [
      | inl inside ↦ inside
      | inr past ↦ let none : length {A = ℕ} [] ≡ 32 = ap length (sym (get_or_past GROUPS k [] past)) ∙ long in absurd (omega (arith, none))
    ]

entry-columns : (n : ℕ) → n < 0x110000 → entry INDEX GROUPS WORDS n ≡ columns n
unfolding columns said
entry-columns n small =
    let at : 0 + n / 1024 * 1024 + (n % 1024 / 32 * 32 + n % 32) ≡ n = omega arith in
    (in-word n small).1 (n % 32) (omega arith) ∙ ap (λ k. said k no_column two_columns) at

pub table : IsTable INDEX GROUPS WORDS
table = record {
  indexed = λ n small. omega (arith, index-long);
  grouped = group-there;
  there = λ n small. (in-word n small).0;
  right = entry-columns;
}

pub columns-le : (c : ℕ) → columns c ≤ 2
unfolding columns
columns-le c = by (is_among c no_column) (is_among c two_columns)
  where
    by : (none two : Bool) → (if none then 0 else if two then 2 else 1) ≤ 2
    by true two = omega arith
    by false true = omega arith
    by false false = omega arith
