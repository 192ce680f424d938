-- The size that a recording says, as script(1) writes it, is the one that is read; and no other one is.
use Rattle.std.proofs.Common.{◌≡◌, ◌<◌, ◌≤◌, ℕ, zero, suc, ◌+◌, ◌-◌, ◌*◌, Bool, true, false, ◌&&◌, List, [], ◌∷◌, ◌++◌, codes, length, take, drop, refl, sym, ap, ap₂, ◌∙◌, subst, arith}
use Rattle.std.specs.Prelude.{not, nat_le, nat_eq, ◌==◌, Option, None, Some, if◌then◌else◌}
use Rattle.std.specs.Option.{option_or, unwrap_or}
use Rattle.std.specs.List.{starts_with}
use Rattle.std.specs.Char.{digit_value}
use Rattle.std.specs.Str.Parse.{AllDigits, digits_value_after}
use Rattle.std.proofs.lemmas.Bool.{le-leb, leb-true, ne_eqb, not-true, false≢true}
use Rattle.std.proofs.lemmas.Bool.Decides.{Decides-eqb}
use Rattle.std.proofs.lemmas.Slice.Eq.{starts_is}
use Rattle.std.proofs.lemmas.Str.{digit_value_digit}
use Rattle.std.proofs.lemmas.Str.Parse.{digit_from_value}
use Rattle.std.proofs.Math.Seq.{drop-append_seam}
use Rattle.anstyle_parse.specs.Stream.Items.{EachIs}
use Rattle.ansi_screen.specs.declared.size.Size.{Size}
use Rattle.ansi_screen.specs.Display.{most_columns, most_rows}
use Rattle.ansi_screen.specs.Size.{size_if_taken, IsNumber, IsTaken}
use Rattle.screen_text.specs.declared.recording.ShownSize.TheVariants.{Recorded}
use Rattle.screen_text.specs.Recording.{most_front, first_line, recorded_size, after_line, given_after, without_line, after_text, is_digit_of, number_from, after_number, size_of_all, size_by_rows, size_by_columns, size_of_end, size_of_line, of_a_log, size_for, size_text, SaysSize, is_of_line, IsAtLineEnd}

-- a digit, and its value
record IsDigit (c : ℕ) : Type 0 where
  low : 0x30 ≤ c
  high : c ≤ 0x39
  value : digit_value c ≡ c - 0x30

digit : (c : ℕ) → digit_value c < 10 → IsDigit c
digit c is =
    let range = digit_from_value c is in
    let value = digit_value_digit c range in
    record { low = range.0; high = range.1; value = omega (arith, value) }

digit-by : (c : ℕ) → 0x30 ≤ c → c ≤ 0x39 → (digit_value c < 10) × (digit_value c ≡ c - 0x30)
digit-by c low high =
    let value = digit_value_digit c (low, high) in
    (omega (arith, value, high), omega (arith, value))

grows : (cs : List ℕ) (n : ℕ) → n ≤ digits_value_after 10 n cs
grows [] n = omega arith
grows (c ∷ cs) n = let more = grows cs (n * 10 + digit_value c) in omega (arith, more)

and-three : (s t u : Bool) → s ≡ true → t ≡ true → u ≡ true → (s && t && u) ≡ true
and-three s t u one two three = ap (λ (x : Bool). x && t && u) one ∙ ap (λ (x : Bool). true && x && u) two ∙ ap (λ (x : Bool). true && true && x) three

and-four : (s t u v : Bool) → s ≡ true → t ≡ true → u ≡ true → v ≡ true → (s && t && u && v) ≡ true
and-four s t u v one two three four =
    ap (λ (x : Bool). x && t && u && v) one ∙ ap (λ (x : Bool). true && x && u && v) two
    ∙ ap (λ (x : Bool). true && true && x && v) three ∙ ap (λ (x : Bool). true && true && true && x) four

-- Digits of a number that is not past the limit are read, up to the quote after them.
digit-read : (n c : ℕ) → n ≤ most_columns → IsDigit c → is_digit_of n c ≡ true
digit-read n c most is =
    and-three (nat_le 0x30 c) (nat_le c 0x39) (nat_le n most_columns) (le-leb 0x30 c is.low) (le-leb c 0x39 is.high) (le-leb n most_columns most)

number-whole : (cs : List ℕ) (n : ℕ) (rest : List ℕ) → AllDigits 10 cs → digits_value_after 10 n cs ≤ most_columns
    → (number_from n (cs ++ 0x22 ∷ rest) ≡ digits_value_after 10 n cs) × (after_number n (cs ++ 0x22 ∷ rest) ≡ 0x22 ∷ rest)
number-whole [] n rest are most = (refl, refl)
number-whole (c ∷ cs) n rest are most =
    let is = digit c are.0 in
    let next : n * 10 + (c - 0x30) ≡ n * 10 + digit_value c = ap (λ (k : ℕ). n * 10 + k) (sym is.value) in
    let up = grows cs (n * 10 + digit_value c) in
    let reads = digit-read n c (omega (arith, up, most)) is in
    let more = number-whole cs (n * 10 + digit_value c) rest are.1 most in
    let front = cs ++ 0x22 ∷ rest in (
      ap (λ (t : Bool). if t then number_from (n * 10 + (c - 0x30)) front else n) reads ∙ ap (λ (k : ℕ). number_from k front) next ∙ more.0,
      ap (λ (t : Bool). if t then after_number (n * 10 + (c - 0x30)) front else c ∷ front) reads ∙ ap (λ (k : ℕ). after_number k front) next ∙ more.1,
    )

-- And what is read are digits.
record Reads (n : ℕ) (bytes : List ℕ) : Type 0 where
  digits : List ℕ
  whole : bytes ≡ digits ++ after_number n bytes
  are : AllDigits 10 digits
  value : number_from n bytes ≡ digits_value_after 10 n digits

digit-parts : (n b : ℕ) → is_digit_of n b ≡ true → (0x30 ≤ b) × (b ≤ 0x39)
digit-parts n b is = by (nat_le 0x30 b) (nat_le b 0x39) (nat_le n most_columns) refl refl is
  where
    by : (s t u : Bool) → nat_le 0x30 b ≡ s → nat_le b 0x39 ≡ t → (s && t && u) ≡ true → (0x30 ≤ b) × (b ≤ 0x39)
    by true true u low high all = (leb-true 0x30 b low, leb-true b 0x39 high)
    by true false true low high all = absurd (cc all)
    by true false false low high all = absurd (cc all)
    by false true true low high all = absurd (cc all)
    by false true false low high all = absurd (cc all)
    by false false true low high all = absurd (cc all)
    by false false false low high all = absurd (cc all)

number-read : (bytes : List ℕ) (n : ℕ) → Reads n bytes
number-read [] n = record { digits = []; whole = refl; are = tt; value = refl }
number-read (b ∷ bytes) n = by (number-read bytes (n * 10 + (b - 0x30))) (is_digit_of n b) refl
  where
    by : Reads (n * 10 + (b - 0x30)) bytes → (t : Bool) → is_digit_of n b ≡ t → Reads n (b ∷ bytes)
    by more true is =
        let range = digit-parts n b is in
        let worth = digit-by b range.0 range.1 in
        let next = n * 10 + (b - 0x30) in
        record {
          digits = b ∷ more.digits;
          whole = ap (λ (l : List ℕ). b ∷ l) more.whole
              ∙ ap (λ (l : List ℕ). b ∷ (more.digits ++ l)) (sym (ap (λ (t : Bool). if t then after_number next bytes else b ∷ bytes) is));
          are = (worth.0, more.are);
          value = ap (λ (t : Bool). if t then number_from next bytes else n) is
              ∙ more.value
              ∙ ap (λ (k : ℕ). digits_value_after 10 (n * 10 + k) more.digits) (sym worth.1);
        }
    by more false is = record {
      digits = [];
      whole = sym (ap (λ (t : Bool). if t then after_number (n * 10 + (b - 0x30)) bytes else b ∷ bytes) is);
      are = tt;
      value = ap (λ (t : Bool). if t then number_from (n * 10 + (b - 0x30)) bytes else n) is;
    }

-- what follows a text
after-is : (text rest : List ℕ) → after_text text (text ++ rest) ≡ Some rest
unfolding after_text
after-is text rest =
    ap₂ (λ (t : Bool) (l : List ℕ). if t then Some l else None)
    ((starts_is {E = nat_eq} Decides-eqb (text ++ rest) text (starts_with nat_eq (text ++ rest) text) refl).1 rest refl) (drop-append_seam text rest)

is-some : Option (List ℕ) → List ℕ
is-some None = []
is-some (Some l) = l

size-in : Option Size → Size
size-in None = of_a_log
size-in (Some size) = size

has-some : {A : Type 0} → Option A → Bool
has-some None = false
has-some (Some a) = true

after-said : (text bytes rest : List ℕ) → after_text text bytes ≡ Some rest → bytes ≡ text ++ rest
unfolding after_text is-some has-some
after-said text bytes rest said = by (starts_with nat_eq bytes text) refl said
  where
    by : (t : Bool) → starts_with nat_eq bytes text ≡ t → (if t then Some (drop (length text) bytes) else None) ≡ Some rest → bytes ≡ text ++ rest
    by true is some =
        (starts_is {E = nat_eq} Decides-eqb bytes text (starts_with nat_eq bytes text) refl).0 is ∙ ap (λ (l : List ℕ). text ++ l) (ap is-some some)
    by false is none = absurd (false≢true (ap has-some none))

-- a size that a screen can have
taken : (size : Size) → IsTaken size → size_if_taken size.columns size.rows ≡ Some size
taken size is =
    ap (λ (t : Bool). if t then Some size else None)
    (and-four (nat_le 2 size.columns) (nat_le size.columns most_columns) (nat_le 1 size.rows) (nat_le size.rows most_rows) (le-leb 2 size.columns is.0)
    (le-leb size.columns most_columns is.1) (le-leb 1 size.rows is.2) (le-leb size.rows most_rows is.3))

abbrev sized : (columns rows : ℕ) → Size
sized columns rows = record { columns = columns; rows = rows }

taken-said : (columns rows : ℕ) (size : Size) → size_if_taken columns rows ≡ Some size → (columns ≡ size.columns) × (rows ≡ size.rows) × IsTaken size
unfolding size-in has-some
taken-said columns rows size = by (nat_le 2 columns) (nat_le columns most_columns) (nat_le 1 rows) (nat_le rows most_rows) refl refl refl refl
  where
    by : (a b c d : Bool) → nat_le 2 columns ≡ a → nat_le columns most_columns ≡ b → nat_le 1 rows ≡ c → nat_le rows most_rows ≡ d
        → (if a && b && c && d then Some (sized columns rows) else None) ≡ Some size
        → (columns ≡ size.columns) × (rows ≡ size.rows) × IsTaken size
    by true true true true one two three four said =
        let same : sized columns rows ≡ size = ap size-in said in
        let across = ap (λ (s : Size). s.columns) same in
        let down = ap (λ (s : Size). s.rows) same in (
          across,
          down,
          (
            subst (λ (k : ℕ). 2 ≤ k) across (leb-true 2 columns one),
            subst (λ (k : ℕ). k ≤ most_columns) across (leb-true columns most_columns two),
            subst (λ (k : ℕ). 1 ≤ k) down (leb-true 1 rows three),
            subst (λ (k : ℕ). k ≤ most_rows) down (leb-true rows most_rows four),
          ),
        )
    by true true true false one two three four said = absurd (false≢true (ap has-some said))
    by true true false true one two three four said = absurd (false≢true (ap has-some said))
    by true true false false one two three four said = absurd (false≢true (ap has-some said))
    by true false true true one two three four said = absurd (false≢true (ap has-some said))
    by true false true false one two three four said = absurd (false≢true (ap has-some said))
    by true false false true one two three four said = absurd (false≢true (ap has-some said))
    by true false false false one two three four said = absurd (false≢true (ap has-some said))
    by false true true true one two three four said = absurd (false≢true (ap has-some said))
    by false true true false one two three four said = absurd (false≢true (ap has-some said))
    by false true false true one two three four said = absurd (false≢true (ap has-some said))
    by false true false false one two three four said = absurd (false≢true (ap has-some said))
    by false false true true one two three four said = absurd (false≢true (ap has-some said))
    by false false true false one two three four said = absurd (false≢true (ap has-some said))
    by false false false true one two three four said = absurd (false≢true (ap has-some said))
    by false false false false one two three four said = absurd (false≢true (ap has-some said))

-- The end of a line that says a size gives it.
end-whole : (columns rows : List ℕ) (size : Size) → IsNumber columns size.columns → IsNumber rows size.rows → IsTaken size
    → size_of_end (size_text columns rows) ≡ Some size
unfolding size_of_end
end-whole columns rows size across down is =
    let lines = codes "\" LINES=\"" in
    let end = codes "\"]" in
    let last = rows ++ end in
    let c = number-whole columns 0 (codes " LINES=\"" ++ last) across.0.1 (subst (λ (k : ℕ). k ≤ most_columns) across.1 is.1) in
    let r = number-whole rows 0 (codes "]") down.0.1 (subst (λ (k : ℕ). k ≤ most_columns) down.1 is.3) in
    ap size_by_columns (after-is (codes " COLUMNS=\"") (columns ++ (lines ++ last)))
    ∙ ap₂ (λ (n : ℕ) (l : List ℕ). size_by_rows n (after_text lines l)) (c.0 ∙ sym across.1) c.1
    ∙ ap (size_by_rows size.columns) (after-is lines last)
    ∙ ap₂ (λ (n : ℕ) (l : List ℕ). size_of_all size.columns n (after_text end l)) (r.0 ∙ sym down.1) r.1
    ∙ ap (size_of_all size.columns size.rows) (after-is end [])
    ∙ taken size is

-- And what is read of an end is what it says.
record EndSays (bytes : List ℕ) (size : Size) : Type 0 where
  columns : List ℕ
  rows : List ℕ
  whole : bytes ≡ size_text columns rows
  columns_are : IsNumber columns size.columns
  rows_are : IsNumber rows size.rows
  is_taken : IsTaken size

some-digits : (cs : List ℕ) → 1 ≤ digits_value_after 10 0 cs → 0 < length cs
some-digits [] least = absurd (omega (arith, least))
some-digits (c ∷ cs) least = omega arith

end-said : (bytes : List ℕ) (size : Size) → size_of_end bytes ≡ Some size → EndSays bytes size
unfolding size_of_end has-some
end-said bytes size said = by (after_text (codes " COLUMNS=\"") bytes) refl said
  where
    all : (one two : List ℕ) (three : Option (List ℕ)) → after_text (codes " COLUMNS=\"") bytes ≡ Some one → after_text (codes "\" LINES=\"") (after_number 0 one) ≡ Some two
        → after_text (codes "\"]") (after_number 0 two) ≡ three → size_of_all (number_from 0 one) (number_from 0 two) three ≡ Some size → EndSays bytes size
    all one two None first second third none = absurd (false≢true (ap has-some none))
    all one two (Some (b ∷ left)) first second third none = absurd (false≢true (ap has-some none))
    all one two (Some []) first second third some =
        let c = number-read one 0 in
        let r = number-read two 0 in
        let is = taken-said (number_from 0 one) (number_from 0 two) size some in
        let across : digits_value_after 10 0 c.digits ≡ size.columns = sym c.value ∙ is.0 in
        let down : digits_value_after 10 0 r.digits ≡ size.rows = sym r.value ∙ is.1 in
        let wide = is.2.0 in
        let high = is.2.2 in
        record {
          columns = c.digits;
          rows = r.digits;
          whole = after-said (codes " COLUMNS=\"") bytes one first
              ∙ ap (λ (l : List ℕ). codes " COLUMNS=\"" ++ l)
              (c.whole ∙ ap (λ (l : List ℕ). c.digits ++ l)
              (after-said (codes "\" LINES=\"") (after_number 0 one) two second
              ∙ ap (λ (l : List ℕ). codes "\" LINES=\"" ++ l)
              (r.whole ∙ ap (λ (l : List ℕ). r.digits ++ l) (after-said (codes "\"]") (after_number 0 two) [] third))));
          columns_are = ((some-digits c.digits (omega (arith, across, wide)), c.are), sym across);
          rows_are = ((some-digits r.digits (omega (arith, down, high)), r.are), sym down);
          is_taken = is.2;
        }

    by_rows : (one : List ℕ) (two : Option (List ℕ)) → after_text (codes " COLUMNS=\"") bytes ≡ Some one → after_text (codes "\" LINES=\"") (after_number 0 one) ≡ two
        → size_by_rows (number_from 0 one) two ≡ Some size → EndSays bytes size
    by_rows one None first second none = absurd (false≢true (ap has-some none))
    by_rows one (Some two) first second some = all one two (after_text (codes "\"]") (after_number 0 two)) first second refl some

    by : (one : Option (List ℕ)) → after_text (codes " COLUMNS=\"") bytes ≡ one → size_by_columns one ≡ Some size → EndSays bytes size
    by None first none = absurd (false≢true (ap has-some none))
    by (Some one) first some = by_rows one (after_text (codes "\" LINES=\"") (after_number 0 one)) first refl some

-- In such an end no other one begins: after its first byte no ` C` comes.
first-of : List ℕ → ℕ
first-of [] = 0
first-of (b ∷ bytes) = b

rest-of : List ℕ → List ℕ
rest-of [] = []
rest-of (b ∷ bytes) = bytes

is-clear : List ℕ → Bool
is-clear [] = true
is-clear (b ∷ bytes) = not (b == 0x20 && first-of bytes == 0x43) && is-clear bytes

clear-digits : (cs rest : List ℕ) → AllDigits 10 cs → is-clear rest ≡ true → is-clear (cs ++ rest) ≡ true
unfolding is-clear
clear-digits [] rest are clear = clear
clear-digits (c ∷ cs) rest are clear =
    let is = digit c are.0 in
    let low = is.low in
    let other : (c == 0x20) ≡ false = ne_eqb c 0x20 (λ e. omega (arith, e, low)) in
    ap₂ (λ (s t : Bool). not (s && first-of (cs ++ rest) == 0x43) && t) other (clear-digits cs rest are.1 clear)

clear-end : (columns rows : List ℕ) → AllDigits 10 columns → AllDigits 10 rows → is-clear (rest-of (size_text columns rows)) ≡ true
unfolding is-clear rest-of first-of
clear-end columns rows across down =
    clear-digits columns (codes "\" LINES=\"" ++ (rows ++ codes "\"]")) across (clear-digits rows (codes "\"]") down refl)

not-clear : (words rest : List ℕ) → is-clear (words ++ 0x20 ∷ 0x43 ∷ rest) ≡ false
unfolding is-clear first-of
not-clear [] rest = refl
not-clear (b ∷ words) rest =
    ap (λ (t : Bool). not (b == 0x20 && first-of (words ++ 0x20 ∷ 0x43 ∷ rest) == 0x43) && t) (not-clear words rest)
    ∙ never (not (b == 0x20 && first-of (words ++ 0x20 ∷ 0x43 ∷ rest) == 0x43))
  where
    never : (t : Bool) → (t && false) ≡ false
    never true = refl
    never false = refl

-- So a line gives the size that it says,
line-whole : (words columns rows : List ℕ) (size : Size) → IsNumber columns size.columns → IsNumber rows size.rows → IsTaken size
    → size_of_line (words ++ size_text columns rows) ≡ Some size
unfolding rest-of
line-whole [] columns rows size across down is =
    ap (λ (o : Option Size). option_or o (size_of_line (rest-of (size_text columns rows)))) (end-whole columns rows size across down is)
line-whole (b ∷ words) columns rows size across down is =
    by (size_of_end (b ∷ (words ++ size_text columns rows))) refl ∙ line-whole words columns rows size across down is
  where
    by : (o : Option Size) → size_of_end (b ∷ (words ++ size_text columns rows)) ≡ o → option_or o (size_of_line (words ++ size_text columns rows)) ≡ size_of_line (words ++ size_text columns rows)
    by None said = refl
    by (Some other) said =
        let end = end-said (b ∷ (words ++ size_text columns rows)) other said in
        let clear : is-clear (words ++ size_text columns rows) ≡ true =
        ap (λ (l : List ℕ). is-clear (rest-of l)) end.whole ∙ clear-end end.columns end.rows end.columns_are.0.1 end.rows_are.0.1 in
        absurd (false≢true (sym (not-clear words (rest-of (rest-of (size_text columns rows)))) ∙ clear))

-- and no other one.
line-said : (line : List ℕ) (size : Size) → size_of_line line ≡ Some size → SaysSize line size × IsTaken size
unfolding has-some size-in
line-said [] size said = absurd (false≢true (ap has-some said))
line-said (b ∷ line) size said = by (line-said line size) (size_of_end (b ∷ line)) refl said
  where
    by : (size_of_line line ≡ Some size → SaysSize line size × IsTaken size) → (o : Option Size) → size_of_end (b ∷ line) ≡ o
        → option_or o (size_of_line line) ≡ Some size → SaysSize (b ∷ line) size × IsTaken size
    by further None none later =
        let found = further later in
        let says = found.0 in (
          record {
            words = b ∷ says.words;
            columns = says.columns;
            rows = says.rows;
            whole = ap (λ (l : List ℕ). b ∷ l) says.whole;
            columns_are = says.columns_are;
            rows_are = says.rows_are;
          },
          found.1,
        )
    by further (Some first) some same =
        let end = end-said (b ∷ line) size (some ∙ same) in (
          record {
            words = [];
            columns = end.columns;
            rows = end.rows;
            whole = end.whole;
            columns_are = end.columns_are;
            rows_are = end.rows_are;
          },
          end.is_taken,
        )

-- The first line of a stream.
first-is : (line rest : List ℕ) (n : ℕ) → EachIs is_of_line line → IsAtLineEnd rest → length line ≤ n → first_line (take n (line ++ rest)) ≡ line
first-is [] [] zero are ends fits = refl
first-is [] [] (suc n) are ends fits = refl
first-is [] (b ∷ rest) zero are ends fits = refl
first-is [] (b ∷ rest) (suc n) are ends fits = ap (λ (k : ℕ). if k == 0x0A then [] else b ∷ first_line (take n rest)) ends
first-is (b ∷ line) rest zero are ends fits = absurd (omega (arith, fits))
first-is (b ∷ line) rest (suc n) are ends fits =
    ap₂ (λ (t : Bool) (l : List ℕ). if t then [] else b ∷ l) (not-true (b == 0x0A) are.0) (first-is line rest n are.1 ends (omega (arith, fits)))

-- what the line says the stream says
recorded-said : (line rest : List ℕ) (size : Size) → EachIs is_of_line line → IsAtLineEnd rest → length line ≤ most_front → SaysSize line size → IsTaken size
    → recorded_size (line ++ rest) ≡ Some size
recorded-said line rest size are ends fits says is =
    ap size_of_line (first-is line rest most_front are ends fits ∙ says.whole)
    ∙ line-whole says.words says.columns says.rows size says.columns_are says.rows_are is

recorded-unsaid : (line rest : List ℕ) → EachIs is_of_line line → IsAtLineEnd rest → length line ≤ most_front → ((size : Size) → SaysSize line size → IsTaken size → ⊥)
    → recorded_size (line ++ rest) ≡ None
recorded-unsaid line rest are ends fits none =
    ap size_of_line (first-is line rest most_front are ends fits) ∙ by (size_of_line line) refl
  where
    by : (o : Option Size) → size_of_line line ≡ o → o ≡ None
    by None said = refl
    by (Some size) said = let found = line-said line size said in absurd (none size found.0 found.1)

pub size-said : (line rest : List ℕ) (size : Size) → EachIs is_of_line line → IsAtLineEnd rest → length line ≤ most_front → SaysSize line size → IsTaken size
    → size_for Recorded (line ++ rest) ≡ size
size-said line rest size are ends fits says is = ap (λ (o : Option Size). unwrap_or o of_a_log) (recorded-said line rest size are ends fits says is)

pub size-unsaid : (line rest : List ℕ) → EachIs is_of_line line → IsAtLineEnd rest → length line ≤ most_front → ((size : Size) → SaysSize line size → IsTaken size → ⊥)
    → size_for Recorded (line ++ rest) ≡ of_a_log
size-unsaid line rest are ends fits none = ap (λ (o : Option Size). unwrap_or o of_a_log) (recorded-unsaid line rest are ends fits none)

-- What comes after a line.
after-line-is : (line rest : List ℕ) (n : ℕ) → EachIs is_of_line line → length line < n → after_line n (line ++ 0x0A ∷ rest) ≡ rest
after-line-is [] rest zero are fits = absurd (omega (arith, fits))
after-line-is [] rest (suc n) are fits = refl
after-line-is (b ∷ line) rest zero are fits = absurd (omega (arith, fits))
after-line-is (b ∷ line) rest (suc n) are fits =
    ap (λ (t : Bool). if t then line ++ 0x0A ∷ rest else after_line n (line ++ 0x0A ∷ rest)) (not-true (b == 0x0A) are.0)
    ∙ after-line-is line rest n are.1 (omega (arith, fits))

pub line-out : (line rest : List ℕ) (size : Size) → EachIs is_of_line line → length line < most_front → SaysSize line size → IsTaken size
    → without_line (line ++ 0x0A ∷ rest) ≡ rest
line-out line rest size are fits says is =
    ap (λ (o : Option Size). given_after o (line ++ 0x0A ∷ rest)) (recorded-said line (0x0A ∷ rest) size are refl (omega (arith, fits)) says is)
    ∙ after-line-is line rest most_front are fits

pub line-kept : (line rest : List ℕ) → EachIs is_of_line line → IsAtLineEnd rest → length line ≤ most_front → ((size : Size) → SaysSize line size → IsTaken size → ⊥)
    → without_line (line ++ rest) ≡ line ++ rest
line-kept line rest are ends fits none = ap (λ (o : Option Size). given_after o (line ++ rest)) (recorded-unsaid line rest are ends fits none)
