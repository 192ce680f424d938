-- What is read from safe text are the characters that were there, each end of a line as a line feed.
use Rattle.std.proofs.Common.{◌≡◌, ℕ, ◌<◌, Bool, true, false, eqb-true, List, [], ◌∷◌, ◌++◌, refl, sym, ap, ap₂, ◌∙◌, subst}
use Rattle.std.specs.Prelude.{not, ◌==◌, ◌&&◌, ◌||◌}
use Rattle.std.specs.List.{AllByRecursion}
use Rattle.std.proofs.lemmas.Bool.{and_parts}
use Rattle.safe_text.specs.Classes.{is_shown, stays}
use Rattle.safe_text.specs.Safe.{visible, next_of, rest_of, begins_mark, is_line_end, is_of_line_end, is_safe, written, last_written, safe_from}
use Rattle.safe_text.specs.Reading.{read_from, ended_as, with_line_feeds}
use Rattle.safe_text.proofs.VisibleLemmas.{read-visible}
use Rattle.safe_text.proofs.WriterLemmas.{written-line_end, written-nothing, written-safe, written-visible}

-- one that is written visibly begins with `<`, and not with `U+`
visible-first : (c : ℕ) (rest : List ℕ) → next_of (visible c ++ rest) ≡ 0x3C
unfolding visible
visible-first c rest = refl

visible-unmarked : (c : ℕ) (rest : List ℕ) → begins_mark (visible c ++ rest) ≡ false
unfolding visible
visible-unmarked c rest = refl

-- A line feed comes first, where one came first.
feed-first : (before : ℕ) (cs : List ℕ) → (next_of cs == 0x0A) ≡ true → next_of (safe_from before cs) ≡ 0x0A
feed-first before [] is = absurd (cc is)
feed-first before (c ∷ cs) is =
    let ends : is_line_end c ≡ true = ap (λ t. t || c == 0x0B || c == 0x0C) is in
    ap (λ l. next_of (l ++ safe_from (last_written before c cs) cs)) (written-line_end before c cs ends).0

-- What comes first came first, unless it is a line feed or begins one that is written visibly.
module _ (k : ℕ) (some : (0 == k) ≡ false) (no_feed : (0x0A == k) ≡ false) (no_mark : (0x3C == k) ≡ false) where
  next-came : (before : ℕ) (cs : List ℕ) → (next_of (safe_from before cs) == k) ≡ true → (next_of cs == k) ≡ true
  next-came before [] is = is
  next-came before (c ∷ cs) is = by (is_line_end c) (is_of_line_end c cs) (is_safe before c cs) refl refl refl
    where
      from_text : (text : List ℕ) → written before c cs ≡ text → (next_of (text ++ (safe_from (last_written before c cs) cs)) == k) ≡ true
      from_text text e = subst (λ l. (next_of (l ++ (safe_from (last_written before c cs) cs)) == k) ≡ true) e is

      by : (s t u : Bool) → is_line_end c ≡ s → is_of_line_end c cs ≡ t → is_safe before c cs ≡ u → (c == k) ≡ true
      by true t u ends gone safe = absurd (cc (sym no_feed ∙ from_text (0x0A ∷ []) (written-line_end before c cs ends).0))
      by false true u ends gone safe =
          let feed = feed-first (last_written before c cs) cs (and_parts (c == 0x0D) (next_of cs == 0x0A) gone).1 in
          absurd (cc (sym no_feed ∙ (ap (λ n. n == k) (sym feed) ∙ from_text [] (written-nothing before c cs ends gone).0)))
      by false false true ends gone safe = from_text (c ∷ []) (written-safe before c cs ends gone safe).0
      by false false false ends gone safe =
          absurd (cc (sym no_mark ∙ (ap (λ n. n == k) (sym (visible-first c (safe_from (last_written before c cs) cs))) ∙ from_text (visible c) (written-visible before c cs ends gone safe).0)))

-- What looks as the begin of one that is written visibly was there.
mark-came : (before : ℕ) (cs : List ℕ) → begins_mark (safe_from before cs) ≡ true → begins_mark cs ≡ true
mark-came before [] is = is
mark-came before (c ∷ cs) is = by (is_line_end c) (is_of_line_end c cs) (is_safe before c cs) refl refl refl
  where
    from_text : (text : List ℕ) → written before c cs ≡ text → begins_mark (text ++ (safe_from (last_written before c cs) cs)) ≡ true
    from_text text e = subst (λ l. begins_mark (l ++ (safe_from (last_written before c cs) cs)) ≡ true) e is

    by : (s t u : Bool) → is_line_end c ≡ s → is_of_line_end c cs ≡ t → is_safe before c cs ≡ u → begins_mark (c ∷ cs) ≡ true
    by true t u ends gone safe = absurd (cc (from_text (0x0A ∷ []) (written-line_end before c cs ends).0))
    by false true u ends gone safe =
        let feed = feed-first (last_written before c cs) cs (and_parts (c == 0x0D) (next_of cs == 0x0A) gone).1 in
        let first = (and_parts (next_of (safe_from (last_written before c cs) cs) == 0x55) (next_of (rest_of (safe_from (last_written before c cs) cs)) == 0x2B) (from_text [] (written-nothing before c cs ends gone).0)).0 in
        absurd (cc (ap (λ n. n == 0x55) (sym feed) ∙ first))
    by false false true ends gone safe =
        let both = and_parts (c == 0x55) (next_of (safe_from (last_written before c cs) cs) == 0x2B) (from_text (c ∷ []) (written-safe before c cs ends gone safe).0) in
        rw (both.0, next-came 0x2B refl refl refl (last_written before c cs) cs both.1) refl
    by false false false ends gone safe = absurd (cc (sym (visible-unmarked c (safe_from (last_written before c cs) cs)) ∙ from_text (visible c) (written-visible before c cs ends gone safe).0))

-- A character that is safe and no joiner begins none.
safe-unmarked : (c : ℕ) (cs : List ℕ) (t u : Bool) → (is_shown c && not (c == 0x3C && t) || u) ≡ true → ((c == 0x3C) ≡ true → u ≡ false) → (c == 0x3C && t) ≡ false
safe-unmarked c cs true u is less = by (c == 0x3C) refl
  where
    by : (s : Bool) → (c == 0x3C) ≡ s → (s && true) ≡ false
    by true e = absurd (cc (sym is ∙ (ap₂ (λ a b. is_shown c && not (a && true) || b) e (less e) ∙ none (is_shown c))))
      where
        none : (s : Bool) → (s && false || false) ≡ false
        none true = refl
        none false = refl
    by false e = refl
safe-unmarked c cs false u is less = by (c == 0x3C)
  where
    by : (s : Bool) → (s && false) ≡ false
    by true = refl
    by false = refl

less-moves : (before c next : ℕ) → (c == 0x3C) ≡ true → stays before c next ≡ false
unfolding stays
less-moves before c next is = subst (λ n. stays before n next ≡ false) (sym (eqb-true c 0x3C is)) refl

-- a text that begins no visible character is read as it is
read-one : (c : ℕ) (rest : List ℕ) → (c == 0x3C && begins_mark rest) ≡ false → read_from false (c ∷ rest) ≡ c ∷ read_from false rest
read-one c rest none = rw none refl

pub read-safe : (before : ℕ) (cs : List ℕ) → AllByRecursion (λ c. c < 0x1000000) cs → read_from false (safe_from before cs) ≡ with_line_feeds cs
read-safe before [] are = refl
read-safe before (c ∷ cs) are = by (read-safe (last_written before c cs) cs are.1) (is_line_end c) (is_of_line_end c cs) (is_safe before c cs) refl refl refl
  where
    no_mark : is_safe before c cs ≡ true → (c == 0x3C && begins_mark (safe_from (last_written before c cs) cs)) ≡ false
    no_mark safe = came (c == 0x3C && begins_mark (safe_from (last_written before c cs) cs)) refl
      where
        came : (t : Bool) → (c == 0x3C && begins_mark (safe_from (last_written before c cs) cs)) ≡ t → t ≡ false
        came false e = refl
        came true e =
            let both = and_parts (c == 0x3C) (begins_mark (safe_from (last_written before c cs) cs)) e in
            let there = mark-came (last_written before c cs) cs both.1 in
            let unmarked = safe-unmarked c cs (begins_mark cs) (stays before c (next_of cs)) safe (less-moves before c (next_of cs)) in
            absurd (cc (sym unmarked ∙ ap₂ (λ s t. s && t) both.0 there))

    by : read_from false (safe_from (last_written before c cs) cs) ≡ with_line_feeds cs → (s t u : Bool) → is_line_end c ≡ s → is_of_line_end c cs ≡ t → is_safe before c cs ≡ u
        → read_from false (written before c cs ++ (safe_from (last_written before c cs) cs)) ≡ ended_as s t c ++ with_line_feeds cs
    by others true t u ends gone safe =
        ap (λ l. read_from false (l ++ (safe_from (last_written before c cs) cs))) (written-line_end before c cs ends).0 ∙ ap (λ l. 0x0A ∷ l) others
    by others false true u ends gone safe = ap (λ l. read_from false (l ++ (safe_from (last_written before c cs) cs))) (written-nothing before c cs ends gone).0 ∙ others
    by others false false true ends gone safe =
        ap (λ l. read_from false (l ++ (safe_from (last_written before c cs) cs))) (written-safe before c cs ends gone safe).0
        ∙ (read-one c (safe_from (last_written before c cs) cs) (no_mark safe) ∙ ap (λ l. c ∷ l) others)
    by others false false false ends gone safe =
        ap (λ l. read_from false (l ++ (safe_from (last_written before c cs) cs))) (written-visible before c cs ends gone safe).0
        ∙ (read-visible c (safe_from (last_written before c cs) cs) are.0 ∙ ap (λ l. c ∷ l) others)
