-- What is decided and what is written at the end are the safe text; and what it holds.
use Rattle.std.proofs.Common.{◌≡◌, ℕ, ◌*◌, ◌≤◌, Bool, true, false, eqb-true, List, [], ◌∷◌, ◌++◌, length, refl, sym, ap, ◌∙◌, subst, ◌⊎◌, inl, ⊎_elim, arith, append_assoc, length-append, IsTrue}
use Rattle.std.specs.Prelude.{not, ◌==◌, ◌&&◌, ◌||◌, encode_utf8, if◌then◌else◌}
use Rattle.std.specs.List.{AllByRecursion}
use Rattle.std.specs.Char.{IsScalar}
use Rattle.std.specs.Str.{encode_utf8_all, all_scalars, IsUtf8, chars}
use Rattle.std.proofs.lemmas.Bool.{or_cases}
use Rattle.std.proofs.lemmas.Str.{encodes-append, chars-encodes, length-encode, len_utf8_bounds}
use Rattle.safe_text.specs.Classes.{is_among, is_shown, is_joiner, stays, is_of_safe_text}
use Rattle.safe_text.specs.Safe.{hides, shows, visible, next_of, begins_mark, is_line_end, is_of_line_end, is_safe, written_as, written, last_written, safe_from, AreSafeFrom}
use Rattle.safe_text.specs.Decided.{is_decided, decided_from, waiting, last_from, undecided_from}
use Rattle.safe_text.specs.Marks.{is_mark}
use Rattle.safe_text.specs.TakingProof.{written-more, last_written-more, stays-none}
use Rattle.safe_text.proofs.WriterLemmas.{written-line_end, written-safe}
use Rattle.safe_text.proofs.VisibleLemmas.{visible-class, visible-scalar, encode-visible, length-visible}

pub whole-from : (before : ℕ) (cs : List ℕ) → decided_from before cs ++ undecided_from before cs ≡ safe_from before cs
whole-from before [] = refl
whole-from before (c ∷ cs) = by (whole-from (last_written before c cs) cs) (is_decided c cs)
  where
    by : decided_from (last_written before c cs) cs ++ undecided_from (last_written before c cs) cs ≡ safe_from (last_written before c cs) cs → (t : Bool) → (if t then written before c cs ++ decided_from (last_written before c cs) cs else [])
        ++ safe_from (if t then last_from (last_written before c cs) cs else before) (if t then waiting cs else c ∷ cs) ≡ safe_from before (c ∷ cs)
    by rest true =
        append_assoc (written before c cs) (decided_from (last_written before c cs) cs) (undecided_from (last_written before c cs) cs)
        ∙ ap (λ l. written before c cs ++ l) rest
    by rest false = refl

pub whole-encoded : (before : ℕ) (cs : List ℕ) → encode_utf8_all (decided_from before cs) ++ encode_utf8_all (undecided_from before cs) ≡ encode_utf8_all (safe_from before cs)
whole-encoded before cs = sym (encodes-append (decided_from before cs) (undecided_from before cs)) ∙ ap encode_utf8_all (whole-from before cs)

-- what is decided of characters, and then the rest of their safe text with that of others
pub decided-then-safe : (before : ℕ) (cs more : List ℕ) → decided_from before cs ++ safe_from (last_from before cs) (waiting cs ++ more) ≡ safe_from before (cs ++ more)
decided-then-safe before [] more = refl
decided-then-safe before (c ∷ cs) more = by (decided-then-safe (last_written before c cs) cs more) (is_decided c cs) refl
  where
    by : decided_from (last_written before c cs) cs ++ safe_from (last_from (last_written before c cs) cs) (waiting cs ++ more) ≡ safe_from (last_written before c cs) (cs ++ more)
        → (t : Bool) → is_decided c cs ≡ t
        → (if t then written before c cs ++ decided_from (last_written before c cs) cs else [])
        ++ safe_from (if t then last_from (last_written before c cs) cs else before) ((if t then waiting cs else c ∷ cs) ++ more)
        ≡ safe_from before (c ∷ (cs ++ more))
    by rest true is =
        rw (written-more before c cs more is, last_written-more before c cs more is)
        (append_assoc (written before c cs) (decided_from (last_written before c cs) cs) (safe_from (last_from (last_written before c cs) cs) (waiting cs ++ more))
        ∙ ap (λ l. written before c cs ++ l) rest)
    by rest false is = refl

pub encoded-then-safe : (before : ℕ) (cs more : List ℕ)
    → encode_utf8_all (decided_from before cs) ++ encode_utf8_all (safe_from (last_from before cs) (waiting cs ++ more)) ≡ encode_utf8_all (safe_from before (cs ++ more))
encoded-then-safe before cs more =
    sym (encodes-append (decided_from before cs) (safe_from (last_from before cs) (waiting cs ++ more))) ∙ ap encode_utf8_all (decided-then-safe before cs more)

-- what holds of a line feed, of what is written visibly, and of each character that is left, holds of all
pub all-append : (P : ℕ → Type 0) (xs ys : List ℕ) → AllByRecursion P xs → AllByRecursion P ys → AllByRecursion P (xs ++ ys)
all-append P [] ys a b = b
all-append P (x ∷ xs) ys a b = (a.0, all-append P xs ys a.1 b)

module _ (P Q : ℕ → Type 0) (feed : P 0x0A) (shown : (c : ℕ) → AllByRecursion P (visible c))
    (left : (before c : ℕ) (after : List ℕ) → Q c → is_safe before c after ≡ true → P c) where
  written-all : (before c : ℕ) (after : List ℕ) → Q c → AllByRecursion P (written before c after)
  unfolding written
  written-all before c after q = by (is_line_end c) (is_of_line_end c after) (is_safe before c after) refl
    where
      by : (s t u : Bool) → is_safe before c after ≡ u → AllByRecursion P (written_as s t u c)
      by true t u is = (feed, tt)
      by false true u is = tt
      by false false true is = (left before c after q is, tt)
      by false false false is = shown c

  pub safe-all : (before : ℕ) (cs : List ℕ) → AllByRecursion Q cs → AllByRecursion P (safe_from before cs)
  safe-all before [] are = tt
  safe-all before (c ∷ cs) are =
      all-append P (written before c cs) (safe_from (last_written before c cs) cs) (written-all before c cs are.0) (safe-all (last_written before c cs) cs are.1)

-- The class: a character that is left shows, or is a joiner.
left-class : (c : ℕ) (s t u : Bool) → (s && t || u) ≡ true → is_shown c ≡ s → (u ≡ true → is_joiner c ≡ true) → (s || is_joiner c) ≡ true
left-class c true t u is same joins = refl
left-class c false t true is same joins = joins refl
left-class c false t false is same joins = absurd (cc is)

stays-joiner : (before c next : ℕ) → stays before c next ≡ true → is_joiner c ≡ true
stays-joiner before c next is = by (is_joiner c) refl
  where
    by : (t : Bool) → is_joiner c ≡ t → t ≡ true
    by true e = refl
    by false e = absurd (cc (sym is ∙ stays-none before c next e))

each-unit : (cs : List ℕ) → AllByRecursion (λ c. Unit {0}) cs
each-unit [] = tt
each-unit (c ∷ cs) = (tt, each-unit cs)

pub safe-class : (before : ℕ) (cs : List ℕ) → AllByRecursion (λ c. IsTrue (is_of_safe_text c)) (safe_from before cs)
unfolding is_shown
safe-class before cs =
    safe-all (λ c. IsTrue (is_of_safe_text c)) (λ c. Unit {0}) refl visible-class
    (λ before c after _ is. left-class c (is_shown c) (not (c == 0x3C && begins_mark after)) (stays before c (next_of after)) is refl (stays-joiner before c (next_of after)))
    before cs (each-unit cs)

-- They are scalar values, where those of the stream are.
pub all-scalars : (cs : List ℕ) → AllByRecursion IsScalar cs → all_scalars cs ≡ true
all-scalars [] are = refl
all-scalars (c ∷ cs) are = rw (are.0, all-scalars cs are.1) refl

-- A mark is none, but it is never left as it is.
abbrev pub IsItem : ℕ → Type 0
IsItem c = IsScalar c ⊎ (is_mark c ≡ true)

mark-unsafe : (before : ℕ) (after : List ℕ) → (is_safe before hides after ≡ false) × (is_safe before shows after ≡ false)
unfolding is_shown is_among stays
mark-unsafe before after = (refl, refl)

left-scalar : (before c : ℕ) (after : List ℕ) → IsItem c → is_safe before c after ≡ true → IsScalar c
left-scalar before c after item safe =
    let unsafe = mark-unsafe before after in
    let at : (k : ℕ) → is_safe before k after ≡ false → (c == k) ≡ true → IsScalar c =
    λ k none same. absurd (cc (sym safe ∙ subst (λ n. is_safe before n after ≡ false) (sym (eqb-true c k same)) none)) in
    ⊎_elim (λ scalar. scalar) (λ is. ⊎_elim (at hides unsafe.0) (at shows unsafe.1) (or_cases (c == hides) (c == shows) is)) item

pub items-scalars : (before : ℕ) (cs : List ℕ) → AllByRecursion IsItem cs → all_scalars (safe_from before cs) ≡ true
items-scalars before cs are =
    all-scalars (safe_from before cs) (safe-all IsScalar IsItem refl visible-scalar left-scalar before cs are)

pub all-items : (cs : List ℕ) → AllByRecursion IsScalar cs → AllByRecursion IsItem cs
all-items [] are = tt
all-items (c ∷ cs) are = (inl are.0, all-items cs are.1)

pub safe-scalars : (before : ℕ) (cs : List ℕ) → AllByRecursion IsScalar cs → all_scalars (safe_from before cs) ≡ true
safe-scalars before cs are = items-scalars before cs (all-items cs are)

pub items-chars : (before : ℕ) (cs : List ℕ) → AllByRecursion IsItem cs → chars (encode_utf8_all (safe_from before cs)) ≡ safe_from before cs
items-chars before cs are = chars-encodes (safe_from before cs) (items-scalars before cs are)

pub safe-chars : (before : ℕ) (cs : List ℕ) → AllByRecursion IsScalar cs → chars (encode_utf8_all (safe_from before cs)) ≡ safe_from before cs
safe-chars before cs are = chars-encodes (safe_from before cs) (safe-scalars before cs are)

pub items-utf8 : (before : ℕ) (cs : List ℕ) → AllByRecursion IsItem cs → IsUtf8 (encode_utf8_all (safe_from before cs))
items-utf8 before cs are = (safe_from before cs, (items-scalars before cs are, refl))

pub safe-utf8 : (before : ℕ) (cs : List ℕ) → AllByRecursion IsScalar cs → IsUtf8 (encode_utf8_all (safe_from before cs))
safe-utf8 before cs are = (safe_from before cs, (safe-scalars before cs are, refl))

-- What is safe is left as it is.
none-safe : (before : ℕ) (cs : List ℕ) (k : ℕ) → ((c : ℕ) → c ≡ k → is_safe before c cs ≡ false) → (c : ℕ) → is_safe before c cs ≡ true → (c == k) ≡ false
none-safe before cs k unsafe c is = by (c == k) refl
  where
    by : (t : Bool) → (c == k) ≡ t → t ≡ false
    by true e = absurd (cc (sym is ∙ unsafe c (eqb-true c k e)))
    by false e = refl

control-unsafe : (before : ℕ) (cs : List ℕ) → (is_safe before 0x0B cs ≡ false) × (is_safe before 0x0C cs ≡ false) × (is_safe before 0x0D cs ≡ false)
unfolding is_shown is_among stays
control-unsafe before cs = (refl, refl, refl)

safe-kept : (before c : ℕ) (cs : List ℕ) → is_safe before c cs ≡ true → (written before c cs ≡ c ∷ []) × (last_written before c cs ≡ c)
safe-kept before c cs is = by (c == 0x0A) refl
  where
    unsafe : (is_safe before 0x0B cs ≡ false) × (is_safe before 0x0C cs ≡ false) × (is_safe before 0x0D cs ≡ false)
    unsafe = control-unsafe before cs

    no_tab : (c == 0x0B) ≡ false
    no_tab = none-safe before cs 0x0B (λ k e. subst (λ n. is_safe before n cs ≡ false) (sym e) unsafe.0) c is

    no_feed : (c == 0x0C) ≡ false
    no_feed = none-safe before cs 0x0C (λ k e. subst (λ n. is_safe before n cs ≡ false) (sym e) unsafe.1) c is

    no_return : (c == 0x0D) ≡ false
    no_return = none-safe before cs 0x0D (λ k e. subst (λ n. is_safe before n cs ≡ false) (sym e) unsafe.2) c is

    by : (t : Bool) → (c == 0x0A) ≡ t → (written before c cs ≡ c ∷ []) × (last_written before c cs ≡ c)
    by true e =
        let feed = eqb-true c 0x0A e in
        let at = written-line_end before c cs (ap (λ t. t || c == 0x0B || c == 0x0C) e ∙ refl) in
        (at.0 ∙ ap (λ b. b ∷ []) (sym feed), at.1 ∙ sym feed)
    by false e = written-safe before c cs (rw (e, no_tab, no_feed) refl) (ap (λ t. t && next_of cs == 0x0A) no_return) is

pub safe-from : (before : ℕ) (cs : List ℕ) → AreSafeFrom before cs → safe_from before cs ≡ cs
safe-from before [] are = refl
safe-from before (c ∷ cs) are =
    let one = safe-kept before c cs are.0 in
    rw (one.0, one.1) (ap (λ l. c ∷ l) (safe-from c cs are.1))

-- A character gives at most ten bytes.
length-written : (before c : ℕ) (after : List ℕ) → length (encode_utf8_all (written before c after)) ≤ 10
unfolding written
length-written before c after = by (is_line_end c) (is_of_line_end c after) (is_safe before c after)
  where
    by : (s t u : Bool) → length (encode_utf8_all (written_as s t u c)) ≤ 10
    by true t u = omega (arith, length-append (encode_utf8 0x0A) [], length-encode 0x0A, len_utf8_bounds 0x0A)
    by false true u = omega arith
    by false false true = omega (arith, length-append (encode_utf8 c) [], length-encode c, len_utf8_bounds c)
    by false false false = omega (arith, ap length (encode-visible c), length-visible c)

pub length-safe : (before : ℕ) (cs : List ℕ) → length (encode_utf8_all (safe_from before cs)) ≤ 10 * length cs
length-safe before [] = omega arith
length-safe before (c ∷ cs) =
    omega (
      arith,
      ap length (encodes-append (written before c cs) (safe_from (last_written before c cs) cs)),
      length-append (encode_utf8_all (written before c cs)) (encode_utf8_all (safe_from (last_written before c cs) cs)),
      length-written before c cs,
      length-safe (last_written before c cs) cs,
    )
