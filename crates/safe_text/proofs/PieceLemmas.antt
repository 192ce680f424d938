-- Safe text in parts: what is decided of characters, and of calls that come after others.
use Rattle.std.proofs.Common.{◌≡◌, ◌≤◌, ◌*◌, ℕ, Bool, true, false, ◌&&◌, List, [], ◌∷◌, ◌++◌, length, refl, sym, ap, ap₂, ◌∙◌, subst, arith, append_assoc, length-append, IsTrue}
use Rattle.std.specs.Char.{IsScalar}
use Rattle.std.specs.List.{AllByRecursion}
use Rattle.std.specs.Str.{encode_utf8_all, all_scalars, IsUtf8, chars}
use Rattle.std.proofs.lemmas.Bool.{and_parts}
use Rattle.std.proofs.lemmas.Grind.{flat_map-append}
use Rattle.std.proofs.lemmas.Str.{encodes-append, chars-encodes}
use Rattle.anstyle_parse.specs.Stream.Call.{Call}
use Rattle.anstyle_parse.specs.Laws.Lawful.{AreLawful}
use Rattle.safe_text.specs.declared.held.Held.{Held}
use Rattle.safe_text.specs.declared.held.Held.TheVariants.{Nothing, Return, Less, LessU, Space, NonJoiner, Joiner, TextSelector, EmojiSelector}
use Rattle.safe_text.specs.Classes.{is_of_safe_text}
use Rattle.safe_text.specs.Safe.{characters_of, characters, safe_from}
use Rattle.safe_text.specs.Decided.{decided_from, waiting, last_from, undecided_from}
use Rattle.safe_text.specs.Held.{held_characters}
use Rattle.safe_text.specs.Marks.{Hiding, nothing_hidden, marked_from, hiding_from, closing, safe_marked, decided_marked}
use Rattle.safe_text.specs.MarkingProof.{marked-append, hiding-append}
use Rattle.safe_text.specs.TakingProof.{decided_from-append, waiting-append, last_from-append}
use Rattle.safe_text.proofs.CallLemmas.{scalars-lawful}
use Rattle.safe_text.proofs.MarkedLemmas.{between-items, all-marked}
use Rattle.safe_text.proofs.WholeLemmas.{IsItem, whole-from, whole-encoded, encoded-then-safe, safe-class, items-scalars, all-items, length-safe}

-- what holds of all holds of those at the front, and of those at the back
all-front : (P : ℕ → Type 0) (xs ys : List ℕ) → AllByRecursion P (xs ++ ys) → AllByRecursion P xs
all-front P [] ys are = tt
all-front P (x ∷ xs) ys are = (are.0, all-front P xs ys are.1)

all-back : (P : ℕ → Type 0) (xs ys : List ℕ) → AllByRecursion P (xs ++ ys) → AllByRecursion P ys
all-back P [] ys are = are
all-back P (x ∷ xs) ys are = all-back P xs ys are.1

and-both : (s t : Bool) → s ≡ true → t ≡ true → (s && t) ≡ true
and-both true t first second = second
and-both false t first second = absurd (cc first)

scalars-front : (xs ys : List ℕ) → all_scalars (xs ++ ys) ≡ true → all_scalars xs ≡ true
scalars-front [] ys are = refl
scalars-front (x ∷ xs) ys are = let both = and_parts _ _ are in and-both _ _ both.0 (scalars-front xs ys both.1)

-- What is decided is a front of the safe text. So it is UTF-8,
decided-scalars : (before : ℕ) (cs : List ℕ) → AllByRecursion IsItem cs → all_scalars (decided_from before cs) ≡ true
decided-scalars before cs are =
    scalars-front (decided_from before cs) (undecided_from before cs)
    (ap all_scalars (whole-from before cs) ∙ items-scalars before cs are)

pub decided-utf8 : (before : ℕ) (cs : List ℕ) → AllByRecursion IsItem cs → IsUtf8 (encode_utf8_all (decided_from before cs))
decided-utf8 before cs are = (decided_from before cs, (decided-scalars before cs are, refl))

-- of characters of the class,
pub decided-class : (before : ℕ) (cs : List ℕ) → AllByRecursion IsItem cs
    → AllByRecursion (λ c. IsTrue (is_of_safe_text c)) (chars (encode_utf8_all (decided_from before cs)))
decided-class before cs are =
    let P : ℕ → Type 0 = λ c. IsTrue (is_of_safe_text c) in
    subst (AllByRecursion P) (sym (chars-encodes (decided_from before cs) (decided-scalars before cs are)))
    (all-front P (decided_from before cs) (undecided_from before cs)
    (subst (AllByRecursion P) (sym (whole-from before cs)) (safe-class before cs)))

-- and at most ten bytes for each.
pub length-decided : (before : ℕ) (cs : List ℕ) → length (encode_utf8_all (decided_from before cs)) ≤ 10 * length cs
length-decided before cs =
    omega (
      arith,
      length-append (encode_utf8_all (decided_from before cs)) (encode_utf8_all (undecided_from before cs)),
      ap length (whole-encoded before cs),
      length-safe before cs,
    )

-- at most two characters wait, and each is a scalar value
pub length-held : (held : Held) → length (held_characters held) ≤ 2
length-held Nothing = omega arith
length-held Return = omega arith
length-held Less = omega arith
length-held LessU = omega arith
length-held Space = omega arith
length-held NonJoiner = omega arith
length-held Joiner = omega arith
length-held TextSelector = omega arith
length-held EmojiSelector = omega arith

pub held-scalars : (held : Held) → AllByRecursion IsScalar (held_characters held)
held-scalars Nothing = tt
held-scalars Return = (refl, tt)
held-scalars Less = (refl, tt)
held-scalars LessU = (refl, (refl, tt))
held-scalars Space = (refl, tt)
held-scalars NonJoiner = (refl, tt)
held-scalars Joiner = (refl, tt)
held-scalars TextSelector = (refl, tt)
held-scalars EmojiSelector = (refl, tt)

-- the characters of calls that come after others, with the marks between them, are characters and marks
pub items-later : (at : Hiding) (calls more : List Call) → AreLawful (calls ++ more) → AllByRecursion IsItem (marked_from at more)
items-later at calls more lawful =
    all-marked IsItem between-items at more
    (all-items (characters more) (all-back IsScalar (characters calls) (characters more)
    (subst (AllByRecursion IsScalar) (flat_map-append characters_of calls more) (scalars-lawful false (calls ++ more) lawful))))

-- where the safe text stands after calls and then others
module _ (calls more : List Call) where
  abbrev first_marked : List ℕ
  first_marked = marked_from nothing_hidden calls

  abbrev more_marked : List ℕ
  more_marked = marked_from (hiding_from nothing_hidden calls) more

  pub decided-append : decided_marked (calls ++ more) ≡ decided_marked calls ++ encode_utf8_all (decided_from (last_from 0 first_marked) (waiting first_marked ++ more_marked))
  decided-append =
      ap (λ cs. encode_utf8_all (decided_from 0 cs)) (marked-append nothing_hidden calls more)
      ∙ ap encode_utf8_all (decided_from-append 0 first_marked more_marked)
      ∙ encodes-append (decided_from 0 first_marked) (decided_from (last_from 0 first_marked) (waiting first_marked ++ more_marked))

  pub last-append : last_from 0 (marked_from nothing_hidden (calls ++ more)) ≡ last_from (last_from 0 first_marked) (waiting first_marked ++ more_marked)
  last-append = ap (last_from 0) (marked-append nothing_hidden calls more) ∙ last_from-append 0 first_marked more_marked

  pub waiting-more : waiting (marked_from nothing_hidden (calls ++ more)) ≡ waiting (waiting first_marked ++ more_marked)
  waiting-more = ap waiting (marked-append nothing_hidden calls more) ∙ waiting-append first_marked more_marked

  -- what is decided of the first ones, and then the rest of the safe text of all
  pub decided-then-end : safe_marked (calls ++ more)
      ≡ decided_marked calls
      ++ encode_utf8_all (safe_from (last_from 0 first_marked) (waiting first_marked ++ (more_marked ++ closing (hiding_from (hiding_from nothing_hidden calls) more))))
  decided-then-end =
      ap₂ (λ l at. encode_utf8_all (safe_from 0 (l ++ closing at))) (marked-append nothing_hidden calls more) (hiding-append nothing_hidden calls more)
      ∙ ap (λ l. encode_utf8_all (safe_from 0 l)) (append_assoc first_marked more_marked (closing (hiding_from (hiding_from nothing_hidden calls) more)))
      ∙ sym (encoded-then-safe 0 first_marked (more_marked ++ closing (hiding_from (hiding_from nothing_hidden calls) more)))
