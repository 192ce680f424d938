-- The characters of calls with the marks between them.
use Rattle.std.proofs.Common.{◌≡◌, ℕ, ◌+◌, ◌*◌, ◌<◌, ◌≤◌, Bool, true, false, List, [], ◌∷◌, ◌++◌, length, eqb-true, filter, refl, sym, ap, ap₂, ◌∙◌, subst, inr, ⊎_elim, arith, length-append, append-nil}
use Rattle.std.specs.Prelude.{◌==◌, if◌then◌else◌}
use Rattle.std.specs.Char.{IsScalar}
use Rattle.std.specs.List.{AllByRecursion}
use Rattle.std.proofs.lemmas.Bool.{or_cases}
use Rattle.anstyle_parse.specs.Stream.Call.{Call, print, execute, hook, put, unhook, osc_dispatch, csi_dispatch, esc_dispatch}
use Rattle.anstyle_parse.specs.Laws.Lawful.{AreLawfulFrom}
use Rattle.ansi_strip.specs.Strip.{is_left, is_layout}
use Rattle.safe_text.specs.Safe.{hides, shows, characters_of, characters}
use Rattle.ansi_style.specs.declared.style.Style.{Style}
use Rattle.ansi_style.specs.Style.{plain}
use Rattle.ansi_style.specs.Rendition.{style_after}
use Rattle.xterm_palette.specs.Palette.{number_of}
use Rattle.safe_text.specs.Unseen.{is_unseen}
use Rattle.safe_text.specs.Marks.{Hiding, nothing_hidden, open_after, hiding_after, mark_between, marked_of, marked_from, hiding_from, closing, marked, is_mark, without_marks, IsSeenFrom, NeverHides}
use Rattle.safe_text.proofs.CallLemmas.{scalars-lawful, scalar-below}
use Rattle.safe_text.proofs.MarkLemmas.{hiding}
use Rattle.safe_text.proofs.VisibleLemmas.{scalar-character, no-mark}
use Rattle.safe_text.proofs.WholeLemmas.{IsItem, all-items, all-append}

-- each is a character or a mark
pub between-items : (on next : Bool) → AllByRecursion IsItem (mark_between on next)
between-items true true = tt
between-items false false = tt
between-items true false = (inr refl, tt)
between-items false true = (inr refl, tt)

module _ (P : ℕ → Type 0) (between : (on next : Bool) → AllByRecursion P (mark_between on next)) where
  -- What holds of the marks and of the characters holds of all.
  pub all-marked : (at : Hiding) (calls : List Call) → AllByRecursion P (characters calls) → AllByRecursion P (marked_from at calls)
  all-marked at [] are = tt
  all-marked at (call ∷ calls) are =
      all-append P (marked_of call at) (marked_from (hiding_after call at) calls)
      (all-append P (mark_between at.is_open (open_after call at)) (characters_of call) (between at.is_open (open_after call at)) (front (characters_of call) are))
      (all-marked (hiding_after call at) calls (back (characters_of call) are))
    where
      front : (cs : List ℕ) → AllByRecursion P (cs ++ characters calls) → AllByRecursion P cs
      front [] these = tt
      front (c ∷ cs) these = (these.0, front cs these.1)

      back : (cs : List ℕ) → AllByRecursion P (cs ++ characters calls) → AllByRecursion P (characters calls)
      back [] these = these
      back (c ∷ cs) these = back cs these.1

  pub all-marked-whole : (calls : List Call) → AllByRecursion P (characters calls) → AllByRecursion P (marked calls)
  all-marked-whole calls are =
      all-append P (marked_from nothing_hidden calls) (closing (hiding_from nothing_hidden calls)) (all-marked nothing_hidden calls are)
      (between (hiding_from nothing_hidden calls).is_open false)

pub marked-items : (calls : List Call) → AreLawfulFrom false calls → AllByRecursion IsItem (marked calls)
marked-items calls lawful = all-marked-whole IsItem between-items calls (all-items (characters calls) (scalars-lawful false calls lawful))

-- and below 1000000
item-below : (c : ℕ) → IsItem c → c < 0x1000000
item-below c item =
    let at : (k : ℕ) → k < 0x1000000 → (c == k) ≡ true → c < 0x1000000 = λ k small same. let e = eqb-true c k same in omega (arith, e, small) in
    ⊎_elim (scalar-below c) (λ is. ⊎_elim (at hides (omega arith)) (at shows (omega arith)) (or_cases (c == hides) (c == shows) is)) item

pub items-below : (cs : List ℕ) → AllByRecursion IsItem cs → AllByRecursion (λ c. c < 0x1000000) cs
items-below [] are = tt
items-below (c ∷ cs) are = (item-below c are.0, items-below cs are.1)

-- Without the marks they are the characters.
without-one : (x : ℕ) (t : Bool) (all front behind : List ℕ) → all ≡ front ++ behind
    → (if t then all else x ∷ all) ≡ (if t then front else x ∷ front) ++ behind
without-one x true all front behind same = same
without-one x false all front behind same = ap (λ l. x ∷ l) same

pub without-append : (xs ys : List ℕ) → without_marks (xs ++ ys) ≡ without_marks xs ++ without_marks ys
without-append [] ys = refl
without-append (x ∷ xs) ys =
    without-one x (is_mark x) (without_marks (xs ++ ys)) (without_marks xs) (without_marks ys) (without-append xs ys)

pub without-between : (on next : Bool) → without_marks (mark_between on next) ≡ []
without-between true true = refl
without-between false false = refl
without-between true false = refl
without-between false true = refl

scalar-no_mark : (c : ℕ) → IsScalar c → is_mark c ≡ false
scalar-no_mark c scalar = let none = no-mark c (scalar-character c scalar) in rw (none.0, none.1) refl

pub without-scalars : (cs : List ℕ) → AllByRecursion IsScalar cs → without_marks cs ≡ cs
without-scalars [] are = refl
without-scalars (c ∷ cs) are = rw (scalar-no_mark c are.0) (ap (λ l. c ∷ l) (without-scalars cs are.1))

without-marked : (at : Hiding) (calls : List Call) → without_marks (marked_from at calls) ≡ without_marks (characters calls)
without-marked at [] = refl
without-marked at (call ∷ calls) =
    without-append (marked_of call at) (marked_from (hiding_after call at) calls)
    ∙ ap₂ (λ x y. x ++ y)
    (without-append (mark_between at.is_open (open_after call at)) (characters_of call)
    ∙ ap (λ l. l ++ without_marks (characters_of call)) (without-between at.is_open (open_after call at)))
    (without-marked (hiding_after call at) calls)
    ∙ sym (without-append (characters_of call) (characters calls))

pub without-all : (calls : List Call) → AreLawfulFrom false calls → without_marks (marked calls) ≡ characters calls
without-all calls lawful =
    without-append (marked_from nothing_hidden calls) (closing (hiding_from nothing_hidden calls))
    ∙ ap₂ (λ x y. x ++ y) (without-marked nothing_hidden calls ∙ without-scalars (characters calls) (scalars-lawful false calls lawful))
    (without-between (hiding_from nothing_hidden calls).is_open false)
    ∙ append-nil (characters calls)

-- Where nothing is hidden, there are no marks.
abbrev NoMarks : Style → List Call → Type 0
NoMarks style calls = (marked_from (hiding style false) calls ≡ characters calls) × ((hiding_from (hiding style false) calls).is_open ≡ false)

never-marked : (style : Style) (calls : List Call) → IsSeenFrom style calls → NoMarks style calls
never-marked style [] never = (refl, refl)
never-marked style (print c ∷ calls) never =
    let rest = never-marked style calls never.1 in (
      ap (λ t. (mark_between false t ++ c ∷ []) ++ marked_from (hiding style t) calls) never.0 ∙ ap (λ l. c ∷ l) rest.0,
      ap (λ t. (hiding_from (hiding style t) calls).is_open) never.0 ∙ rest.1,
    )
never-marked style (execute b ∷ calls) never = let rest = never-marked style calls never.1 in (ap (λ l. b ∷ l) rest.0, rest.1)
never-marked style (hook gs is ig f ∷ calls) never = never-marked style calls never.1
never-marked style (put b ∷ calls) never = never-marked style calls never.1
never-marked style (unhook ∷ calls) never = never-marked style calls never.1
never-marked style (osc_dispatch parts bell ∷ calls) never = never-marked style calls never.1
never-marked style (csi_dispatch gs is ig f ∷ calls) never = never-marked (style_after (csi_dispatch gs is ig f) style) calls never.1
never-marked style (esc_dispatch is ig f ∷ calls) never = never-marked style calls never.1

pub never-marks : (calls : List Call) → NeverHides calls → marked calls ≡ characters calls
never-marks calls never =
    let same = never-marked plain calls never in
    ap₂ (λ l on. l ++ mark_between on false) same.0 same.1 ∙ append-nil (characters calls)

-- Of what is left by stripping, no call hides.
seen-plain : is_unseen plain ≡ false
unfolding is_unseen number_of
seen-plain = refl

filtered-one : (t : Bool) (b : ℕ) (left : List Call) → NeverHides left → NeverHides (if t then execute b ∷ left else left)
filtered-one true b left never = (seen-plain, never)
filtered-one false b left never = never

filtered : (calls : List Call) → NeverHides (filter is_left calls)
filtered [] = tt
filtered (print c ∷ calls) = (seen-plain, filtered calls)
filtered (execute b ∷ calls) = filtered-one (is_layout b) b (filter is_left calls) (filtered calls)
filtered (hook gs is ig f ∷ calls) = filtered calls
filtered (put b ∷ calls) = filtered calls
filtered (unhook ∷ calls) = filtered calls
filtered (osc_dispatch parts bell ∷ calls) = filtered calls
filtered (csi_dispatch gs is ig f ∷ calls) = filtered calls
filtered (esc_dispatch is ig f ∷ calls) = filtered calls

pub left-shown : (calls : List Call) → filter is_left calls ≡ calls → NeverHides calls
left-shown calls left = subst NeverHides left (filtered calls)

-- At most two a call, and one more at the end.
pub length-between : (on next : Bool) → length (mark_between on next) ≤ 1
length-between true true = omega arith
length-between false false = omega arith
length-between true false = omega arith
length-between false true = omega arith

length-one : (call : Call) → length (characters_of call) ≤ 1
length-one (print c) = omega arith
length-one (execute b) = omega arith
length-one (hook gs is ig f) = omega arith
length-one (put b) = omega arith
length-one unhook = omega arith
length-one (osc_dispatch parts bell) = omega arith
length-one (csi_dispatch gs is ig f) = omega arith
length-one (esc_dispatch is ig f) = omega arith

pub length-from : (at : Hiding) (calls : List Call) → length (marked_from at calls) ≤ 2 * length calls
length-from at [] = omega arith
length-from at (call ∷ calls) =
    omega (
      arith,
      length-append (marked_of call at) (marked_from (hiding_after call at) calls),
      length-append (mark_between at.is_open (open_after call at)) (characters_of call),
      length-between at.is_open (open_after call at),
      length-one call,
      length-from (hiding_after call at) calls,
    )

pub length-marked : (calls : List Call) → length (marked calls) ≤ 2 * length calls + 1
length-marked calls =
    omega (
      arith,
      length-append (marked_from nothing_hidden calls) (closing (hiding_from nothing_hidden calls)),
      length-from nothing_hidden calls,
      length-between (hiding_from nothing_hidden calls).is_open false,
    )
