-- No definition, but proofs: the language wants those of a trait's laws among the specs.
-- Calls that a screen, alone or with what takes its rows, receives one after another are one list of calls.
use Rattle.std.proofs.Common.{◌≡◌, ℕ, ◌<◌, IsTrue, arith, List, [], ◌∷◌, ◌++◌, refl, sym, ap, ◌∙◌, subst, append_assoc, append-nil}
use Rattle.anstyle_parse.specs.Stream.Call.{Call}
use Rattle.anstyle_parse.specs.Stream.Texts.{FollowsCalls}
use Rattle.anstyle_parse.proofs.Characters.Encoding.{within_parts}
use Rattle.ansi_screen.specs.declared.cell.Cell.{Cell}
use Rattle.ansi_screen.specs.After.{State, after, after_all}
use Rattle.ansi_screen.specs.Runs.{is_printed_ascii}
use Rattle.ansi_screen.specs.Leaving.{rows_left, all_left, TakesRows, Scrolled, screen_of, taker_of, Scrolls, ScrollsAll}

-- printed ASCII is ASCII
pub printed-low : (b : ℕ) → IsTrue (is_printed_ascii b) → b < 0x80
printed-low b is = let range = within_parts 0x20 0x7E b is in omega (arith, range.1)

pub after_all-append : (first second : List Call) (s : State) → after_all (first ++ second) s ≡ after_all second (after_all first s)
after_all-append [] second s = refl
after_all-append (call ∷ calls) second s = after_all-append calls second (after call s)

-- of a screen: the screen before, the calls, the screen after
abbrev pub Becomes : State → List Call → State → Type 0
Becomes old calls new = new ≡ after_all calls old

pub becomes-none : (s : State) → Becomes s [] s
becomes-none s = refl

pub becomes-one : (old : State) (call : Call) (new : State) → new ≡ after call old → Becomes old (call ∷ []) new
becomes-one old call new is = is

pub becomes-more : (old middle new : State) (calls more : List Call) → Becomes old calls middle → Becomes middle more new → Becomes old (calls ++ more) new
becomes-more old middle new calls more first second =
    second ∙ (ap (after_all more) first ∙ sym (after_all-append calls more old))

-- what lists of calls do to it agrees with what each call means
pub becomes-follows : FollowsCalls (λ (old : State) call new. new ≡ after call old) Becomes
becomes-follows = record { none = becomes-none; one = becomes-one; more = becomes-more }

pub all_left-append : (calls more : List Call) (s : State) → all_left (calls ++ more) s ≡ all_left calls s ++ all_left more (after_all calls s)
all_left-append [] more s = refl
all_left-append (call ∷ calls) more s =
    ap (λ rows. rows_left call s ++ rows) (all_left-append calls more (after call s))
    ∙ sym (append_assoc (rows_left call s) (all_left calls (after call s)) (all_left more (after_all calls (after call s))))

-- of a screen of which no row is lost
module _ {R : Type 0} (takes : R → List Cell → R → Type 0) where
  took-append : (rows more : List (List Cell)) (a b c : R) → TakesRows takes a rows b → TakesRows takes b more c
      → TakesRows takes a (rows ++ more) c
  took-append [] more a b c same second = subst (λ x. TakesRows takes x more c) same second
  took-append (row ∷ rows) more a b c first second =
      (first.0, first.1, took-append rows more first.0 b c first.2 second)

  pub scrolls-none : (s : Scrolled R) → ScrollsAll takes s [] s
  scrolls-none s = record { screen = refl; taken = refl }

  pub scrolls-one : (old : Scrolled R) (call : Call) (new : Scrolled R) → Scrolls takes old call new → ScrollsAll takes old (call ∷ []) new
  scrolls-one old call new is = record {
    screen = is.screen;
    taken = subst (λ rows. TakesRows takes (taker_of old) rows (taker_of new)) (sym (append-nil (rows_left call (screen_of old)))) is.taken;
  }

  pub scrolls-more : (old middle new : Scrolled R) (calls more : List Call) → ScrollsAll takes old calls middle → ScrollsAll takes middle more new
      → ScrollsAll takes old (calls ++ more) new
  scrolls-more old middle new calls more first second = record {
    screen = second.screen ∙ (ap (after_all more) first.screen ∙ sym (after_all-append calls more (screen_of old)));
    taken = subst (λ rows. TakesRows takes (taker_of old) rows (taker_of new)) (sym (all_left-append calls more (screen_of old)))
        (took-append (all_left calls (screen_of old)) (all_left more (after_all calls (screen_of old))) (taker_of old) (taker_of middle) (taker_of new)
        first.taken (subst (λ s. TakesRows takes (taker_of middle) (all_left more s) (taker_of new)) first.screen second.taken));
  }

  -- what lists of calls do to it agrees with what each call means
  pub scrolls-follows : FollowsCalls (Scrolls takes) (ScrollsAll takes)
  scrolls-follows = record { none = scrolls-none; one = scrolls-one; more = scrolls-more }

  -- calls by which no row leaves
  pub scrolls-stays : (old new : Scrolled R) (calls : List Call) → screen_of new ≡ after_all calls (screen_of old) → taker_of new ≡ taker_of old
      → all_left calls (screen_of old) ≡ [] → ScrollsAll takes old calls new
  scrolls-stays old new calls shown same stays = record {
    screen = shown;
    taken = subst (λ rows. TakesRows takes (taker_of old) rows (taker_of new)) (sym stays) same;
  }
