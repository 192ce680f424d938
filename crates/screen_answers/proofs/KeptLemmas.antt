-- What is kept of the rows that leave a screen changes nothing else of it.
use Rattle.std.proofs.Common.{◌≡◌, ◌≤◌, Bool, true, false, List, [], ◌∷◌, ◌++◌, refl, sym, ap, ap₂, ◌∙◌, append_assoc, subst}
use Rattle.std.specs.Prelude.{Option, not, ◌||◌, if◌then◌else◌}
use Rattle.anstyle_parse.specs.Stream.Call.{Call}
use Rattle.ansi_screen.specs.declared.cell.Cell.{Cell}
use Rattle.ansi_screen.specs.After.{State, after, after_all}
use Rattle.ansi_screen.specs.History.{Kept, with_left}
use Rattle.ansi_screen.specs.Leaving.{with_kept, unkept, rows_left, all_left}
use Rattle.ansi_screen.specs.Damage.{HasHistory}
use Rattle.ansi_screen.specs.Display.{Picture}
use Rattle.ansi_screen.specs.Laws.{with_shown}
use Rattle.ansi_screen.proofs.LeftLemmas.{unkept-after, unkept-after_all, with_left-append, history-after_all}
use Rattle.ansi_screen.proofs.SizeLemmas.{sized-after}
use Rattle.screen_answers.specs.Kept.{is_erasing, is_kept, rows_kept, all_kept, screen_after}

-- The screen is led on by a call as by one that keeps nothing, where what it kept is put back;
pub put-back : (history : Option Kept) (call : Call) (s : State) → with_kept history (after call (unkept s)) ≡ with_kept history (after call s)
put-back history call s = ap (with_kept history) (unkept-after call s)

-- and what it kept is of its width then too.
pub still-wide : (call : Call) (s : State) (history : Option Kept) → s.display.bottom ≤ s.display.height → HasHistory s.display.width history
    → HasHistory (after call (unkept s)).display.width history
still-wide call s history within wide =
    subst (λ w. HasHistory w history) (sym (sized-after s.display.width s.display.height call (unkept s) (refl, refl, within)).0) wide

-- Which rows are kept does not hang on what was kept before.
all_kept-unkept : (keeps : Bool) (calls : List Call) (s : State) → all_kept keeps calls (unkept s) ≡ all_kept keeps calls s
all_kept-unkept keeps [] s = refl
all_kept-unkept keeps (call ∷ calls) s =
    ap (λ rows. rows_kept keeps call s ++ rows) (ap (all_kept keeps calls) (unkept-after call s) ∙ all_kept-unkept keeps calls (after call s))

pub all_kept-with : (keeps : Bool) (history : Option Kept) (calls : List Call) (s : State) → all_kept keeps calls (with_kept history s) ≡ all_kept keeps calls s
all_kept-with keeps history calls s = sym (all_kept-unkept keeps calls (with_kept history s)) ∙ all_kept-unkept keeps calls s

-- nor on what was shown.
pub all_kept-since : (keeps : Bool) (p : Picture) (calls : List Call) (s : State) → all_kept keeps calls (with_shown p s) ≡ all_kept keeps calls s
all_kept-since keeps p [] s = refl
all_kept-since keeps p (call ∷ calls) s = ap (λ rows. rows_kept keeps call s ++ rows) (all_kept-since keeps p calls (after call s))

after-with : (history : Option Kept) (calls : List Call) (s : State) → unkept (after_all calls (with_kept history s)) ≡ unkept (after_all calls s)
after-with history calls s = sym (unkept-after_all calls (with_kept history s)) ∙ unkept-after_all calls s

-- A screen keeps the last of the rows that are kept, by a call,
by-kept : (kept : Bool) (call : Call) (s : State)
    → (if kept then after call s else with_kept s.history (after call s))
    ≡ with_kept (with_left (if kept then rows_left call s else []) s.history) (after call s)
by-kept true call s = refl
by-kept false call s = refl

pub by-call : (keeps : Bool) (call : Call) (s : State)
    → screen_after keeps call s ≡ with_kept (with_left (rows_kept keeps call s) s.history) (after call s)
by-call keeps call s = by-kept (is_kept keeps call) call s

-- and by calls after it.
pub by-more : (keeps : Bool) (call : Call) (calls : List Call) (s : State)
    → with_kept (with_left (all_kept keeps calls (screen_after keeps call s)) (screen_after keeps call s).history) (after_all calls (screen_after keeps call s))
    ≡ with_kept (with_left (all_kept keeps (call ∷ calls) s) s.history) (after_all (call ∷ calls) s)
by-more keeps call calls s =
    let m : State = after call s in
    let h : Option Kept = with_left (rows_kept keeps call s) s.history in
    ap (λ (e : State). with_kept (with_left (all_kept keeps calls e) e.history) (after_all calls e)) (by-call keeps call s)
    ∙ (ap (λ rows. with_kept (with_left rows h) (after_all calls (with_kept h m))) (all_kept-with keeps h calls m)
    ∙ (ap (with_kept (with_left (all_kept keeps calls m) h)) (after-with h calls m)
    ∙ ap (λ (g : Option Kept). with_kept g (after_all calls m)) (sym (with_left-append (rows_kept keeps call s) (all_kept keeps calls m) s.history))))

-- Where all are kept, they are those that leave, and the screen goes by itself.
rows-all : (erases : Bool) (rows : List (List Cell)) → (if not erases || true then rows else []) ≡ rows
rows-all true rows = refl
rows-all false rows = refl

pub all-kept : (calls : List Call) (s : State) → all_kept true calls s ≡ all_left calls s
all-kept [] s = refl
all-kept (call ∷ calls) s =
    ap₂ (λ (l m : List (List Cell)). l ++ m) (rows-all (is_erasing call) (rows_left call s)) (all-kept calls (after call s))

pub goes-alone : (keeps : Bool) (calls : List Call) (s : State) → keeps ≡ true
    → with_kept (with_left (all_kept keeps calls s) s.history) (after_all calls s) ≡ after_all calls s
goes-alone keeps calls s on =
    ap (λ k. with_kept (with_left (all_kept k calls s) s.history) (after_all calls s)) on
    ∙ ap (λ (h : Option Kept). with_kept h (after_all calls s))
    (ap (λ rows. with_left rows s.history) (all-kept calls s) ∙ sym (history-after_all calls s))

-- By one list of calls after another the rows of each are kept.
pub all_kept-append : (keeps : Bool) (calls more : List Call) (s : State)
    → all_kept keeps (calls ++ more) s ≡ all_kept keeps calls s ++ all_kept keeps more (after_all calls s)
all_kept-append keeps [] more s = refl
all_kept-append keeps (call ∷ calls) more s =
    ap (λ rows. rows_kept keeps call s ++ rows) (all_kept-append keeps calls more (after call s))
    ∙ sym (append_assoc (rows_kept keeps call s) (all_kept keeps calls (after call s)) (all_kept keeps more (after_all calls (after call s))))
