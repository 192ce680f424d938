-- What a screen keeps of the rows that leave it, and what it was shown as, decides nothing; and what is kept after calls.
use Rattle.std.proofs.Common.{◌≡◌, ◌+◌, ◌-◌, ◌≤◌, List, [], ◌∷◌, ◌++◌, length, drop, refl, ap, sym, ◌∙◌, arith, append_assoc, append-nil}
use Rattle.std.specs.Prelude.{Option, None, Some}
use Rattle.std.proofs.lemmas.List.{length-append}
use Rattle.anstyle_parse.specs.Stream.Call.{Call}
use Rattle.ansi_screen.specs.declared.cell.Cell.{Cell}
use Rattle.ansi_screen.specs.Display.{Picture}
use Rattle.ansi_screen.specs.History.{Kept, keep_last, kept_after, kept_after_all, with_left}
use Rattle.ansi_screen.specs.After.{State, after, after_all}
use Rattle.ansi_screen.specs.Leaving.{unkept, kept_rows, rows_left, all_left}
use Rattle.ansi_screen.specs.Laws.{with_shown}

-- rows that leave one screen that keeps none, one that keeps some, and one after another
pub left_none : (rows : List (List Cell)) → with_left rows None ≡ None
left_none [] = refl
left_none (row ∷ rows) = left_none rows

pub left_some : (rows : List (List Cell)) (kept : Kept) → with_left rows (Some kept) ≡ Some (kept_after_all rows kept)
left_some [] kept = refl
left_some (row ∷ rows) kept = left_some rows (kept_after row kept)

pub with_left-append : (rows more : List (List Cell)) (history : Option Kept) → with_left (rows ++ more) history ≡ with_left more (with_left rows history)
with_left-append [] more history = refl
with_left-append (row ∷ rows) more None = with_left-append rows more None
with_left-append (row ∷ rows) more (Some kept) = with_left-append rows more (Some (kept_after row kept))

-- Room for as many as leave keeps all of them.
kept-whole : (rows : List (List Cell)) (kept : Kept) → length kept.rows + length rows ≤ kept.most → (kept_after_all rows kept).rows ≡ kept.rows ++ rows
kept-whole [] kept room = sym (append-nil kept.rows)
kept-whole (row ∷ rows) kept room =
    let all : length (kept.rows ++ row ∷ []) - kept.most ≡ 0 = omega (arith, length-append kept.rows (row ∷ []), room) in
    let same : keep_last kept.most (kept.rows ++ row ∷ []) ≡ kept.rows ++ row ∷ [] = ap (λ n. drop n (kept.rows ++ row ∷ [])) all in
    kept-whole rows (kept_after row kept) (omega (arith, ap length same, length-append kept.rows (row ∷ []), room))
    ∙ (ap (λ l. l ++ rows) same ∙ append_assoc kept.rows (row ∷ []) rows)

pub kept-left : (rows : List (List Cell)) (kept : Kept) (history : Option Kept) → kept.rows ≡ [] → length rows ≤ kept.most → history ≡ Some kept
    → kept_rows (with_left rows history) ≡ rows
kept-left rows kept history none room is =
    ap (λ h. kept_rows (with_left rows h)) is
    ∙ (ap kept_rows (left_some rows kept)
    ∙ (kept-whole rows kept (omega (arith, ap length none, room)) ∙ ap (λ l. l ++ rows) none))

-- of a screen of which something else was shown
pub same-after_all : (p : Picture) (calls : List Call) (s : State) → after_all calls (with_shown p s) ≡ with_shown p (after_all calls s)
same-after_all p [] s = refl
same-after_all p (call ∷ calls) s = same-after_all p calls (after call s)

pub all_left-since : (p : Picture) (calls : List Call) (s : State) → all_left calls (with_shown p s) ≡ all_left calls s
all_left-since p [] s = refl
all_left-since p (call ∷ calls) s = ap (λ l. rows_left call s ++ l) (all_left-since p calls (after call s))

-- and of one that keeps none
pub unkept-after : (call : Call) (s : State) → after call (unkept s) ≡ unkept (after call s)
unkept-after call s = ap (λ (history : Option Kept). record (after call s) { history = history }) (left_none (rows_left call s))

pub unkept-after_all : (calls : List Call) (s : State) → after_all calls (unkept s) ≡ unkept (after_all calls s)
unkept-after_all [] s = refl
unkept-after_all (call ∷ calls) s = ap (after_all calls) (unkept-after call s) ∙ unkept-after_all calls (after call s)

pub all_left-unkept : (calls : List Call) (s : State) → all_left calls (unkept s) ≡ all_left calls s
all_left-unkept [] s = refl
all_left-unkept (call ∷ calls) s =
    ap (λ l. rows_left call s ++ l) (ap (all_left calls) (unkept-after call s) ∙ all_left-unkept calls (after call s))

-- What is kept after calls are the rows that left by them, and what was kept before.
pub history-after_all : (calls : List Call) (s : State) → (after_all calls s).history ≡ with_left (all_left calls s) s.history
history-after_all [] s = refl
history-after_all (call ∷ calls) s =
    history-after_all calls (after call s) ∙ sym (with_left-append (rows_left call s) (all_left calls (after call s)) s.history)
