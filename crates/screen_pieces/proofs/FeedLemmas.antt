-- A piece more leads on.
use Rattle.std.proofs.Common.{◌≡◌, ℕ, Bool, true, List, [], ◌∷◌, ◌++◌, refl, sym, ap, ◌∙◌, subst}
use Rattle.std.specs.Prelude.{Option, None, Some, is_some}
use Rattle.anstyle_parse.specs.Stream.Call.{Call}
use Rattle.anstyle_parse.specs.Stream.Calls.{Continues}
use Rattle.anstyle_parse.proofs.Division.Only.{AreCalls-only}
use Rattle.ansi_screen.specs.declared.cell.Cell.{Cell}
use Rattle.ansi_screen.specs.After.{State, Shows, after_all}
use Rattle.ansi_screen.specs.History.{Kept, kept_after, with_left}
use Rattle.ansi_screen.specs.Leaving.{unkept, all_left, with_room_alone}
use Rattle.ansi_screen.specs.TextsProof.{after_all-append}
use Rattle.screen_draw.proofs.NotedLemmas.{since-stays}
use Rattle.ansi_screen.specs.Display.{Picture}
use Rattle.ansi_screen.specs.Laws.{with_shown}
use Rattle.ansi_screen.proofs.LeftLemmas.{unkept-after_all, history-after_all, with_left-append}
use Rattle.screen_answers.specs.declared.answering.Answering.{Answering}
use Rattle.screen_answers.specs.Kept.{all_kept}
use Rattle.screen_answers.specs.Laws.{GoByThemselves}
use Rattle.screen_answers.proofs.KeptLemmas.{all_kept-append}
use Rattle.screen_pieces.specs.History.{nothing_yet, KeepsLeft}
use Rattle.screen_pieces.proofs.CopyLemmas.{kept-led}

pub shows-more : (first old new : State) (before more : List ℕ) (made : List Call) → Continues before more made
    → new ≡ after_all made old → Shows first before old → Shows first (before ++ more) new
shows-more first old new before more made continues becomes shows =
    (shows.0 ++ made, continues shows.0 shows.1, becomes ∙ ap (after_all made) shows.2 ∙ sym (after_all-append shows.0 made first))

-- As much room stays for rows that leave.
kept-room : (rows : List (List Cell)) (history : Option Kept) → nothing_yet (with_left rows history) ≡ nothing_yet history
kept-room [] history = refl
kept-room (row ∷ rows) None = kept-room rows None
kept-room (row ∷ rows) (Some kept) = kept-room rows (Some (kept_after row kept))

pub room-stays : (made : List Call) (old new : State) → new ≡ after_all made old → nothing_yet new.history ≡ nothing_yet old.history
room-stays made old new becomes =
    ap nothing_yet (ap (λ (s : State). s.history) becomes ∙ history-after_all made old) ∙ kept-room (all_left made old) old.history

-- What is kept by calls, by a screen that is handed them
history-led : (made : List Call) (old new : Answering) → GoByThemselves made old new
    → new.screen.history ≡ with_left (all_kept old.keeps_erased made old.screen) old.screen.history
history-led made old new led = ap (λ (s : State). s.history) led.screen

-- Where there is the same room, rows are kept as before.
some-yet : (history : Option Kept) → is_some (nothing_yet history) ≡ is_some history
some-yet None = refl
some-yet (Some kept) = refl

pub some-stays : (old new : Option Kept) → nothing_yet new ≡ nothing_yet old → is_some old ≡ true → is_some new ≡ true
some-stays old new same is = sym (some-yet new) ∙ (ap is_some same ∙ (some-yet old ∙ is))

-- There stays as much room for rows that leave.
pub room-led : (made : List Call) (old new : Answering) → GoByThemselves made old new
    → nothing_yet new.screen.history ≡ nothing_yet old.screen.history
room-led made old new led =
    ap nothing_yet (history-led made old new led) ∙ kept-room (all_kept old.keeps_erased made old.screen) old.screen.history

-- What is kept are the last of all rows that left, and are to be kept.
pub keeps-more : (first : State) (since : Picture) (before more : List ℕ) (made : List Call) (old new : Answering) → Continues before more made
    → Shows (with_shown since (unkept first)) before (unkept old.screen) → KeepsLeft old.keeps_erased first before old.screen.history
    → GoByThemselves made old new → KeepsLeft new.keeps_erased first (before ++ more) new.screen.history
keeps-more first since before more made old new continues shows kept led =
    let keeps : Bool = old.keeps_erased in
    let calls = kept.0 in
    let there : unkept old.screen ≡ after_all calls (with_shown since (unkept first)) =
    shows.2 ∙ ap (λ (l : List Call). after_all l (with_shown since (unkept first))) (AreCalls-only before shows.0 calls shows.1 kept.1) in
    let rows : all_kept keeps calls first ++ all_kept keeps made old.screen ≡ all_kept keeps (calls ++ made) first =
    ap (λ (l : List (List Cell)). all_kept keeps calls first ++ l) (kept-led keeps since calls made first old.screen there)
    ∙ sym (all_kept-append keeps calls made first) in
    subst (λ k. KeepsLeft k first (before ++ more) new.screen.history) (sym led.keeps_erased) (
      calls ++ made,
      continues calls kept.1,
      history-led made old new led
          ∙ (ap (with_left (all_kept keeps made old.screen)) kept.2
          ∙ (sym (with_left-append (all_kept keeps calls first) (all_kept keeps made old.screen) (nothing_yet old.screen.history))
          ∙ (ap (λ l. with_left l (nothing_yet old.screen.history)) rows
          ∙ ap (with_left (all_kept keeps (calls ++ made) first)) (sym (room-led made old new led))))),
    )

-- The picture since which it notes what changes stays.
pub picture-stays : (made : List Call) (old new : Answering) → GoByThemselves made old new → new.screen.shown ≡ old.screen.shown
picture-stays made old new led =
    ap (λ (s : State). s.shown) led.screen ∙ since-stays made old.screen

-- Without what it keeps, its screen is led on by the same calls.
pub unkept-led : (made : List Call) (old new : Answering) → GoByThemselves made old new → unkept new.screen ≡ after_all made (unkept old.screen)
unkept-led made old new led = ap unkept led.screen ∙ sym (unkept-after_all made old.screen)

-- a screen with the picture that it has
pub with-own : (s first : State) (since : Picture) → s ≡ with_shown since first → s ≡ with_shown s.shown first
with-own s first since is = is ∙ ap (λ (e : State). with_shown e.shown first) (sym is)

-- Where what was kept is kept no longer, no row has left yet, and there is as much room.
twice : (history : Option Kept) → nothing_yet (nothing_yet history) ≡ nothing_yet history
twice None = refl
twice (Some kept) = refl

pub cleared-room : (s new : State) → new ≡ with_room_alone s → nothing_yet new.history ≡ nothing_yet s.history
cleared-room s new is = ap (λ (t : State). nothing_yet t.history) is ∙ twice s.history

pub cleared-left : (s new : State) → new ≡ with_room_alone s → new.history ≡ with_left [] (nothing_yet new.history)
cleared-left s new is =
    ap (λ (t : State). t.history) is
    ∙ (sym (twice s.history)
    ∙ (ap (λ (t : State). nothing_yet t.history) (sym is)))
