-- A terminal that follows a stream shows behind each piece what the bytes so far lead to.
use Rattle.std.proofs.Common.{◌≡◌, ℕ, zero, suc, Bool, true, List, [], ◌∷◌, ◌++◌, take, None, Some, is_some, length, Result, Err, refl, ap, ap₂, sym, ◌∙◌, subst, inl, inr, append_assoc, append-nil}
use Rattle.std.specs.Prelude.{◌⊎◌, IsTrue}
use Rattle.std.specs.Io.KnownBytes.{Consumes, IsAtEnd}
use Rattle.std.specs.List.{AllByRecursion}
use Rattle.std.proofs.lemmas.Bool.{false≢true}
use Rattle.std.proofs.lemmas.Grind.{flat_map-append}
use Rattle.anstyle_parse.specs.declared.io.Fault.TheVariants.{Read, Write, Flush}
use Rattle.anstyle_parse.specs.declared.io.devices.Sink.{Ghosts as SinkOf}
use Rattle.anstyle_parse.specs.declared.io.devices.Source.{Ghosts as SourceOf}
use Rattle.anstyle_parse.specs.declared.io.output.Output.{Output}
use Rattle.anstyle_parse.specs.Io.AddingProof.{AddsAt, Adds-nil}
use Rattle.anstyle_parse.specs.Io.Output.{writer_in, fault_in, HoldsBack, Adds, AddsAll, AddsPrefix}
use Rattle.anstyle_parse.specs.Stream.Call.{Call}
use Rattle.anstyle_parse.specs.Stream.Calls.{Continues}
use Rattle.anstyle_parse.specs.Stream.Canon.{canon}
use Rattle.anstyle_parse.proofs.Canonical.Items.{AreCalls-nil}
use Rattle.anstyle_parse.proofs.Canonical.Replay.{replay}
use Rattle.anstyle_parse.proofs.Written.Output.{Adds-append}
use Rattle.ansi_screen.specs.State.{State, as_shown}
use Rattle.ansi_screen.specs.After.{after_all, Shows}
use Rattle.ansi_screen.specs.Leaving.{unkept}
use Rattle.ansi_screen.specs.Reachable.{IsScreen, HasContents}
use Rattle.ansi_screen.specs.Display.{Picture, picture, IsSized}
use Rattle.ansi_screen.proofs.KeptCalls.{kept-after_all}
use Rattle.ansi_screen.proofs.ContentLemmas.{contents-after_all}
use Rattle.ansi_screen.proofs.LeftLemmas.{same-after_all, unkept-after_all}
use Rattle.ansi_screen.proofs.SizeLemmas.{HasSize, sized-after_all}
use Rattle.ansi_screen.proofs.LawLemmas.{after_all-append, Shows-only}
use Rattle.screen_draw.specs.declared.updates.Stopped.{Stopped}
use Rattle.screen_draw.specs.declared.updates.Stopped.TheVariants.{Stuck, AtFault}
use Rattle.screen_draw.specs.Draw.{drawn_calls}
use Rattle.screen_draw.specs.Drawing.{IsDrawing, Draws}
use Rattle.ansi_screen.specs.Following.{IsShownOf, following}
use Rattle.ansi_screen.specs.Laws.{with_shown}
use Rattle.screen_draw.specs.Redrawn.{redrawn, ShowsFrom}
use Rattle.screen_draw.specs.Update.{update_calls}
use Rattle.screen_draw.specs.Updates.{updates_calls, followed_calls, last_of, AreScreens, joined, IsPiece, StopsBy, LeadsTo, Follows, GetsOn, LooksAs, LooksAlike}
use Rattle.screen_draw.proofs.DrawLemmas.{both-drawing, drawing-lawful, draws-append}
use Rattle.screen_draw.proofs.RedrawnLemmas.{redrawn-is}
use Rattle.screen_draw.proofs.UpdatedLemmas.{updated-is}
use Rattle.screen_draw.proofs.NotedLemmas.{since-stays, noted-stays}

-- a piece more
pub joined-more : (pieces : List (List ℕ)) (piece : List ℕ) → joined (pieces ++ piece ∷ []) ≡ joined pieces ++ piece
joined-more pieces piece = flat_map-append (λ it. it) pieces (piece ∷ []) ∙ ap (λ l. joined pieces ++ l) (append-nil piece)

pub last-more : (first screen : State) (screens : List State) → last_of first (screens ++ screen ∷ []) ≡ screen
last-more first screen [] = refl
last-more first screen (next ∷ screens) = last-more next screen screens

pub calls-more : (first screen : State) (screens : List State)
    → updates_calls first (screens ++ screen ∷ []) ≡ updates_calls first screens ++ update_calls (last_of first screens).display screen.display
calls-more first screen [] = append-nil (update_calls first.display screen.display)
calls-more first screen (next ∷ screens) =
    ap (λ l. update_calls first.display next.display ++ l) (calls-more next screen screens)
    ∙ sym (append_assoc (update_calls first.display next.display) (updates_calls next screens) (update_calls (last_of next screens).display screen.display))

pub pieces-more : (Holds : List ℕ → Type 0) (pieces : List (List ℕ)) (piece : List ℕ) → AllByRecursion Holds pieces → Holds piece
    → AllByRecursion Holds (pieces ++ piece ∷ [])
pieces-more Holds [] piece are is = (is, tt)
pieces-more Holds (next ∷ pieces) piece are is = (are.0, pieces-more Holds pieces piece are.1 is)

pub screens-more : (first screen : State) (before piece : List ℕ) (pieces : List (List ℕ)) (screens : List State)
    → AreScreens first before pieces screens → Shows first ((before ++ joined pieces) ++ piece) screen
    → AreScreens first before (pieces ++ piece ∷ []) (screens ++ screen ∷ [])
screens-more first screen before piece [] [] are shows = (subst (λ l. Shows first (l ++ piece) screen) (append-nil before) shows, tt)
screens-more first screen before piece (next ∷ pieces) (other ∷ screens) are shows = (
  are.0,
  screens-more first screen (before ++ next) piece pieces screens are.1
      (subst (λ l. Shows first (l ++ piece) screen) (sym (append_assoc before next (joined pieces))) shows),
)
screens-more first screen before piece [] (other ∷ screens) are shows = absurd are
screens-more first screen before piece (next ∷ pieces) [] are shows = absurd are

-- the first of the pieces, and their screens
screens-front : (count : ℕ) (first : State) (before : List ℕ) (pieces : List (List ℕ)) (screens : List State)
    → AreScreens first before pieces screens → AreScreens first before (take count pieces) (take count screens)
screens-front zero first before pieces screens are = tt
screens-front (suc count) first before [] [] are = tt
screens-front (suc count) first before (piece ∷ pieces) (screen ∷ screens) are =
    (are.0, screens-front count first (before ++ piece) pieces screens are.1)
screens-front (suc count) first before [] (screen ∷ screens) are = absurd are
screens-front (suc count) first before (piece ∷ pieces) [] are = absurd are

front-drawing : (first second : List Call) → AllByRecursion IsDrawing (first ++ second) → AllByRecursion IsDrawing first
front-drawing [] second are = tt
front-drawing (call ∷ first) second are = (are.0, front-drawing first second are.1)

rest-drawing : (first second : List Call) → AllByRecursion IsDrawing (first ++ second) → AllByRecursion IsDrawing second
rest-drawing [] second are = are
rest-drawing (call ∷ first) second are = rest-drawing first second are.1

updates-drawing : (count : ℕ) (first : State) (screens : List State) → AllByRecursion IsDrawing (updates_calls first screens)
    → AllByRecursion IsDrawing (updates_calls first (take count screens))
updates-drawing zero first screens are = tt
updates-drawing (suc count) first [] are = tt
updates-drawing (suc count) first (screen ∷ screens) are =
    let calls = update_calls first.display screen.display in
    both-drawing calls (updates_calls screen (take count screens)) (front-drawing calls (updates_calls screen screens) are)
    (updates-drawing count screen screens (rest-drawing calls (updates_calls screen screens) are))

pub shows-nothing : (first : State) → Shows first [] first
shows-nothing first = ([], AreCalls-nil, refl)

module _ (first : State) (screen : IsScreen first.display) (contents : HasContents first.display) where
  abbrev width : ℕ
  width = first.display.width

  abbrev height : ℕ
  height = first.display.height

  is-screen : (bytes : List ℕ) (s : State) → Shows first bytes s → IsScreen s.display
  is-screen bytes s shows = subst (λ (e : State). IsScreen e.display) (sym shows.2) (kept-after_all shows.0 first screen)

  has-contents : (bytes : List ℕ) (s : State) → Shows first bytes s → HasContents s.display
  has-contents bytes s shows = subst (λ (e : State). HasContents e.display) (sym shows.2) (contents-after_all shows.0 first screen contents)

  has-size : (bytes : List ℕ) (s : State) → Shows first bytes s → HasSize width height s.display
  has-size bytes s shows = subst (λ (e : State). HasSize width height e.display) (sym shows.2)
      (sized-after_all width height shows.0 first (refl, refl, screen.sized.margins_within))

  updates-follow : (before : List ℕ) (pieces : List (List ℕ)) (screens : List State) (current old : State)
      → Shows first before current → AreScreens first before pieces screens → old.display ≡ redrawn current.display
      → (after_all (updates_calls current screens) old).display ≡ redrawn (last_of current screens).display
  updates-follow before [] [] current old shows are at = at
  updates-follow before (piece ∷ pieces) (next ∷ screens) current old shows are at =
      let calls : List Call = update_calls current.display next.display in
      let here = has-size before current shows in
      let there = has-size (before ++ piece) next are.0 in
      ap (λ (e : State). e.display) (after_all-append calls (updates_calls next screens) old)
      ∙ updates-follow (before ++ piece) pieces screens next (after_all calls old) are.0 are.1
      (updated-is current.display next.display old
      (is-screen before current shows) (has-contents before current shows)
      (is-screen (before ++ piece) next are.0) (has-contents (before ++ piece) next are.0)
      (here.0 ∙ sym there.0) (here.1 ∙ sym there.1) at)
  updates-follow before [] (next ∷ screens) current old shows are at = absurd are
  updates-follow before (piece ∷ pieces) [] current old shows are at = absurd are

  pub followed-is : (pieces : List (List ℕ)) (screens : List State) (old : State)
      → old.display.width ≡ width → old.display.height ≡ height → AreScreens first [] pieces screens
      → ShowsFrom old (after_all (followed_calls first screens) old) (last_of first screens).display
  followed-is pieces screens old wide high are =
      let drawn : List Call = drawn_calls first.display in
      record {
        display = ap (λ (e : State). e.display) (after_all-append drawn (updates_calls first screens) old)
            ∙ updates-follow [] pieces screens first (after_all drawn old) (shows-nothing first) are
            (ap (λ (e : State). e.display) (redrawn-is first.display old screen contents wide high));
        since = since-stays (followed_calls first screens) old;
      }

shows-last : (first current : State) (before : List ℕ) (pieces : List (List ℕ)) (screens : List State)
    → Shows first before current → AreScreens first before pieces screens → Shows first (before ++ joined pieces) (last_of current screens)
shows-last first current before [] [] shows are = subst (λ l. Shows first l current) (sym (append-nil before)) shows
shows-last first current before (piece ∷ pieces) (next ∷ screens) shows are =
    subst (λ l. Shows first l (last_of next screens)) (append_assoc before piece (joined pieces))
    (shows-last first next (before ++ piece) pieces screens are.0 are.1)
shows-last first current before [] (next ∷ screens) shows are = absurd are
shows-last first current before (piece ∷ pieces) [] shows are = absurd are

-- all pieces lead to the last screen
pub whole-shows : (first : State) (pieces : List (List ℕ)) (screens : List State) → AreScreens first [] pieces screens
    → Shows first (joined pieces) (last_of first screens)
whole-shows first pieces screens are = shows-last first first [] pieces screens (shows-nothing first) are

-- the same of the text
pub leads-to : (first : State) (pieces : List (List ℕ)) (screens : List State) → AreScreens first [] pieces screens
    → AllByRecursion IsDrawing (followed_calls first screens)
    → (count : ℕ) → LeadsTo first (canon (followed_calls first (take count screens))) (last_of first (take count screens))
leads-to first pieces screens are drawing count = λ old new screen contents wide high shows.
    let drawn : List Call = drawn_calls first.display in
    let some : List State = take count screens in
    let calls : List Call = followed_calls first some in
    let draws : AllByRecursion IsDrawing calls = both-drawing drawn (updates_calls first some) (front-drawing drawn (updates_calls first screens) drawing)
    (updates-drawing count first screens (rest-drawing drawn (updates_calls first screens) drawing)) in
    subst (λ (e : State). ShowsFrom old e (last_of first some).display)
    (sym (Shows-only (canon calls) old new (after_all calls old) shows (calls, replay calls (drawing-lawful calls draws), refl)))
    (followed-is first screen contents (take count pieces) some old wide high (screens-front count first [] pieces screens are))

-- a fault that comes is that of a write
module _ {W : Type 0} (sink : SinkOf W) where
  fault_at : (text : List ℕ) (a b : Output W) → AddsAll sink text a b ⊎ AddsPrefix sink text a b → is_some (fault_in b) ≡ true → fault_in b ≡ Some Write
  fault_at text a b (inl all) some = absurd (false≢true (ap is_some (sym all.no_fault) ∙ some))
  fault_at text a b (inr prefix) some = prefix.fault

  write-fault : (text : List ℕ) (a b : Output W) → Adds sink text a b → fault_in a ≡ None → is_some (fault_in b) ≡ true → fault_in b ≡ Some Write
  write-fault text a b added none some = fault_at text a b (subst (λ f. AddsAt f sink text a b) none added) some

  -- what is read no more, since what was written does not get on
  pub stops-there : (T at_end : Type 0) (failed failed_after : Bool) (count : ℕ) (text : List ℕ) (a b : Output W) → Adds sink text a b
      → fault_in a ≡ None → (stopped : Stopped) → GetsOn {T = T} (Err stopped) (fault_in b) (HoldsBack sink (writer_in b))
      → failed_after ≡ failed
      → StopsBy {T = T} (Err stopped) at_end (fault_in b) (HoldsBack sink (writer_in b)) failed failed_after count
  stops-there T at_end failed failed_after count text a b added none Stuck gets kept = (gets.0, gets.1, kept)
  stops-there T at_end failed failed_after count text a b added none (AtFault Write) gets kept = (write-fault text a b added none gets, kept)
  stops-there T at_end failed failed_after count text a b added none (AtFault Read) gets kept = absurd gets
  stops-there T at_end failed failed_after count text a b added none (AtFault Flush) gets kept = absurd gets

-- what was handed on is no text
pub text-passed-on : {W : Type 0} (sink : SinkOf W) (text : List ℕ) (a b c : Output W) → Adds sink text a b → Adds sink [] b c → Adds sink text a c
text-passed-on sink text a b c added none =
    subst (λ t. Adds sink t a c) (append-nil text) (Adds-append sink text [] a b c added none)

pub passed-on : {W : Type 0} (sink : SinkOf W) (calls : List Call) (a b c : Output W) → Draws sink calls a b → Adds sink [] b c → Draws sink calls a c
passed-on sink calls a b c draws none = record {
  added = text-passed-on sink (canon calls) a b c draws.added none;
  drawing = draws.drawing;
}

-- an update more
pub draws-more : {W : Type 0} (sink : SinkOf W) (first shown wanted screen : State) (p q : Picture) (screens : List State) (a b c d : Output W)
    → Draws sink (updates_calls first screens) a b → unkept shown ≡ with_shown p (unkept (last_of first screens)) → wanted ≡ with_shown q screen
    → Adds sink (canon (update_calls shown.display wanted.display)) b c → AllByRecursion IsDrawing (update_calls shown.display wanted.display)
    → Adds sink [] c d → Draws sink (updates_calls first (screens ++ screen ∷ [])) a d
draws-more sink first shown wanted screen p q screens a b c d before same next added drawing none =
    let now : State = last_of first screens in
    let calls : List Call = update_calls now.display screen.display in
    let is : update_calls shown.display wanted.display ≡ calls = ap₂ (λ (s t : State). update_calls s.display t.display) same next in
    let more : Draws sink calls b c = subst (λ (l : List Call). Draws sink l b c) is (record { added = added; drawing = drawing }) in
    subst (λ l. Draws sink l a d) (sym (calls-more first screen screens))
    (draws-append sink (updates_calls first screens) calls a b d before (passed-on sink calls b c d more none))

-- a reader was followed
pub follows : {R W T : Type 0} (source : SourceOf R) (sink : SinkOf W) (reader reader_after : R) (first last : State) (a b c : Output W) (answer : Result T Stopped)
    (pieces : List (List ℕ)) (screens : List State)
    → Consumes (source.remaining reader) (source.remaining reader_after) (joined pieces) → AllByRecursion IsPiece pieces
    → AreScreens first [] pieces screens → last ≡ with_shown last.shown (last_of first screens)
    → Draws sink (drawn_calls first.display) a b → Draws sink (updates_calls first screens) b c
    → StopsBy answer (IsTrue source.zero_is_end → IsAtEnd (source.remaining reader_after)) (fault_in c) (HoldsBack sink (writer_in c))
    (source.has_failed reader) (source.has_failed reader_after) (length (joined pieces))
    → Follows source sink reader reader_after first last a c answer
follows source sink reader reader_after first last a b c answer pieces screens consumed each are is begun updated stops =
    let draws : Draws sink (followed_calls first screens) a c =
    draws-append sink (drawn_calls first.display) (updates_calls first screens) a b c begun updated in
    record {
      pieces = pieces;
      screens = screens;
      consumed = consumed;
      each = each;
      are_screens = are;
      is_last = is;
      written = draws.added;
      made = replay (followed_calls first screens) (drawing-lawful (followed_calls first screens) draws.drawing);
      leads = leads-to first pieces screens are draws.drawing;
      stops = stops;
    }

-- the drawing, handed on
pub begins : {W : Type 0} (sink : SinkOf W) (shown first : State) (a b c : Output W) → shown ≡ first
    → Adds sink (canon (drawn_calls shown.display)) a b → AllByRecursion IsDrawing (drawn_calls shown.display) → Adds sink [] b c
    → Draws sink (drawn_calls first.display) a c
begins sink shown first a b c same added drawing none =
    subst (λ (s : State). Draws sink (drawn_calls s.display) a c) same
    (passed-on sink (drawn_calls shown.display) a b c (record { added = added; drawing = drawing }) none)

-- no update yet
pub no-updates : {W : Type 0} (sink : SinkOf W) (a : Output W) → Draws sink [] a a
no-updates sink a = record { added = Adds-nil sink a; drawing = tt }

-- a piece more
pub shows-more : (first last : State) (before piece : List ℕ) (calls : List Call) → Shows first before last → Continues before piece calls
    → Shows first (before ++ piece) (after_all calls last)
shows-more first last before piece calls shows continues =
    let earlier : List Call = shows.0 in (
      earlier ++ calls,
      continues earlier shows.1,
      ap (after_all calls) shows.2 ∙ sym (after_all-append earlier calls first),
    )

-- with the picture that it has
pub with-own : (s t : State) (since : Picture) → s ≡ with_shown since t → s ≡ with_shown s.shown t
with-own s t since is = is ∙ ap (λ (e : State). with_shown e.shown t) (sym is)

pub was-forgotten : (last wanted new : State) (since : Picture) → wanted ≡ with_shown since last → new ≡ as_shown wanted
    → new ≡ with_shown (picture last.display) last
was-forgotten last wanted new since is forgets = forgets ∙ ap as_shown is

-- A piece more comes to the wanted screen: where both were the last one, it has noted all in which they differ then.
pub record ComesOn (first last shown new : State) (before piece : List ℕ) : Type 0 where
  pub next : State
  pub shows : Shows first (before ++ piece) next
  pub is : new ≡ with_shown (picture last.display) next
  pub noted : IsShownOf new shown

pub comes-on : (first last shown wanted new : State) (since : Picture) (before piece : List ℕ) (calls : List Call) → Shows first before last
    → Continues before piece calls → unkept shown ≡ with_shown since (unkept last) → wanted ≡ with_shown (picture last.display) last → IsSized wanted.display
    → new ≡ after_all calls wanted → ComesOn first last shown new before piece
comes-on first last shown wanted new since before piece calls shows continues same to sized is =
    let now : IsShownOf wanted (unkept shown) =
    subst (λ (s : State). IsShownOf wanted s) (sym same)
    (subst (λ (s : State). IsShownOf s (with_shown since (unkept last))) (sym to) (record { width = refl; height = refl; picture = refl })) in
    record {
      next = after_all calls last;
      shows = shows-more first last before piece calls shows continues;
      is = is ∙ (ap (after_all calls) to ∙ same-after_all (picture last.display) calls last);
      noted = subst (λ (s : State). IsShownOf s shown) (sym is)
          (noted-stays calls wanted shown sized (record { width = now.width; height = now.height; picture = now.picture }));
    }

-- with the picture that it has
alike-own : (s t : State) (since : Picture) → unkept s ≡ with_shown since (unkept t) → LooksAlike t s
alike-own s t since is = is ∙ ap (λ (e : State). with_shown e.shown (unkept t)) (sym is)

-- A piece more comes to the screen that is shown: it looks as the one to which all of it leads.
pub comes-too : (first last next shown new : State) (before piece : List ℕ) (calls : List Call) → Shows first before last
    → Continues before piece calls → LooksAlike last shown → new ≡ after_all calls shown → Shows first (before ++ piece) next → LooksAlike next new
comes-too first last next shown new before piece calls shows continues same is wanted =
    let since : Picture = shown.shown in
    let there : after_all calls last ≡ next =
    Shows-only (before ++ piece) first (after_all calls last) next (shows-more first last before piece calls shows continues) wanted in
    alike-own new next since
    (ap unkept is
    ∙ (sym (unkept-after_all calls shown)
    ∙ (ap (after_all calls) same
    ∙ (same-after_all since calls (unkept last)
    ∙ (ap (with_shown since) (unkept-after_all calls last) ∙ ap (λ (s : State). with_shown since (unkept s)) there)))))

-- It is copied from a screen that looks so.
pub comes-copied : (next wanted shown new : State) → LooksAs next wanted
    → new ≡ following wanted shown → LooksAlike next new
comes-copied next wanted shown new looks copied =
    alike-own new next (picture next.display)
    (ap unkept copied ∙ ap (λ (s : State). unkept (as_shown s)) looks)
