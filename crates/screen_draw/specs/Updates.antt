-- What a terminal is given that follows a stream: a drawing, and an update after each piece that was read.
use Rattle.std.specs.Prelude.{◌≡◌, ◌<◌, ◌≤◌, ℕ, Bool, List, [], ◌∷◌, ◌++◌, length, take, Option, None, Some, IsSome, Result, Ok, Err, ⊤, IsTrue}
use Rattle.std.specs.List.{AllByRecursion, flat_map}
use Rattle.std.specs.Io.KnownBytes.{Consumes, IsAtEnd}
use Rattle.anstyle_parse.specs.declared.io.Fault.{Fault}
use Rattle.anstyle_parse.specs.declared.io.Fault.TheVariants.{Write}
use Rattle.anstyle_parse.specs.declared.io.devices.Sink.{Ghosts as SinkOf}
use Rattle.anstyle_parse.specs.declared.io.devices.Source.{Ghosts as SourceOf}
use Rattle.anstyle_parse.specs.declared.io.output.Output.{Output}
use Rattle.anstyle_parse.specs.Io.Output.{writer_in, fault_in, HoldsBack, Adds}
use Rattle.anstyle_parse.specs.Io.Run.{EndsAs}
use Rattle.anstyle_parse.specs.Stream.Call.{Call}
use Rattle.anstyle_parse.specs.Stream.Calls.{AreCalls}
use Rattle.anstyle_parse.specs.Stream.Canon.{canon}
use Rattle.ansi_screen.specs.After.{State, Shows}
use Rattle.ansi_screen.specs.Leaving.{unkept}
use Rattle.ansi_screen.specs.Reachable.{IsScreen, HasContents}
use Rattle.screen_draw.specs.declared.updates.Stopped.{Stopped}
use Rattle.screen_draw.specs.declared.updates.Stopped.TheVariants.{Stuck, AtFault}
use Rattle.screen_draw.specs.Draw.{drawn_calls}
use Rattle.ansi_screen.specs.Laws.{with_shown}
use Rattle.screen_draw.specs.Redrawn.{ShowsFrom}
use Rattle.screen_draw.specs.Update.{update_calls}

-- An update from each screen to the next,
abbrev pub updates_calls : State → List State → List Call
updates_calls first [] = []
updates_calls first (screen ∷ screens) = update_calls first.display screen.display ++ updates_calls screen screens

-- after a drawing of the first.
abbrev pub followed_calls : State → List State → List Call
followed_calls first screens = drawn_calls first.display ++ updates_calls first screens

-- the last screen
abbrev pub last_of : State → List State → State
last_of first [] = first
last_of first (screen ∷ screens) = last_of screen screens

-- A screen looks as another one: it is the same but for the picture from which on it notes what changes.
abbrev pub LooksAs : State → State → Type 0
LooksAs other screen = screen ≡ with_shown screen.shown other

-- It shows the same, but can have kept other rows that left: a copy does not take these along (`following`).
abbrev pub LooksAlike : State → State → Type 0
LooksAlike other screen = unkept screen ≡ with_shown screen.shown (unkept other)

-- Each screen is the one that all bytes lead to, from the first screen and a new parser on, up to the end of its
-- piece; `before` was read before these pieces.
abbrev pub AreScreens : State → (before : List ℕ) → List (List ℕ) → List State → Type 0
AreScreens first before [] [] = ⊤
AreScreens first before (piece ∷ pieces) (screen ∷ screens) =
    Shows first (before ++ piece) screen × AreScreens first (before ++ piece) pieces screens
AreScreens first before pieces screens = ⊥

-- the pieces, joined
abbrev pub joined : List (List ℕ) → List ℕ
joined pieces = flat_map (λ piece. piece) pieces

-- what one read gives: at most as much as a pipe of Linux holds
abbrev pub most_piece : ℕ
most_piece = 65536

abbrev pub IsPiece : List ℕ → Type 0
IsPiece piece = (0 < length piece) × (length piece ≤ most_piece)

-- Whether what was written gets on: the output keeps no fault; or one; or none, but its writer could not pass on what
-- it holds back.
abbrev pub GetsOn : {T : Type 0} → Result T Stopped → (fault : Option Fault) → (held : Type 0) → Type 0
GetsOn (Ok done) fault held = fault ≡ None
GetsOn (Err Stuck) fault held = (fault ≡ None) × held
GetsOn (Err (AtFault Write)) fault held = IsSome fault
GetsOn (Err (AtFault _)) fault held = ⊥

-- Why no more was read: a write failed; or all was given to the writer, which holds back what it could not pass on; or
-- as `EndsAs` has it.
abbrev pub StopsBy : {T : Type 0} → Result T Stopped → (at_end : Type 0) → (fault : Option Fault) → (held : Type 0)
    → (failed failed_after : Bool) → ℕ → Type 0
StopsBy (Err Stuck) at_end fault held failed failed_after count = (fault ≡ None) × held × (failed_after ≡ failed)
StopsBy (Err (AtFault Write)) at_end fault held failed failed_after count =
    (fault ≡ Some Write) × (failed_after ≡ failed)
StopsBy {T} (Err (AtFault other)) at_end fault held failed failed_after count =
    (fault ≡ None) × EndsAs {T = T} (Err other) at_end failed failed_after count
StopsBy {T} (Ok done) at_end fault held failed failed_after count =
    (fault ≡ None) × EndsAs {T = T} (Ok done) at_end failed failed_after count

-- A terminal of the size of a screen shows another one by these bytes, whatever it showed before, but for the rows that
-- left it, which it keeps.
abbrev pub LeadsTo : State → List ℕ → State → Type 0
LeadsTo first bytes wanted = (old new : State) → IsScreen first.display → HasContents first.display
    → old.display.width ≡ first.display.width → old.display.height ≡ first.display.height
    → Shows old bytes new → ShowsFrom old new wanted.display

-- A reader's bytes were followed, from a screen on.
pub record Follows {R W T : Type 0} (source : SourceOf R) (sink : SinkOf W) (reader reader_after : R)
    (first last : State) (output output_after : Output W) (answer : Result T Stopped) : Type 0 where
  -- what each read gave, and the screen after each
  pub pieces : List (List ℕ)
  pub screens : List State
  pub consumed : Consumes (source.remaining reader) (source.remaining reader_after) (joined pieces)
  pub each : AllByRecursion IsPiece pieces
  pub are_screens : AreScreens first [] pieces screens
  pub is_last : LooksAs (last_of first screens) last
  -- the text that was written, of which a parser makes these calls and no others
  pub written : Adds sink (canon (followed_calls first screens)) output output_after
  pub made : AreCalls (canon (followed_calls first screens)) (followed_calls first screens)
  -- after each piece it leads to what the bytes so far lead to
  pub leads : (count : ℕ)
      → LeadsTo first (canon (followed_calls first (take count screens))) (last_of first (take count screens))
  pub stops : StopsBy answer
      (IsTrue source.zero_is_end → IsAtEnd (source.remaining reader_after)) (fault_in output_after)
      (HoldsBack sink (writer_in output_after)) (source.has_failed reader) (source.has_failed reader_after) (length (joined pieces))
