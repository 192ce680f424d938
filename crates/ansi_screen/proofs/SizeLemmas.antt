-- Whatever calls a screen receives, it keeps its size, and no more rows leave by a call than it has.
use Rattle.std.proofs.Common.{◌≡◌, ℕ, ◌≤◌, Bool, true, false, List, [], ◌∷◌, arith}
use Rattle.std.specs.Prelude.{⊤, if◌then◌else◌}
use Rattle.anstyle_parse.specs.Stream.Call.{Call}
use Rattle.ansi_screen.specs.Display.{Display}
use Rattle.ansi_screen.specs.Modes.{softly_reset}
use Rattle.ansi_screen.specs.After.{State, after, after_all}
use Rattle.ansi_screen.specs.Edits.{swapped, main_screen}
use Rattle.ansi_screen.proofs.LeavingTable.{leaving, call-few}
use Rattle.ansi_screen.proofs.KeptLemmas.{Change, narrow, soften, renew}
use Rattle.ansi_screen.proofs.Walk.{walk}
use Rattle.ansi_screen.proofs.KeptCalls.{Any, any-call, any-repeat}

module _ (width height : ℕ) where
  -- a display of this size, with its lower margin within
  abbrev pub HasSize : Display → Type 0
  HasSize d = (d.width ≡ width) × (d.height ≡ height) × (d.bottom ≤ height)

  sized-if : (t : Bool) (a b : Display) → HasSize a → HasSize b → HasSize (if t then a else b)
  sized-if true a b first second = first
  sized-if false a b first second = second

  sized-change : (d e : Display) → Change Any ⊤ d e → HasSize d → HasSize e
  unfolding softly_reset
  sized-change d e (narrow top bottom row column order inside within) s = (s.0, s.1, omega (arith, s.1))
  sized-change d e soften s = (s.0, s.1, omega (arith, s.1))
  sized-change d e renew s = (s.0, s.1, omega (arith, s.1))
  sized-change d e change s = s

  pub sized-after : (call : Call) (s : State) → HasSize s.display → HasSize (after call s).display
  sized-after call s is =
      walk Any ⊤ HasSize sized-change call s.last s.display (any-call call) (any-repeat s.last) is

  pub sized-after_all : (calls : List Call) (s : State) → HasSize s.display → HasSize (after_all calls s).display
  sized-after_all [] s is = is
  sized-after_all (call ∷ calls) s is = sized-after_all calls (after call s) (sized-after call s is)

  pub sized-main : (d : Display) → HasSize d → HasSize (main_screen d)
  sized-main d s = sized-if d.is_alternate (swapped d) d s s

  pub few-leave : (call : Call) (d : Display) → HasSize d → leaving call d ≤ height
  few-leave call d s = call-few height call d (omega (arith, s.1)) s.2
