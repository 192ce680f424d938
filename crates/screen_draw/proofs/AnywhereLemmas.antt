-- A drawing behind any bytes: its first byte, ESC, ends what they have begun.
use Rattle.std.proofs.Common.{◌≡◌, ℕ, false, List, [], ◌∷◌, ◌++◌, ap, ◌∙◌, arith}
use Rattle.anstyle_parse.specs.Machine.Decoder.{decoded}
use Rattle.anstyle_parse.specs.Machine.Step.{new_machine, machine_calls}
use Rattle.anstyle_parse.specs.Stream.Bytes.{escape_byte}
use Rattle.anstyle_parse.specs.Stream.Call.{Call}
use Rattle.anstyle_parse.specs.Stream.Calls.{AreCalls}
use Rattle.anstyle_parse.specs.Stream.Canon.{escape_text, canon}
use Rattle.anstyle_parse.proofs.Agreement.Whole.{AreCalls-machine}
use Rattle.anstyle_parse.proofs.Division.Only.{AreCalls-only}
use Rattle.anstyle_parse.proofs.Headline.{AreCalls-forgotten}
use Rattle.ansi_screen.specs.After.{State, after_all, Shows}
use Rattle.ansi_screen.specs.Leaving.{unkept}
use Rattle.ansi_screen.specs.Display.{Display}
use Rattle.ansi_screen.specs.Reachable.{IsScreen, HasContents}
use Rattle.ansi_screen.proofs.LawLemmas.{after_all-append}
use Rattle.ansi_screen.proofs.SizeLemmas.{sized-after_all}
use Rattle.screen_draw.specs.Draw.{shown_screen_calls, drawn_calls}
use Rattle.screen_draw.specs.Redrawn.{drawn_state}
use Rattle.screen_draw.proofs.RedrawnLemmas.{redrawn-is}
use Rattle.screen_draw.proofs.NotedLemmas.{since-stays}

pub drawn-anywhere : (d : Display) (before : List ℕ) (old new : State) → AreCalls (canon (drawn_calls d)) (drawn_calls d) → IsScreen d → HasContents d → IsScreen old.display
    → old.display.width ≡ d.width → old.display.height ≡ d.height → Shows old (before ++ canon (drawn_calls d)) new → unkept new ≡ drawn_state old.shown d
drawn-anywhere d before old new made is holds old_is width height (calls, are, leads) =
    let first = machine_calls decoded (before ++ escape_byte ∷ []) (new_machine []) in
    let rest = (escape_text [] false ++ 0x63 ∷ []) ++ canon (shown_screen_calls d) in
    let joined : AreCalls (before ++ canon (drawn_calls d)) (first ++ drawn_calls d) =
    AreCalls-forgotten before rest first (drawn_calls d) (AreCalls-machine (before ++ escape_byte ∷ [])) made in
    let same : calls ≡ first ++ drawn_calls d = AreCalls-only (before ++ canon (drawn_calls d)) calls (first ++ drawn_calls d) are joined in
    let sized = sized-after_all d.width d.height first old (width, height, omega (arith, old_is.sized.margins_within, height)) in
    ap unkept (leads ∙ ap (λ (l : List Call). after_all l old) same ∙ after_all-append first (drawn_calls d) old)
    ∙ (redrawn-is d (after_all first old) is holds sized.0 sized.1 ∙ ap (λ p. drawn_state p d) (since-stays first old))
