-- What a screen has noted stays noted; and of a drawing, nothing counts that stood there but the picture and rows that left.
use Rattle.std.proofs.Common.{◌≡◌, ℕ, List, [], ◌∷◌, refl, ap, sym, ◌∙◌, subst}
use Rattle.std.specs.Prelude.{None}
use Rattle.anstyle_parse.specs.Stream.Call.{Call}
use Rattle.ansi_screen.specs.After.{State, after, after_all, as_shown}
use Rattle.ansi_screen.specs.Display.{Display, Picture, IsSized, fresh}
use Rattle.ansi_screen.specs.Following.{IsShownOf}
use Rattle.ansi_screen.proofs.LawLemmas.{after-reset}
use Rattle.ansi_screen.proofs.LeftLemmas.{same-after_all, unkept-after_all}
use Rattle.ansi_screen.proofs.SizeLemmas.{sized-after_all}
use Rattle.screen_draw.specs.Draw.{escape, shown_screen_calls, drawn_calls}
use Rattle.ansi_screen.specs.Laws.{with_shown}
use Rattle.ansi_screen.specs.Leaving.{unkept}

-- the picture stays
pub since-stays : (calls : List Call) (s : State) → (after_all calls s).shown ≡ s.shown
since-stays [] s = refl
since-stays (call ∷ calls) s = since-stays calls (after call s)

-- So what differs from the display of the picture stays noted, as the size stays.
pub noted-stays : (calls : List Call) (s d : State) → IsSized s.display → IsShownOf s d → IsShownOf (after_all calls s) d
noted-stays calls s d sized noted =
    let size = sized-after_all s.display.width s.display.height calls s (refl, refl, sized.margins_within) in
    record { width = noted.width ∙ sym size.0; height = noted.height ∙ sym size.1; picture = since-stays calls s ∙ noted.picture }

-- so it is where the screen was forgotten, and is the one that is shown but for the picture and rows that left
pub still-noted : (shown wanted begun new : State) (calls : List Call) → as_shown (unkept wanted) ≡ as_shown (unkept shown) → begun ≡ as_shown wanted
    → IsSized wanted.display → new ≡ after_all calls begun → IsShownOf new shown
still-noted shown wanted begun new calls same forgets sized is =
    let small : IsSized begun.display = subst (λ (s : State). IsSized s.display) (sym forgets) sized in
    let alike : IsShownOf (as_shown (unkept wanted)) shown =
    subst (λ (s : State). IsShownOf s shown) (sym same) (record { width = refl; height = refl; picture = refl }) in
    let now : IsShownOf begun shown =
    subst (λ (s : State). IsShownOf s shown) (sym forgets) (record { width = alike.width; height = alike.height; picture = alike.picture }) in
    subst (λ (s : State). IsShownOf s shown) (sym is) (noted-stays calls begun shown small now)

-- A drawing begins with RIS.
abbrev new_since : ℕ → ℕ → Picture → State
new_since w h p = record { display = fresh w h; last = None; shown = p; history = None }

reset-unkept : (s : State) → unkept (after (escape 0x63) s) ≡ new_since s.display.width s.display.height s.shown
reset-unkept s = ap unkept (after-reset s)

pub drawing-forgets : (drawn : Display) (a b : State) → a.display.width ≡ b.display.width → a.display.height ≡ b.display.height
    → unkept (after_all (drawn_calls drawn) a) ≡ with_shown a.shown (unkept (after_all (drawn_calls drawn) b))
drawing-forgets drawn a b width height =
    let p : Picture = a.shown in
    let rest : List Call = shown_screen_calls drawn in
    let first : State → State = after (escape 0x63) in
    sym (unkept-after_all rest (first a))
    ∙ (ap (after_all rest)
    (reset-unkept a
    ∙ (ap (λ w. new_since w a.display.height p) width ∙ (ap (λ h. new_since b.display.width h p) height ∙ ap (with_shown p) (sym (reset-unkept b)))))
    ∙ (same-after_all p rest (unkept (first b)) ∙ ap (with_shown p) (unkept-after_all rest (first b))))
