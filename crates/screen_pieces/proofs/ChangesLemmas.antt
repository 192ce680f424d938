-- What can have changed since a screen forgot is what has: its size stays, and the picture of when it forgot.
use Rattle.std.proofs.Common.{◌≡◌, ℕ, ◌*◌, List, ◌++◌, take, drop, refl, sym, ap, ◌∙◌, subst, arith}
use Rattle.ansi_screen.specs.After.{State, new_state}
use Rattle.ansi_screen.specs.Damage.{KeepsColumns}
use Rattle.ansi_screen.specs.Display.{Picture, picture, row_cells}
use Rattle.ansi_screen.specs.State.{shown_cells}
use Rattle.ansi_screen.proofs.SizeLemmas.{sized-after_all}
use Rattle.screen_pieces.specs.declared.terminal.Terminal.{Terminal}
use Rattle.screen_pieces.specs.Terminal.{screen_of, display_of, begun, StandsAfter, IsCopy, Feeds, CanHaveChanged}
use Rattle.screen_pieces.proofs.CopyLemmas.{copy-stands}

-- a screen that began in so many columns has them
width-of : (columns rows : ℕ) (bytes : List ℕ) (terminal : Terminal) → StandsAfter (new_state columns rows) bytes terminal
    → (display_of terminal).width ≡ columns
width-of columns rows bytes terminal stands =
    let (calls, are, led) = stands.shows in
    let sized = sized-after_all columns rows calls (begun (new_state columns rows) terminal) (refl, refl, omega arith) in
    ap (λ (s : State). s.display.width) led ∙ sized.0

pub changes-told : (columns rows : ℕ) (bytes piece : List ℕ) (old forgotten new : Terminal) (row left right : ℕ)
    → StandsAfter (new_state columns rows) bytes old → IsCopy old forgotten → Feeds piece forgotten new → CanHaveChanged row left right new
    → KeepsColumns left right (row_cells row (display_of old)) (row_cells row (display_of new))
changes-told columns rows bytes piece old forgotten new row left right stands copy feeds changed =
    let before : (display_of old).width ≡ columns = width-of columns rows bytes old stands in
    let after : (display_of new).width ≡ columns =
    width-of columns rows (bytes ++ piece) new (feeds.stands (new_state columns rows) bytes (copy-stands (new_state columns rows) bytes old forgotten copy stands)) in
    let width : (display_of new).width ≡ (display_of old).width = after ∙ sym before in
    let since : (screen_of new).shown ≡ picture (display_of old) = feeds.since ∙ ap (λ (s : State). s.shown) copy.screen in
    let same : shown_cells row (screen_of new) ≡ row_cells row (display_of old) =
    ap (λ (p : Picture). take (display_of new).width (drop (row * (display_of new).width) p.cells)) since ∙ ap (λ w. take w (drop (row * w) (display_of old).cells)) width in
    subst (λ cells. KeepsColumns left right cells (row_cells row (display_of new))) same changed.kept
