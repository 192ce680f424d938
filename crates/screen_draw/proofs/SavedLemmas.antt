-- Places to which the cursor goes, what is saved, and a whole list of cells behind it.
use Rattle.std.proofs.Common.{◌≡◌, ℕ, ◌+◌, ◌-◌, ◌<◌, ◌≤◌, Bool, true, false, List, [], ◌∷◌, ◌++◌, length, take, drop, refl, ap, ◌∙◌, arith, append-nil}
use Rattle.std.specs.Prelude.{min, replicate, if◌then◌else◌, Option}
use Rattle.std.proofs.lemmas.List.{take_all, drop_all}
use Rattle.anstyle_parse.specs.Stream.Call.{Call}
use Rattle.ansi_style.specs.declared.style.Style.{Style}
use Rattle.ansi_screen.specs.declared.cell.Cell.{Cell}
use Rattle.ansi_screen.specs.declared.place.Place.{Place}
use Rattle.ansi_screen.specs.Cells.{cut, change, erased}
use Rattle.ansi_screen.specs.Display.{Display}
use Rattle.ansi_screen.specs.After.{State, after_all}
use Rattle.ansi_screen.specs.Reachable.{HasColors}
use Rattle.ansi_screen.proofs.PairLemmas.{length-cut}
use Rattle.ansi_screen.proofs.LawLemmas.{after_all-append}
use Rattle.screen_draw.specs.Draw.{private_mode, position, select, charsets_calls, place_calls, wrap_calls}
use Rattle.screen_draw.proofs.SelectedLemmas.{after-sets}
use Rattle.screen_draw.proofs.CanvasLemmas.{on, after-place, after-style}

-- a row that is counted from the margin in origin mode
line-is : (t : Bool) (row top bottom : ℕ) → (t ≡ true → (top ≤ row) × (row < bottom))
    → (if t then min (top + (row - (if t then top else 0))) (bottom - 1) else (row - (if t then top else 0))) ≡ row
line-is true row top bottom within = let inside = within refl in omega (arith, inside.0, inside.1)
line-is false row top bottom within = omega arith

-- To a place: the cursor stands where it is wanted, wherever what is printed last leaves it.
pub after-place_calls : (base : Display) (cells : List Cell) (p place : Place) (column : ℕ) (last : Option Cell) (s : State)
    → s.display ≡ on base cells p → (place.is_relative ≡ true → (base.top ≤ place.row) × (place.row < base.bottom))
    → place.row < base.height → column < base.width → HasColors place.style
    → (printed : List Cell)
    → ((middle : State) → middle.display ≡ on base cells (record p { row = place.row; column = column; is_relative = place.is_relative })
    → (style : Style) × ((after_all (wrap_calls last) middle).display ≡ on base printed (record p { row = place.row; column = place.column; is_relative = place.is_relative; style = style })))
    → (after_all (place_calls base.top column last place) s).display ≡ on base printed place
after-place_calls base cells p place column last s is within below inside colored printed prints =
    let line : ℕ = place.row - (if place.is_relative then base.top else 0) in
    let to : List Call = private_mode 6 place.is_relative ∷ position line column ∷ [] in
    let sets : List Call = charsets_calls place.charsets in
    let first : State = after_all to s in
    let second : State = after_all (wrap_calls last) first in
    let third : State = after_all sets second in
    let width : s.display.width ≡ base.width = ap (λ (d : Display). d.width) is in
    let height : s.display.height ≡ base.height = ap (λ (d : Display). d.height) is in
    let top : s.display.top ≡ base.top = ap (λ (d : Display). d.top) is in
    let bottom : s.display.bottom ≡ base.bottom = ap (λ (d : Display). d.bottom) is in
    let at : first.display ≡ on base cells (record p { row = place.row; column = column; is_relative = place.is_relative }) =
    after-place place.is_relative line place.row column s (rw (top, bottom) (line-is place.is_relative place.row base.top base.bottom within)) (rw height below) (rw width inside)
    ∙ ap (λ (d : Display). record d { cursor = record d.cursor { row = place.row; column = column; is_relative = place.is_relative } }) is in
    let (style, wrapped_at) = prints first at in
    ap (λ (e : State). e.display) (after_all-append to (wrap_calls last ++ (sets ++ select place.style ∷ [])) s)
    ∙ (ap (λ (e : State). e.display) (after_all-append (wrap_calls last) (sets ++ select place.style ∷ []) first)
    ∙ (ap (λ (e : State). e.display) (after_all-append sets (select place.style ∷ []) second)
    ∙ (after-style place.style third colored
    ∙ (ap (λ (d : Display). record d { cursor = record d.cursor { style = place.style } })
    (after-sets place.charsets.g0_draws place.charsets.g1_draws place.charsets.uses_g1 second)
    ∙ ap (λ (d : Display). record d { cursor = record d.cursor { charsets = place.charsets; style = place.style } }) wrapped_at))))

-- all cells are erased
pub clear-all : (cells : List Cell) (gap : Cell) → change 0 (length cells) (erased gap) cells ≡ replicate (length cells) gap
clear-all cells gap =
    let n : ℕ = length cells in
    let both : List Cell = cut 0 (cut n cells) in
    let long : length both ≡ n = length-cut 0 (cut n cells) ∙ length-cut n cells in
    let count : n - 0 ≡ n = omega arith in
    let all : take n both ≡ both = take_all n both (omega arith) in
    let none : drop n both ≡ [] = drop_all n both (omega arith) in
    rw (count, all, none, long) (append-nil (replicate n gap))
