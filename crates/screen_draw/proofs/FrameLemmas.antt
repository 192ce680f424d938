-- What screens that are compared have in common.
use Rattle.std.proofs.Common.{◌≡◌, ℕ, zero, suc, ◌-◌, Bool, true, false, List, [], ◌∷◌, length, set, refl, ap, sym, ◌∙◌}
use Rattle.std.specs.Prelude.{◌&&◌, ◌||◌, not, ◌==◌, map, replicate, if◌then◌else◌}
use Rattle.std.proofs.lemmas.Bool.{and_parts, eqb-true}
use Rattle.std.proofs.Math.Seq.{set-get_or}
use Rattle.ansi_style.specs.Style.{plain}
use Rattle.ansi_screen.specs.declared.cell.Cell.{Cell}
use Rattle.ansi_screen.specs.Cells.{blank, cell_at}
use Rattle.ansi_screen.specs.Display.{Display, row_end}
use Rattle.ansi_screen.specs.Print.{draws}
use Rattle.ansi_screen.specs.Reachable.{HasContents}
use Rattle.screen_draw.specs.Draw.{is_erased}
use Rattle.screen_draw.specs.Redrawn.{as_printed, as_drawn, drawn_cells}
use Rattle.screen_draw.specs.Alike.{are_alike, all_two, has_same_frame, has_same_margins, is_plain, lacks_print, is_steady}
use Rattle.screen_draw.proofs.AlikeLemmas.{flag-same, all-drawn, all-stops, sets-same, places-same}
use Rattle.screen_draw.proofs.CellsLemmas.{not-true}
use Rattle.screen_draw.proofs.PaintLemmas.{drawn-printed}
use Rattle.screen_draw.proofs.RestLemmas.{drawn-blank}

pub record Frame (a b : Display) : Type 0 where
  pub alternate : a.is_alternate ≡ b.is_alternate
  pub covered : a.is_alternate ≡ true → map as_drawn a.hidden ≡ map as_drawn b.hidden
  pub saved : a.saved ≡ b.saved
  pub hidden_saved : a.hidden_saved ≡ b.hidden_saved
  pub tabs : a.tabs ≡ b.tabs

if-so : (t u : Bool) → (not t || u) ≡ true → t ≡ true → u ≡ true
if-so true u both is = both
if-so false u both is = cc is

pub same-frame : (a b : Display) → has_same_frame a b ≡ true → Frame a b
unfolding has_same_frame
same-frame a b h =
    let h0 = and_parts _ _ h in
    let h1 = and_parts _ _ h0.1 in
    let h2 = and_parts _ _ h1.1 in
    let h3 = and_parts _ _ h2.1 in
    record {
      alternate = flag-same a.is_alternate b.is_alternate h0.0;
      covered = λ is. all-drawn a.hidden b.hidden (if-so a.is_alternate (all_two are_alike a.hidden b.hidden) h1.0 is);
      saved = places-same a.saved b.saved h2.0;
      hidden_saved = places-same a.hidden_saved b.hidden_saved h3.0;
      tabs = all-stops a.tabs b.tabs h3.1;
    }

pub same-margins : (a b : Display) → has_same_margins a b ≡ true → (a.top ≡ b.top) × (a.bottom ≡ b.bottom)
same-margins a b h =
    let h0 = and_parts (a.top == b.top) (a.bottom == b.bottom) h in
    (eqb-true a.top b.top h0.0, eqb-true a.bottom b.bottom h0.1)

hidden_at : (a b : Display) (t : Bool) → a.is_alternate ≡ t → Frame a b → length a.hidden ≡ length b.hidden → HasContents a → HasContents b → map as_drawn a.hidden ≡ map as_drawn b.hidden
hidden_at a b true is frame long has gets = frame.covered is
hidden_at a b false is frame long has gets =
    let first = has.main is in
    let second = gets.main (sym frame.alternate ∙ is) in
    ap (map as_drawn) (first.0 ∙ (ap (λ n. replicate n (blank plain)) long ∙ sym second.0))

pub same-hidden : (a b : Display) → Frame a b → length a.hidden ≡ length b.hidden → HasContents a → HasContents b → map as_drawn a.hidden ≡ map as_drawn b.hidden
same-hidden a b frame long has gets = hidden_at a b _ refl frame long has gets

-- of a steady change
pub record Steady (a b : Display) : Type 0 where
  pub absolute : a.cursor.is_relative ≡ false
  pub replaces : a.inserts ≡ false
  pub letter : draws a.cursor.charsets ≡ false
  pub to_absolute : b.cursor.is_relative ≡ false
  pub to_replaces : b.inserts ≡ false
  pub prints : lacks_print a ≡ false
  pub sets : a.cursor.charsets ≡ b.cursor.charsets
  pub frame : Frame a b

plainly : (d : Display) → is_plain d ≡ true → (d.cursor.is_relative ≡ false) × (d.inserts ≡ false) × (draws d.cursor.charsets ≡ false)
unfolding is_plain
plainly d h =
    let h0 = and_parts (not d.cursor.is_relative) (not d.inserts && not (draws d.cursor.charsets)) h in
    let h1 = and_parts (not d.inserts) (not (draws d.cursor.charsets)) h0.1 in
    (not-true d.cursor.is_relative h0.0, not-true d.inserts h1.0, not-true (draws d.cursor.charsets) h1.1)

pub steady-is : (a b : Display) → is_steady a b ≡ true → Steady a b
unfolding is_steady
steady-is a b h =
    let h0 = and_parts _ _ h in
    let h1 = and_parts _ _ h0.1 in
    let h2 = and_parts _ _ h1.1 in
    let h3 = and_parts _ _ h2.1 in
    let (absolute, replaces, letter) = plainly a h0.0 in
    let (to_absolute, to_replaces, to_letter) = plainly b h1.0 in
    record {
      absolute = absolute;
      replaces = replaces;
      letter = letter;
      to_absolute = to_absolute;
      to_replaces = to_replaces;
      prints = not-true (lacks_print a) h2.0;
      sets = sets-same a.cursor.charsets b.cursor.charsets h3.0;
      frame = same-frame a b h3.1;
    }

-- cells that are drawn, at a place
pub drawn-at : (n : ℕ) (xs : List Cell) → cell_at n (map as_drawn xs) ≡ as_drawn (cell_at n xs)
drawn-at n [] = sym drawn-blank
drawn-at zero (x ∷ xs) = refl
drawn-at (suc n) (x ∷ xs) = drawn-at n xs

-- where the last cell is printed, a wrap that is pending leaves no other
printed_at : (cells : List Cell) (n : ℕ) (t u : Bool) → is_erased (cell_at n cells) ≡ u → (t && u) ≡ false
    → (if t then set (map as_drawn cells) n (as_printed (cell_at n cells)) else map as_drawn cells) ≡ map as_drawn cells
printed_at cells n false u erased prints = refl
printed_at cells n true true erased prints = cc prints
printed_at cells n true false erased prints =
    ap (λ x. set (map as_drawn cells) n x) (sym (drawn-printed (cell_at n cells) erased) ∙ sym (drawn-at n cells)) ∙ set-get_or (map as_drawn cells) n (blank plain)

pub printed-last : (d : Display) → lacks_print d ≡ false → drawn_cells d ≡ map as_drawn d.cells
unfolding lacks_print
printed-last d prints = printed_at d.cells (row_end d - 1) (d.cursor.column == d.width) _ refl prints
