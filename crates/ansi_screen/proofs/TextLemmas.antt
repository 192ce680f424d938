-- The text of rows, cell by cell and row by row.
use Rattle.std.proofs.Common.{◌≡◌, ℕ, zero, suc, ◌+◌, ◌-◌, ◌<◌, ◌≤◌, Bool, true, false, List, [], ◌∷◌, ◌++◌, length, get_or, take, drop, set, refl, ap, ap₂, sym, ◌∙◌, subst, arith, add-one}
use Rattle.std.specs.Prelude.{◌==◌, encode_utf8}
use Rattle.std.specs.List.{flat_map}
use Rattle.std.proofs.lemmas.Bool.{ne_eqb}
use Rattle.std.proofs.lemmas.Grind.{flat_map-append}
use Rattle.std.proofs.Math.Seq.{take-append-add}
use Rattle.std.proofs.lemmas.List.{take_more, length-take-le, length-append, length-drop, nil_from_length, flat_map_more, append_assoc, append-nil}
use borrow.Rule.Slice.PartMut.{put_mid}
use Rattle.anstyle_parse.specs.declared.io.devices.Sink.{Ghosts as SinkOf}
use Rattle.anstyle_parse.specs.declared.io.output.Output.{Output}
use Rattle.anstyle_parse.specs.Io.Output.{Adds}
use Rattle.anstyle_parse.proofs.Written.Output.{Adds-append, Adds-append3}
use Rattle.ansi_screen.specs.declared.cell.Cell.{Cell}
use Rattle.ansi_screen.specs.declared.cell.Marks.{Marks}
use Rattle.ansi_screen.specs.declared.cell.Marks.TheVariants.{Unmarked, One, Two}
use Rattle.ansi_style.specs.Style.{plain}
use Rattle.ansi_screen.specs.declared.text.LeftOut.{LeftOut}
use Rattle.ansi_screen.specs.declared.text.LeftOut.TheVariants.{Blanks, Unprinted}
use Rattle.ansi_screen.specs.Cells.{blank, is_right}
use Rattle.ansi_screen.specs.Grid.{IsBlankFrom}
use Rattle.ansi_screen.specs.Display.{Display, row_cells}
use Rattle.ansi_screen.specs.Text.{is_blank, is_unprinted, left_out, used, marks_text, is_unmarked, cell_text, row_text, rows_text}

-- one cell more, which is left out at the end, or is not
module _ (is_left_out : Cell → Bool) where
  used-push_blank : (cells : List Cell) (cell : Cell) → is_left_out cell ≡ true → used is_left_out (cells ++ cell ∷ []) ≡ used is_left_out cells
  used-push_blank [] cell blank = rw blank refl
  used-push_blank (first ∷ cells) cell blank = rw (used-push_blank cells cell blank) refl

  used-push_other : (cells : List Cell) (cell : Cell) → is_left_out cell ≡ false → used is_left_out (cells ++ cell ∷ []) ≡ suc (length cells)
  used-push_other [] cell other = rw other refl
  used-push_other (first ∷ cells) cell other =
      let some : (suc (length cells) == 0) ≡ false = ne_eqb (suc (length cells)) 0 (λ e. omega arith) in
      rw (used-push_other cells cell other) (simp some)

  pub used-more_blank : (cells : List Cell) (i : ℕ) (d : Cell) → i < length cells → is_left_out (get_or cells i d) ≡ true
      → used is_left_out (take (i + 1) cells) ≡ used is_left_out (take i cells)
  used-more_blank cells i d inside blank = rw (take_more cells i d inside) (used-push_blank (take i cells) (get_or cells i d) blank)

  pub used-more_other : (cells : List Cell) (i : ℕ) (d : Cell) → i < length cells → is_left_out (get_or cells i d) ≡ false
      → used is_left_out (take (i + 1) cells) ≡ i + 1
  used-more_other cells i d inside other =
      let front : length (take i cells) ≡ i = length-take-le i cells (omega arith) in
      rw (take_more cells i d inside) (used-push_other (take i cells) (get_or cells i d) other ∙ (ap suc front ∙ sym (add-one i)))

  -- from the end: one cell less, or no less
  pub used-less : (cells : List Cell) (n : ℕ) (d : Cell) → 0 < n → n ≤ length cells → used is_left_out (take n cells) ≡ used is_left_out cells
      → is_left_out (get_or cells (n - 1) d) ≡ true → used is_left_out (take (n - 1) cells) ≡ used is_left_out cells
  used-less cells n d some inside same blank =
      let back : n - 1 + 1 ≡ n = omega arith in
      sym (used-more_blank cells (n - 1) d (omega arith) blank) ∙ (ap (λ k. used is_left_out (take k cells)) back ∙ same)

  -- four cells less
  pub used-four : (cells : List Cell) (n : ℕ) (d : Cell) → 4 ≤ n → n ≤ length cells → used is_left_out (take n cells) ≡ used is_left_out cells
      → is_left_out (get_or cells (n - 1) d) ≡ true → is_left_out (get_or cells (n - 2) d) ≡ true
      → is_left_out (get_or cells (n - 3) d) ≡ true → is_left_out (get_or cells (n - 4) d) ≡ true
      → used is_left_out (take (n - 4) cells) ≡ used is_left_out cells
  used-four cells n d some inside same first second third fourth =
      let second_at : n - 1 - 1 ≡ n - 2 = omega arith in
      let third_at : n - 2 - 1 ≡ n - 3 = omega arith in
      let fourth_at : n - 3 - 1 ≡ n - 4 = omega arith in
      let up_to : ℕ → ℕ = λ k. used is_left_out (take k cells) in
      let one : used is_left_out (take (n - 1) cells) ≡ used is_left_out cells = used-less cells n d (omega arith) inside same first in
      let two : used is_left_out (take (n - 2) cells) ≡ used is_left_out cells =
      ap up_to (sym second_at)
      ∙ used-less cells (n - 1) d (omega arith) (omega arith) one (ap (λ k. is_left_out (get_or cells k d)) second_at ∙ second) in
      let three : used is_left_out (take (n - 3) cells) ≡ used is_left_out cells =
      ap up_to (sym third_at)
      ∙ used-less cells (n - 2) d (omega arith) (omega arith) two (ap (λ k. is_left_out (get_or cells k d)) third_at ∙ third) in
      ap up_to (sym fourth_at)
      ∙ used-less cells (n - 3) d (omega arith) (omega arith) three (ap (λ k. is_left_out (get_or cells k d)) fourth_at ∙ fourth)

  pub used-end : (cells : List Cell) (n : ℕ) (d : Cell) → 0 < n → n ≤ length cells → used is_left_out (take n cells) ≡ used is_left_out cells
      → is_left_out (get_or cells (n - 1) d) ≡ false → n ≡ used is_left_out cells
  used-end cells n d some inside same other =
      let back : n - 1 + 1 ≡ n = omega arith in
      sym back ∙ (sym (used-more_other cells (n - 1) d (omega arith) other) ∙ (ap (λ k. used is_left_out (take k cells)) back ∙ same))

  -- where what is left out is all that stands there, or stands after so many cells
  used-none : (cells : List Cell) → is_left_out (blank plain) ≡ true → IsBlankFrom 0 cells → used is_left_out cells ≡ 0
  used-none [] out is = refl
  used-none (cell ∷ cells) out is =
      let rest = used-none cells out (λ place _. is (suc place) (omega arith)) in
      let first : is_left_out cell ≡ true = ap is_left_out (is 0 (omega arith)) ∙ out in
      rw (rest, first) refl

  pub used-rest : (cells : List Cell) (n : ℕ) → is_left_out (blank plain) ≡ true → IsBlankFrom n cells
      → used is_left_out (take n cells) ≡ used is_left_out cells
  used-rest cells zero out is = sym (used-none cells out is)
  used-rest [] (suc n) out is = refl
  used-rest (cell ∷ cells) (suc n) out is =
      rw (used-rest cells n out (λ place less. is (suc place) (omega (arith, less)))) refl

-- A plain blank is left out, in whichever way.
pub left_out-blank : (ends : LeftOut) → left_out ends (blank plain) ≡ true
unfolding is_blank is_unprinted
left_out-blank Blanks = refl
left_out-blank Unprinted = refl

module _ {W : Type 0} (sink : SinkOf W) where
  -- some cells more are written
  pub Adds-cells : (passed run : List Cell) (text : List ℕ) (a b c : Output W) → Adds sink (flat_map cell_text passed) a b
      → Adds sink text b c → text ≡ flat_map cell_text run → Adds sink (flat_map cell_text (passed ++ run)) a c
  Adds-cells passed run text a b c first second is =
      subst (λ t. Adds sink t a c) (ap (λ t. flat_map cell_text passed ++ t) is ∙ sym (flat_map-append cell_text passed run))
      (Adds-append sink (flat_map cell_text passed) text a b c first second)

  -- one cell more is written
  pub Adds-cell : (run : List Cell) (i : ℕ) (d : Cell) (a b c : Output W) → i < length run
      → Adds sink (flat_map cell_text (take i run)) a b → Adds sink (cell_text (get_or run i d)) b c
      → Adds sink (flat_map cell_text (take (i + 1) run)) a c
  Adds-cell run i d a b c inside first second =
      subst (λ t. Adds sink t a c)
      (flat_map_more cell_text [] (take i run) (get_or run i d) ∙ ap (λ l. flat_map cell_text l) (sym (take_more run i d inside)))
      (Adds-append sink (flat_map cell_text (take i run)) (cell_text (get_or run i d)) a b c first second)

  -- one row more is written, and a line feed
  pub Adds-row : (d : Display) (row : ℕ) (cells : List Cell) (a b c e : Output W) → cells ≡ row_cells row d
      → Adds sink (rows_text row d) a b → Adds sink (row_text cells) b c
      → Adds sink (0x0A ∷ []) c e → Adds sink (rows_text (row + 1) d) a e
  Adds-row d row cells a b c e same first second third =
      let whole : (rows_text row d ++ row_text cells) ++ 0x0A ∷ [] ≡ rows_text (suc row) d =
      ap (λ (l : List Cell). (rows_text row d ++ row_text l) ++ 0x0A ∷ []) same ∙ append_assoc (rows_text row d) (row_text (row_cells row d)) (0x0A ∷ []) in
      subst (λ t. Adds sink t a e) (whole ∙ ap (λ n. rows_text n d) (sym (add-one row)))
      (Adds-append3 sink (rows_text row d) (row_text cells) (0x0A ∷ []) a b c e first second third)

-- one cell more, as bytes
pub text-more : (cells : List Cell) (i : ℕ) (d : Cell) (bytes more : List ℕ) → i < length cells → bytes ≡ flat_map cell_text (take i cells)
    → more ≡ cell_text (get_or cells i d) → bytes ++ more ≡ flat_map cell_text (take (i + 1) cells)
text-more cells i d bytes more inside is one =
    ap₂ (λ x y. x ++ y) is one
    ∙ (flat_map_more cell_text [] (take i cells) (get_or cells i d) ∙ ap (λ l. flat_map cell_text l) (sym (take_more cells i d inside)))

-- A block of bytes after some are written to what comes after its first ones.
module _ (size filled : ℕ) (block bytes : List ℕ) (long : length block ≡ size) (inside : filled ≤ size) where
  written : put_mid filled (size - filled) block bytes ≡ take filled block ++ bytes
  written =
      let none = nil_from_length (drop (size - filled) (drop filled block))
      (omega (arith, long, length-drop (size - filled) (drop filled block), length-drop filled block)) in
      ap (λ l. take filled block ++ (bytes ++ l)) none ∙ ap (λ l. take filled block ++ l) (append-nil bytes)

  front-long : length (take filled block) ≡ filled
  front-long = length-take-le filled block (omega (arith, long, inside))

  pub length-filled : length bytes ≡ size - filled → length (put_mid filled (size - filled) block bytes) ≡ size
  length-filled rest = ap length written ∙ omega (arith, length-append (take filled block) bytes, front-long, rest, inside)

  pub filled-more : (n : ℕ) → take (filled + n) (put_mid filled (size - filled) block bytes) ≡ take filled block ++ take n bytes
  filled-more n =
      ap (take (filled + n)) written
      ∙ (ap (λ k. take (k + n) (take filled block ++ bytes)) (sym front-long) ∙ take-append-add (take filled block) bytes n)

-- a cell without marks
pub unmarked-right : (cell : Cell) → is_right cell.part ≡ true → cell_text cell ≡ []
unfolding cell_text
unmarked-right cell is = rw is refl

no-marks : (marks : Marks) → is_unmarked marks ≡ true → marks_text marks ≡ []
no-marks Unmarked is = refl
no-marks (One first) is = cc
no-marks (Two first second) is = cc

pub unmarked-other : (cell : Cell) → is_right cell.part ≡ false → is_unmarked cell.marks ≡ true → cell_text cell ≡ encode_utf8 cell.character
unfolding cell_text
unmarked-other cell is none = rw (is, no-marks cell.marks none) (append-nil (encode_utf8 cell.character))

-- the front of a list after some are set there
pub set-one : (l : List ℕ) (a : ℕ) → 1 ≤ length l → take 1 (set l 0 a) ≡ a ∷ []
set-one [] a inside = absurd (omega (arith, inside))
set-one (x ∷ l) a inside = refl

pub set-two : (l : List ℕ) (a b : ℕ) → 2 ≤ length l → take 2 (set (set l 0 a) 1 b) ≡ a ∷ b ∷ []
set-two [] a b inside = absurd (omega (arith, inside))
set-two (x ∷ l) a b inside = ap (λ t. a ∷ t) (set-one l b (omega (arith, inside)))

pub set-three : (l : List ℕ) (a b d : ℕ) → 3 ≤ length l → take 3 (set (set (set l 0 a) 1 b) 2 d) ≡ a ∷ b ∷ d ∷ []
set-three [] a b d inside = absurd (omega (arith, inside))
set-three (x ∷ l) a b d inside = ap (λ t. a ∷ t) (set-two l b d (omega (arith, inside)))

pub set-four : (l : List ℕ) (a b d e : ℕ) → 4 ≤ length l → take 4 (set (set (set (set l 0 a) 1 b) 2 d) 3 e) ≡ a ∷ b ∷ d ∷ e ∷ []
set-four [] a b d e inside = absurd (omega (arith, inside))
set-four (x ∷ l) a b d e inside = ap (λ t. a ∷ t) (set-three l b d e (omega (arith, inside)))
