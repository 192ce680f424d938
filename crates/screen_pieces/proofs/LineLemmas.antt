-- Rows that are put one after another are their lines.
use Rattle.std.proofs.Common.{◌≡◌, ◌≤◌, ℕ, Bool, List, [], ◌∷◌, ◌++◌, length, take, ap, ◌∙◌, sym, subst}
use Rattle.std.specs.Prelude.{if◌then◌else◌}
use Rattle.std.specs.List.{flat_map}
use Rattle.std.proofs.lemmas.List.{get_or_past}
use Rattle.ansi_style.specs.Style.{plain}
use Rattle.ansi_screen.specs.declared.cell.Cell.{Cell}
use Rattle.ansi_screen.specs.Cells.{blank}
use Rattle.ansi_screen.specs.Grid.{IsBlankFrom}
use Rattle.ansi_screen.specs.Leaving.{TakesRows}
use Rattle.ansi_screen.specs.Text.{cell_text, used, is_unprinted, goes_on}
use Rattle.screen_text.specs.Lines.{row_text, rows_text, open_after, closing}
use Rattle.screen_pieces.specs.declared.text.TextWriter.{TextWriter}
use Rattle.screen_pieces.specs.Lines.{PutsRow}
use Rattle.screen_pieces.specs.Text.{Puts}
use Rattle.screen_pieces.specs.PuttingProof.{Puts-nil, Puts-append}

-- past its end a row has nothing that was written
pub blank-past : (cells : List Cell) → IsBlankFrom (length cells) cells
blank-past cells place past = get_or_past cells place (blank plain) past

-- a row's cells, and what ends it
pub puts-row : (row : List Cell) (count : ℕ) (on : Bool) (a b c : TextWriter) → count ≡ used is_unprinted row → goes_on row ≡ on
    → Puts (flat_map cell_text (take count row)) a b → Puts (if on then [] else 0x0A ∷ []) b c → Puts (row_text row) a c
puts-row row count on a b c same is first second =
    let cells = flat_map cell_text (take (used is_unprinted row) row) in
    subst (λ (o : Bool). Puts (cells ++ (if o then [] else 0x0A ∷ [])) a c) (sym is)
    (Puts-append cells (if on then [] else 0x0A ∷ []) a b c (subst (λ k. Puts (flat_map cell_text (take k row)) a b) same first) second)

-- and whether a line is open then
pub puts-open : (row : List Cell) (a b : TextWriter) (on : Bool) → Puts (row_text row) a b → on ≡ goes_on row → PutsRow a row (record b { is_open = on })
puts-open row a b on put is = record {
  text = record { same_reference = put.same_reference; same_length = put.same_length; counted = put.counted; bytes = put.bytes };
  is_open = is;
}

takes-text : (rows : List (List Cell)) (a b : TextWriter) → TakesRows PutsRow a rows b → Puts (rows_text rows) a b
takes-text [] a b same = subst (λ (x : TextWriter). Puts [] a x) (sym same) (Puts-nil a)
takes-text (row ∷ rows) a b (middle, first, others) =
    Puts-append (row_text row) (rows_text rows) a middle b first.text (takes-text rows middle b others)

takes-open : (rows : List (List Cell)) (a b : TextWriter) → TakesRows PutsRow a rows b → b.is_open ≡ open_after a.is_open rows
takes-open [] a b same = ap (λ (x : TextWriter). x.is_open) same
takes-open (row ∷ rows) a b (middle, first, others) = takes-open rows middle b others ∙ ap (λ on. open_after on rows) first.is_open

-- from where a line is open or not, with the end of the last one
pub puts-lines : (rows : List (List Cell)) (on : Bool) (a b c : TextWriter) → a.is_open ≡ on → TakesRows PutsRow a rows b
    → Puts (closing b.is_open) b c → Puts (rows_text rows ++ closing (open_after on rows)) a c
puts-lines rows on a b c begins taken ended =
    Puts-append (rows_text rows) (closing (open_after on rows)) a b c (takes-text rows a b taken)
    (subst (λ o. Puts (closing o) b c) (takes-open rows a b taken ∙ ap (λ o. open_after o rows) begins) ended)
