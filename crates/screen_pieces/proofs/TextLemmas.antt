-- Texts that are put one after another.
use Rattle.std.proofs.Common.{◌≡◌, ◌+◌, ℕ, suc, List, [], ◌∷◌, ◌++◌, sym, ap, ◌∙◌, subst, append_assoc, add-one}
use Rattle.std.specs.List.{flat_map}
use Rattle.std.proofs.lemmas.Grind.{flat_map-append}
use Rattle.screen_pieces.specs.declared.text.TextWriter.{TextWriter}
use Rattle.ansi_screen.specs.declared.cell.Cell.{Cell}
use Rattle.ansi_screen.specs.Display.{Display, row_cells}
use Rattle.ansi_screen.specs.Text.{cell_text, row_text, rows_text}
use Rattle.screen_pieces.specs.Text.{Puts}
pub use Rattle.screen_pieces.specs.PuttingProof.{Puts-nil, Puts-append, with_text-length}

-- some cells more
pub Puts-cells : (passed run : List Cell) (text : List ℕ) (a b c : TextWriter) → Puts (flat_map cell_text passed) a b → Puts text b c
    → text ≡ flat_map cell_text run → Puts (flat_map cell_text (passed ++ run)) a c
Puts-cells passed run text a b c first second is =
    subst (λ t. Puts t a c) (ap (λ t. flat_map cell_text passed ++ t) is ∙ sym (flat_map-append cell_text passed run))
    (Puts-append (flat_map cell_text passed) text a b c first second)

-- a row more, and a line feed
pub Puts-row : (d : Display) (row : ℕ) (cells : List Cell) (a b c e : TextWriter) → cells ≡ row_cells row d
    → Puts (rows_text row d) a b → Puts (row_text cells) b c → Puts (0x0A ∷ []) c e → Puts (rows_text (row + 1) d) a e
Puts-row d row cells a b c e same first second third =
    let whole : (rows_text row d ++ row_text cells) ++ 0x0A ∷ [] ≡ rows_text (suc row) d =
    ap (λ (l : List Cell). (rows_text row d ++ row_text l) ++ 0x0A ∷ []) same ∙ append_assoc (rows_text row d) (row_text (row_cells row d)) (0x0A ∷ []) in
    subst (λ t. Puts t a e) (whole ∙ ap (λ n. rows_text n d) (sym (add-one row)))
    (Puts-append (rows_text row d ++ row_text cells) (0x0A ∷ []) a c e (Puts-append (rows_text row d) (row_text cells) a b c first second) third)
