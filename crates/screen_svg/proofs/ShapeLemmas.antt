-- Shapes are written as they are, and are short.
use Rattle.std.proofs.Common.{◌≡◌, ◌≤◌, ℕ, ◌*◌, Bool, true, ◌&&◌, ◌==◌, List, [], ◌∷◌, ◌++◌, codes, length, map, refl, ap, ◌∙◌, arith, append-nil, length-append}
use Rattle.std.specs.Prelude.{nat_le}
use Rattle.std.specs.List.{flat_map, list_all}
use Rattle.std.proofs.lemmas.Bool.{and_parts, leb-true}
use Rattle.std.proofs.lemmas.Grind.{flat_map-append}
use Rattle.std.proofs.lemmas.List.{map-append}
use Rattle.anstyle_parse.specs.Stream.Bytes.{is_within}
use Rattle.ansi_html.proofs.ColorLemmas.{choose}
use Rattle.ansi_html.proofs.DeclarationLemmas.{is_safe, AreSafe, AreSafe-append}
use Rattle.ansi_screen.specs.declared.cell.Cell.{Cell}
use Rattle.screen_svg.specs.Runs.{Run, run_cells}
use Rattle.screen_svg.specs.Shapes.{found, in_250, in_251, in_252, in_253, in_254, in_255, in_256, in_257, in_258, in_259, shape_of}
use Rattle.screen_svg.specs.Picture.{pair, shapes_text, shape_place}
use Rattle.screen_svg.proofs.SafeLemmas.{AreSafe-pair}

-- what a shape is: safe bytes, and few
abbrev is_fine : List ℕ → Bool
is_fine shape = list_all is_safe shape && nat_le (length shape) 140

abbrev IsFine : List ℕ → Type 0
IsFine shape = is_fine shape ≡ true

fine-found : (n : ℕ) (table : List (ℕ × List ℕ)) → list_all (λ (it : ℕ × List ℕ). is_fine it.1) table ≡ true → IsFine (found n table)
unfolding is_safe
fine-found n [] are = refl
fine-found n (it ∷ others) are =
    let parts = and_parts (is_fine it.1) (list_all (λ (it : ℕ × List ℕ). is_fine it.1) others) are in
    choose IsFine (n == it.0) it.1 (found n others) parts.0 (fine-found n others parts.1)

fine-shape : (c : ℕ) → IsFine (shape_of c)
unfolding is_safe shape_of
fine-shape c =
    choose IsFine (is_within 0x2500 0x250F c) _ _ (fine-found c in_250 refl)
    (choose IsFine (is_within 0x2510 0x251F c) _ _ (fine-found c in_251 refl)
    (choose IsFine (is_within 0x2520 0x252F c) _ _ (fine-found c in_252 refl)
    (choose IsFine (is_within 0x2530 0x253F c) _ _ (fine-found c in_253 refl)
    (choose IsFine (is_within 0x2540 0x254F c) _ _ (fine-found c in_254 refl)
    (choose IsFine (is_within 0x2550 0x255F c) _ _ (fine-found c in_255 refl)
    (choose IsFine (is_within 0x2560 0x256F c) _ _ (fine-found c in_256 refl)
    (choose IsFine (is_within 0x2570 0x257F c) _ _ (fine-found c in_257 refl)
    (choose IsFine (is_within 0x2580 0x258F c) _ _ (fine-found c in_258 refl)
    (choose IsFine (is_within 0x2590 0x259F c) _ _ (fine-found c in_259 refl) refl)))))))))

pub AreSafe-shape : (c : ℕ) → AreSafe (shape_of c)
AreSafe-shape c = (and_parts (list_all is_safe (shape_of c)) (nat_le (length (shape_of c)) 140) (fine-shape c)).0

shape-few : (c : ℕ) → length (shape_of c) ≤ 140
shape-few c = leb-true (length (shape_of c)) 140 (and_parts (list_all is_safe (shape_of c)) (nat_le (length (shape_of c)) 140) (fine-shape c)).1

-- those of cells
pub shapes-more : (cells : List Cell) (cell : Cell) → shapes_text (cells ++ cell ∷ []) ≡ shapes_text cells ++ shape_of cell.character
shapes-more cells cell =
    ap (λ (l : List ℕ). flat_map shape_of l) (map-append (λ (it : Cell). it.character) cells (cell ∷ []))
    ∙ flat_map-append shape_of (map (λ (it : Cell). it.character) cells) (cell.character ∷ [])
    ∙ ap (λ (l : List ℕ). shapes_text cells ++ l) (append-nil (shape_of cell.character))

AreSafe-shapes : (cells : List Cell) → AreSafe (shapes_text cells)
AreSafe-shapes [] = refl
AreSafe-shapes (cell ∷ cells) = AreSafe-append (shape_of cell.character) (shapes_text cells) (AreSafe-shape cell.character) (AreSafe-shapes cells)

pub shapes-few : (cells : List Cell) → length (shapes_text cells) ≤ 140 * length cells
shapes-few [] = omega arith
shapes-few (cell ∷ cells) =
    let more = shapes-few cells in
    omega (arith, more, length-append (shape_of cell.character) (shapes_text cells), shape-few cell.character)

-- with the place where they begin
pub AreSafe-place : (row : ℕ) (run : Run) → AreSafe (shape_place row run)
unfolding is_safe
AreSafe-place row run =
    let place = pair (10 * run.column) (20 * row) in
    AreSafe-append (codes "M") (place ++ shapes_text (run_cells run)) refl
    (AreSafe-append place (shapes_text (run_cells run)) (AreSafe-pair (10 * run.column) (20 * row)) (AreSafe-shapes (run_cells run)))
