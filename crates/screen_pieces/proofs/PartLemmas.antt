-- A part of the cells more is written to its place in the room.
use Rattle.std.proofs.Common.{◌≡◌, ℕ, ◌+◌, ◌≤◌, List, ◌++◌, length, take, drop, map, sym, ap, ◌∙◌, subst, arith}
use Rattle.std.proofs.lemmas.List.{map-append, length-take-le, length-drop, take_all}
use Rattle.std.proofs.lemmas.List.Elements.{All-append}
use Rattle.std.proofs.lemmas.Slice.{take-put_mid, drop-put_mid}
use Rattle.std.proofs.Math.Seq.{take-add}
use borrow.Rule.Slice.PartMut.{put_mid}
use Rattle.ansi_screen.specs.declared.cell.Cell.{Cell}
use Rattle.screen_pieces.specs.declared.cell.CellBytes.{CellBytes}
use Rattle.std.specs.List.{All}
use Rattle.screen_pieces.specs.Cells.{cell_in, KeepsForLater}

module _ (n m end : ℕ) (room part : List CellBytes) (cells : List Cell)
    (ends : end ≡ n + m) (fits : end ≤ length cells) (inside : end ≤ length room)
    (same : length part ≡ length (take m (drop n room)))
  where
    long : length part ≡ m
    long = same ∙ length-take-le m (drop n room) (omega (arith, length-drop n room, ends, inside))

    pub written-more : map cell_in (take n room) ≡ take n cells
        → map cell_in (take (length (take m (drop n cells))) part) ≡ take m (drop n cells)
        → map cell_in (take end (put_mid n m room part)) ≡ take end cells
    written-more before now =
        let count : length (take m (drop n cells)) ≡ m = length-take-le m (drop n cells) (omega (arith, length-drop n cells, ends, fits)) in
        let whole : map cell_in part ≡ take m (drop n cells) =
        ap (map cell_in) (sym (take_all (length (take m (drop n cells))) part (omega (arith, count, long)))) ∙ now in
        ap (map cell_in) (take-put_mid n m room part end (omega (arith, ends, long)) (omega (arith, ends, inside)))
        ∙ map-append cell_in (take n room) part
        ∙ ap (λ xs. xs ++ map cell_in part) before
        ∙ ap (λ xs. take n cells ++ xs) whole
        ∙ sym (take-add n m cells)
        ∙ ap (λ e. take e cells) (sym ends)

    -- and of these too what is kept for later is 0
    pub reserved-more : All KeepsForLater (take n room) → All KeepsForLater (take (length (take m (drop n cells))) part)
        → All KeepsForLater (take end (put_mid n m room part))
    reserved-more before now =
        let count : length (take m (drop n cells)) ≡ m = length-take-le m (drop n cells) (omega (arith, length-drop n cells, ends, fits)) in
        let whole : All KeepsForLater part =
        subst (λ (l : List CellBytes). All KeepsForLater l) (take_all (length (take m (drop n cells))) part (omega (arith, count, long))) now in
        subst (λ (l : List CellBytes). All KeepsForLater l) (sym (take-put_mid n m room part end (omega (arith, ends, long)) (omega (arith, ends, inside))))
        (All-append KeepsForLater (take n room) part before whole)

    pub rest-same : (past : ℕ) → end ≤ past → drop past (put_mid n m room part) ≡ drop past room
    rest-same past behind = drop-put_mid n m room part past (omega (arith, ends, behind)) (omega (arith, ends, inside)) long
