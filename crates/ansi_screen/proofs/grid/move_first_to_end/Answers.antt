-- The first one comes into the last place.
use Rattle.std.proofs.Common.{◌≡◌, ℕ, List, suc, ◌+◌, ◌-◌, ◌<◌, ◌++◌, [], ◌∷◌, length, get_or, take, drop, set, ap, sym, ◌∙◌, arith}
use Rattle.std.proofs.lemmas.List.{length-drop, drop_all, take_more}
use Rattle.std.proofs.lemmas.List.Edits.{paste_all}
use Rattle.std.proofs.Math.Seq.{drop-cons, set-append_seam}
use Rattle.ansi_screen.proofs.grid.move_first_to_end.Goals as goal
use Rattle.ansi_screen.proofs.grid.move_first_to_end.Goals.{then-moves_by_lanes, else-moves_by_lanes}

first-last : (order moved : List ℕ) → 0 < length order → moved ≡ drop 1 order ++ drop (length order - 1) order
    → set moved (length order - 1) (get_or order 0 0) ≡ drop 1 order ++ take 1 order
first-last order moved some is =
    let last = length order - 1 in
    let others = drop 1 order in
    let long : length others ≡ last = length-drop 1 order in
    let behind : drop last order ≡ get_or order last 0 ∷ [] =
    drop-cons order last 0 (omega (arith, some)) ∙ ap (λ l. get_or order last 0 ∷ l) (drop_all (suc last) order (omega (arith, some))) in
    ap (λ l. set l last (get_or order 0 0)) (is ∙ ap (λ l. others ++ l) behind)
    ∙ (ap (λ k. set (others ++ (get_or order last 0 ∷ [])) k (get_or order 0 0)) (sym long)
    ∙ (set-append_seam others (get_or order last 0) [] (get_or order 0 0)
    ∙ ap (λ l. others ++ l) (sym (take_more order 0 0 some))))

pub close_up-requires : goal.close_up-requires
close_up-requires c = omega (arith, c.moves_by_lanes.ensures c.if-moves_by_lanes.true)

pub returns : goal.returns
returns c =
    let order = c.args.order.now in
    let last = length order - 1 in
    let others = drop 1 order in
    let same : 0 + last ≡ last = omega arith in
    first-last order c.if-moves_by_lanes.order c.requires (elim c.if-moves_by_lanes.branch [
      | then-moves_by_lanes w ↦ w.order-is ∙ w.close_up.ensures
      | else-moves_by_lanes w ↦
          w.order-is
          ∙ (w.copy_within.ensures.after
          ∙ (paste_all order 0 others last (sym (length-drop 1 order)) ∙ ap (λ k. others ++ drop k order) same))
    ])
