-- The last one comes into the first place.
use Rattle.std.proofs.Common.{◌≡◌, ℕ, List, suc, ◌+◌, ◌-◌, ◌<◌, ◌++◌, [], ◌∷◌, length, get_or, take, drop, set, ap, sym, ◌∙◌, arith}
use Rattle.std.proofs.lemmas.List.{drop_all, take_more, append-nil}
use Rattle.std.proofs.Math.Seq.{drop-cons}
use Rattle.ansi_screen.proofs.grid.move_last_to_front.Goals as goal
use Rattle.ansi_screen.proofs.grid.move_last_to_front.Goals.{then-moves_by_lanes, else-moves_by_lanes}

last-first : (order moved : List ℕ) → 0 < length order → moved ≡ take 1 order ++ take (length order - 1) order
    → set moved 0 (get_or order (length order - 1) 0) ≡ drop (length order - 1) order ++ take (length order - 1) order
last-first order moved some is =
    let last = length order - 1 in
    let front : moved ≡ get_or order 0 0 ∷ take last order = is ∙ ap (λ l. l ++ take last order) (take_more order 0 0 some) in
    let behind : drop last order ≡ get_or order last 0 ∷ [] =
    drop-cons order last 0 (omega (arith, some)) ∙ ap (λ l. get_or order last 0 ∷ l) (drop_all (suc last) order (omega (arith, some))) in
    ap (λ l. set l 0 (get_or order last 0)) front ∙ ap (λ l. l ++ take last order) (sym behind)

pub make_room-requires : goal.make_room-requires
make_room-requires c = omega (arith, c.moves_by_lanes.ensures c.if-moves_by_lanes.true)

pub returns : goal.returns
returns c =
    let order = c.args.order.now in
    let last = length order - 1 in
    let all : last - 0 ≡ last = omega arith in
    last-first order c.if-moves_by_lanes.order c.requires (elim c.if-moves_by_lanes.branch [
      | then-moves_by_lanes w ↦ w.order-is ∙ w.make_room.ensures
      | else-moves_by_lanes w ↦
          w.order-is
          ∙ (w.copy_within.ensures.after
          ∙ (ap (λ n. take 1 order ++ take n order ++ drop (1 + n) order) all
          ∙ (ap (λ l. take 1 order ++ take last order ++ l) (drop_all (1 + last) order (omega (arith, c.requires)))
          ∙ append-nil (take 1 order ++ take last order))))
    ])
