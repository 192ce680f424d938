-- There are more fields than the block has.
use Rattle.std.proofs.Common.{map, ap, ◌∙◌, [], ◌∷◌, arith, List, ℕ}
use Rattle.std.proofs.lemmas.List.{take-take}
use Rattle.event_pieces.specs.Event.{groups_bytes}
use Rattle.event_pieces.proofs.front.fields_block.Goals as goal

pub returns : goal.returns
returns c = λ count few.
    c.spread.ensures count few
    ∙ ap (λ (l : List ℕ). groups_bytes (map (λ (field : ℕ). field ∷ []) l)) (take-take count 8 c.args.fields.now (omega (arith, few)))
