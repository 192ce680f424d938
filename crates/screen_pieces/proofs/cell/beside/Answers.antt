-- No bit of either is set.
use Rattle.std.proofs.Common.{◌≡◌, arith}
use Rattle.std.proofs.lemmas.Nat.{le_or_l, le_or_r}
use Rattle.screen_pieces.proofs.cell.beside.Goals as goal

pub returns : goal.returns
returns c = λ none.
    let kind = c.kind_number.result in let count = c.mark_count.result in
    let own : kind ≡ 0 = omega (arith, none, le_or_l kind count) in
    let unmarked : count ≡ 0 = omega (arith, none, le_or_r kind count) in
    record { foreground = omega arith; background = c.kind_number.ensures.own own; marks = c.mark_count.ensures unmarked }
