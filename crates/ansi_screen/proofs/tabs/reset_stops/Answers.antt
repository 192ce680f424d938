-- One column more.
use Rattle.std.proofs.Common.{◌%◌, ◌<◌, nat_eq, length, arith, add-one, ap, ◌∙◌, sym, ◌++◌, ◌∷◌, [], Bool, List}
use Rattle.std.proofs.lemmas.List.{take_more_set}
use Rattle.ansi_screen.specs.Display.{stops}
use Rattle.ansi_screen.proofs.tabs.reset_stops.Goals as goal

pub loop-column-preserved : goal.loop-column-preserved
loop-column-preserved c =
    let i = c.loop-column.column in
    let inside : i < length c.loop-column.tabs = omega arith in
    take_more_set c.loop-column.tabs i (nat_eq (i % 8) 0) inside
    ∙ (ap (λ (l : List Bool). l ++ nat_eq (i % 8) 0 ∷ []) c.loop-column.invariant ∙ ap stops (sym (add-one i)))
