-- The row above ends, and then cells are erased: as many as there were.
use Rattle.std.proofs.Common.{length, ap, ◌∙◌}
use Rattle.ansi_screen.specs.State.{changed}
use Rattle.ansi_screen.specs.Edits.{erased_part, row_above_ended, erases_from_row}
use Rattle.ansi_screen.proofs.MovedLemmas.{length-ended}
use Rattle.ansi_screen.proofs.display.Display.erase_in_place.Goals as goal

pub returns : goal.returns
returns c =
    let s = c.args.self.now in
    let d = s.display in
    c.erase_part_of_display.ensures
    ∙ (ap (changed (λ e. erased_part c.args.kind 0 (length e.cells) e)) (c.end_row_above.ensures ∙ ap (λ b. changed (row_above_ended b) s) c.erases_from_row-is_begun_anew.ensures)
    ∙ ap (λ n. record s { display = erased_part c.args.kind 0 n (row_above_ended (erases_from_row c.args.kind d) d) }) (length-ended (erases_from_row c.args.kind d) d))
