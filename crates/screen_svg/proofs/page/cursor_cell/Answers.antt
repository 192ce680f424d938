use Rattle.std.proofs.Common.{ap, arith}
use Rattle.ansi_screen.specs.declared.place.Place.{Place}
use Rattle.screen_svg.proofs.page.cursor_cell.Goals as goal

pub returns-clause-within : goal.returns-clause-within
returns-clause-within c =
    let sized = c.columns-last.ensures.sized in
    omega (arith, ap (λ (it : Place). it.row) c.cursor-place.ensures, sized.cursor_row)

pub returns-clause-few_rows : goal.returns-clause-few_rows
returns-clause-few_rows c =
    let sized = c.columns-last.ensures.sized in
    omega (arith, ap (λ (it : Place). it.row) c.cursor-place.ensures, sized.cursor_row, sized.rows_limit)
