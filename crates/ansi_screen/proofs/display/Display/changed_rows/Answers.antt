-- Rows of which nothing is noted are as they were shown.
use Rattle.std.proofs.Common.{◌≡◌, ◌<◌, inl, inr, sym, subst}
use Rattle.ansi_screen.specs.Damage.{no_span, span_at}
use Rattle.ansi_screen.specs.Display.{row_cells}
use Rattle.ansi_screen.specs.State.{State, shown_cells}
use Rattle.ansi_screen.proofs.FollowingLemmas.{keeps-row}
use Rattle.ansi_screen.proofs.display.Display.changed_rows.Goals as goal

pub returns-clause-kept : goal.returns-clause-kept
returns-clause-kept c = λ row within out.
    let g = c.self.inside.cells in
    let was = c.self.invariant.2 in
    let below : row < g.height = subst (λ (d : State). row < d.display.height) (sym c.self.view_is) within in
    let none : span_at c.self.inside.damage.spans row ≡ no_span =
    elim out [ inl above ↦ c.rows.ensures.others.above row above | inr past ↦ c.rows.ensures.others.below row past ] in
    subst (λ (d : State). row_cells row d.display ≡ shown_cells row d) c.self.view_is
    (keeps-row g.width g.height c.self.inside.damage.spans g.cells c.self.inside.shown.cells.value.cells c.width.ensures.filled was.damage.long was.damage.cells row below none)
