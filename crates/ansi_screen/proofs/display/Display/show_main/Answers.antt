-- All is noted.
use Rattle.std.proofs.Common.{rules, ◌≡◌, ◌*◌, length, ap, sym, ◌∙◌, arith}
use Rattle.std.proofs.lemmas.List.{length-replicate}
use Rattle.ansi_style.specs.Style.{plain}
use Rattle.ansi_screen.specs.Cells.{blank}
use Rattle.ansi_screen.specs.Grid.{Grid}
use Rattle.ansi_screen.proofs.DamageLemmas.{all-noted, kept-width}
use Rattle.ansi_screen.proofs.display.Display.show_main.Goals as goal

pub invariant_of-self : goal.invariant_of-self
invariant_of-self c =
    let was = c.self.invariant.2 in
    let s = was.sized in
    let wide : c.swap.new.shown.width ≡ c.self.inside.cells.width = ap (λ (g : Grid). g.width) c.swap.ensures.shown ∙ c.self.invariant.0 in
    let high : c.swap.new.shown.height ≡ c.self.inside.cells.height = ap (λ (g : Grid). g.height) c.swap.ensures.shown ∙ c.self.invariant.1 in
    let long : length c.swap.new.shown.cells ≡ c.self.inside.cells.height * c.self.inside.cells.width =
    ap (λ (g : Grid). length g.cells) c.swap.ensures.shown ∙ s.hidden_fill in
    let long_hidden : length c.clear.new.self.cells ≡ c.self.inside.cells.height * c.self.inside.cells.width =
    ap (λ (g : Grid). length g.cells) c.clear.ensures
    ∙ (length-replicate (length c.swap.new.self.cells) (blank plain)
    ∙ (ap (λ (g : Grid). length g.cells) c.swap.ensures.covered ∙ s.cells_fill)) in (
      search rules,
      search rules,
      all-noted _ _ _ c.note_all.ensures (was.long ∙ sym high)
          (rw (wide, high, c.home-self-inside.ensures) (record { two_columns = s.two_columns; columns_limit = s.columns_limit; a_row = s.a_row; rows_limit = s.rows_limit; cells_fill = long; hidden_fill = long_hidden; tabs_fill = s.tabs_fill; cursor_row = s.cursor_row; cursor_column = s.cursor_column; saved_row = s.hidden_row; saved_column = s.hidden_column; hidden_row = omega (arith, s.a_row); hidden_column = omega arith; margins = s.margins; margins_within = s.margins_within }))
          (kept-width _ _ _ wide was.kept)
          (long ∙ (sym s.cells_fill ∙ was.damage.long)),
    )
