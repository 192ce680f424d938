-- All is noted.
use Rattle.std.proofs.Common.{rules, ◌≡◌, ◌*◌, length, ap, sym, ◌∙◌}
use Rattle.std.proofs.lemmas.List.{length-replicate}
use Rattle.ansi_screen.specs.Cells.{blank}
use Rattle.ansi_screen.specs.Grid.{Grid}
use Rattle.ansi_screen.proofs.DamageLemmas.{all-noted, kept-width}
use Rattle.ansi_screen.proofs.display.Display.show_alternate.Goals as goal

pub invariant_of-self : goal.invariant_of-self
invariant_of-self c =
    let was = c.self.invariant.2 in
    let wide : c.fill.new.self.width ≡ c.self.inside.cells.width =
    ap (λ (g : Grid). g.width) c.fill.ensures ∙ (ap (λ (g : Grid). g.width) c.swap.ensures.shown ∙ c.self.invariant.0) in
    let high : c.fill.new.self.height ≡ c.self.inside.cells.height =
    ap (λ (g : Grid). g.height) c.fill.ensures ∙ (ap (λ (g : Grid). g.height) c.swap.ensures.shown ∙ c.self.invariant.1) in
    let long : length c.fill.new.self.cells ≡ c.self.inside.cells.height * c.self.inside.cells.width =
    ap (λ (g : Grid). length g.cells) c.fill.ensures
    ∙ (length-replicate (length c.swap.new.shown.cells) (blank c.self.inside.cursor.style)
    ∙ (ap (λ (g : Grid). length g.cells) c.swap.ensures.shown ∙ was.sized.hidden_fill)) in (
      search rules,
      search rules,
      all-noted _ _ _ c.note_all.ensures (was.long ∙ sym high) (search rules) (kept-width _ _ _ wide was.kept) (long ∙ (sym was.sized.cells_fill ∙ was.damage.long)),
    )
