-- All is noted.
use Rattle.std.proofs.Common.{rules, ◌≡◌, ◌*◌, length, ap, ap₂, sym, ◌∙◌}
use Rattle.ansi_screen.specs.State.{State}
use Rattle.ansi_screen.specs.Grid.{Grid}
use Rattle.ansi_screen.proofs.DamageLemmas.{all-noted, kept-width}
use Rattle.ansi_screen.proofs.display.Display.copy_all.Goals as goal

pub invariant_of-self : goal.invariant_of-self
invariant_of-self c =
    let was = c.self.invariant.2 in
    let wide : c.self.inside.cells.width ≡ c.other.inside.cells.width =
    ap (λ (d : State). d.display.width) c.self.view_is ∙ (c.requires.width ∙ sym (ap (λ (d : State). d.display.width) c.other.view_is)) in
    let high : c.self.inside.cells.height ≡ c.other.inside.cells.height =
    ap (λ (d : State). d.display.height) c.self.view_is ∙ (c.requires.height ∙ sym (ap (λ (d : State). d.display.height) c.other.view_is)) in
    let new_wide : c.copy_all.new.self.width ≡ c.self.inside.cells.width = ap (λ (g : Grid). g.width) c.copy_all.ensures ∙ sym wide in
    let new_high : c.copy_all.new.self.height ≡ c.self.inside.cells.height = ap (λ (g : Grid). g.height) c.copy_all.ensures ∙ sym high in
    let long : length c.copy_all.new.self.cells ≡ length c.self.inside.cells.cells =
    ap (λ (g : Grid). length g.cells) c.copy_all.ensures
    ∙ (c.other.invariant.2.sized.cells_fill ∙ (ap₂ (λ a b. a * b) (sym high) (sym wide) ∙ sym was.sized.cells_fill)) in (
      c.self.invariant.0 ∙ sym new_wide,
      c.self.invariant.1 ∙ sym new_high,
      all-noted _ _ _ c.note_all.ensures (was.long ∙ sym new_high) (search rules) (kept-width _ _ _ new_wide was.kept) (long ∙ was.damage.long),
    )
