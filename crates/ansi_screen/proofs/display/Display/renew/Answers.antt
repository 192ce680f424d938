-- All is noted.
use Rattle.std.proofs.Common.{◌≡◌, length, ap, sym, ◌∙◌, arith}
use Rattle.std.proofs.lemmas.Grind.{common_steps}
use Rattle.std.proofs.lemmas.List.{length-replicate}
use Rattle.ansi_screen.specs.Cells.{blank}
use Rattle.ansi_screen.specs.Grid.{Grid}
use Rattle.ansi_screen.proofs.DamageLemmas.{all-noted, kept-width}
use Rattle.ansi_screen.proofs.display.Display.renew.Goals as goal

pub invariant_of-self : goal.invariant_of-self
invariant_of-self c =
    let was = c.self.invariant.2 in
    let high : c.fill.new.self.height ≡ c.self.inside.cells.height = ap (λ (g : Grid). g.height) c.fill.ensures in
    let long : length c.fill.new.self.cells ≡ length c.self.inside.cells.cells =
    ap (λ (g : Grid). length g.cells) c.fill.ensures ∙ length-replicate (length c.self.inside.cells.cells) (blank c.default.result) in (
      ap (λ (g : Grid). g.width) c.clear.ensures ∙ (c.self.invariant.0 ∙ sym (ap (λ (g : Grid). g.width) c.fill.ensures)),
      ap (λ (g : Grid). g.height) c.clear.ensures ∙ (c.self.invariant.1 ∙ sym high),
      all-noted _ _ _ c.note_all.ensures (was.long ∙ sym high) (grind (arith, common_steps)) (kept-width _ _ _ (ap (λ (g : Grid). g.width) c.fill.ensures) was.kept) (long ∙ was.damage.long),
    )
