-- The characters of the row are taken.
use Rattle.std.proofs.Common.{ℕ, Bool, List, ap, ap₂, ◌∙◌}
use Rattle.screen_safe.specs.Writer.{Between}
use Rattle.screen_safe.proofs.rows.SafeRowsTakeRow.take_row.Goals as goal

pub returns : goal.returns
returns g c =
    let taken = c.take_characters.ensures in
    let made : ℕ → List ℕ → Bool → Between = λ b h on. record { before = b; held = h; is_open = on } in
    record {
      added = taken.added;
      standing = ap₂ (λ b h. made b h c.goes_on-self.result) taken.before taken.held ∙ ap (made _ _) c.goes_on-self.ensures;
    }
