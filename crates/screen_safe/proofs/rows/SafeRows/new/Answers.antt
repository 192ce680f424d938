-- Nothing is written, and nothing waits.
use Rattle.std.proofs.Common.{ℕ, List, false, ap₂}
use Rattle.screen_safe.specs.Writer.{Between}
use Rattle.screen_safe.proofs.rows.SafeRows.new.Goals as goal

pub returns-clause-new : goal.returns-clause-new
returns-clause-new g c =
    let made : ℕ → List ℕ → Between = λ b h. record { before = b; held = h; is_open = false } in
    ap₂ made c.over.ensures.new.before c.over.ensures.new.held
