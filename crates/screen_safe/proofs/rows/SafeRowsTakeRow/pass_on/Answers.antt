-- Nothing is written.
use Rattle.std.proofs.Common.{ℕ, List, ap₂}
use Rattle.screen_safe.specs.Writer.{Between}
use Rattle.screen_safe.proofs.TakenLemmas.{passed-nothing}
use Rattle.screen_safe.proofs.rows.SafeRowsTakeRow.pass_on.Goals as goal

pub returns : goal.returns
returns g c =
    let passed = passed-nothing g.W.Sink c.args.self.now.writer c.pass_on.new.self c.pass_on.ensures in
    let made : ℕ → List ℕ → Between = λ b h. record { before = b; held = h; is_open = c.args.self.now.is_open } in
    record { added = passed.0; standing = ap₂ made passed.1 passed.2 }
