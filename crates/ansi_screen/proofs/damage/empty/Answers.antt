-- All rows are empty then.
use Rattle.std.proofs.Common.{ap, ◌∙◌}
use Rattle.std.specs.Prelude.{replicate}
use Rattle.ansi_screen.specs.Damage.{no_span}
use Rattle.ansi_screen.proofs.DamageLemmas.{forgotten-rest}
use Rattle.ansi_screen.proofs.damage.empty.Goals as goal

pub returns : goal.returns
returns c =
    forgotten-rest c.loop-row.row c.args.past c.loop-row.spans c.loop-row.invariant.1 c.loop-row-test.false
    ∙ ap (λ n. replicate n no_span) c.loop-row.invariant.0
