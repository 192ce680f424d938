-- The bytes that are passed so far are written.
use Rattle.std.proofs.Common.{◌≡◌, ℕ, List, ◌++◌, length}
use Rattle.ansi_html.specs.Writer.{TakesBytes}
use Rattle.ansi_html.proofs.performer.HtmlWriter.put_few.Given as goal

abbrev pub invariant-rest : goal.invariant-rest
invariant-rest g l = (passed : List ℕ) × (l.text ≡ passed ++ l.rest) × TakesBytes g.W.Sink l.initial.self passed l.self

abbrev pub decreases-rest : goal.decreases-rest
decreases-rest g l = length l.rest
