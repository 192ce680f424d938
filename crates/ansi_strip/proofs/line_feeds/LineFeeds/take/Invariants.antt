-- The text so far is taken.
use Rattle.std.proofs.Common.{◌≡◌, List, ℕ, ◌++◌, length}
use Rattle.ansi_strip.specs.LineWriter.{Takes}
use Rattle.ansi_strip.proofs.line_feeds.LineFeeds.take.Given as goal

abbrev pub invariant-rest : goal.invariant-rest
invariant-rest g l = (passed : List ℕ) × (l.text ≡ passed ++ l.rest) × Takes g.W.Sink l.initial.self passed l.self

abbrev pub decreases-rest : goal.decreases-rest
decreases-rest g l = length l.rest
