-- What is passed so far is taken.
use Rattle.std.proofs.Common.{◌≡◌, ℕ, List, ◌++◌, length}
use Rattle.anstyle_parse.specs.Stream.Items.{EachIs}
use Rattle.safe_text.specs.Plain.{is_plain}
use Rattle.safe_text.specs.Writer.{Takes}
use Rattle.safe_text.proofs.performer.SafeWriter.take_plain.Given as goal

abbrev pub invariant-waiting : goal.invariant-waiting
invariant-waiting g l = (passed : List ℕ) × (l.text ≡ passed ++ l.rest) × EachIs is_plain l.rest × Takes g.W.Sink l.initial.self passed l.self

abbrev pub decreases-waiting : goal.decreases-waiting
decreases-waiting g l = length l.rest
