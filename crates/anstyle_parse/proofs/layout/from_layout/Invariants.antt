-- What is passed so far has no layout control.
use Rattle.std.proofs.Common.{◌≡◌, ℕ, List, ◌++◌, length}
use Rattle.std.specs.Prelude.{not}
use Rattle.anstyle_parse.specs.Stream.Items.{EachIs}
use Rattle.anstyle_parse.specs.Stream.Texts.{is_layout}
use Rattle.anstyle_parse.proofs.layout.from_layout.Given as goal

abbrev pub invariant-chunks : goal.invariant-chunks
invariant-chunks l = (passed : List ℕ) × (l.bytes ≡ passed ++ l.rest) × EachIs (λ b. not (is_layout b)) passed

abbrev pub decreases-chunks : goal.decreases-chunks
decreases-chunks l = length l.rest

abbrev pub invariant-bytes : goal.invariant-bytes
invariant-bytes l = (passed : List ℕ) × (l.bytes ≡ passed ++ l.rest) × EachIs (λ b. not (is_layout b)) passed

abbrev pub decreases-bytes : goal.decreases-bytes
decreases-bytes l = length l.rest
