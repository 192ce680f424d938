-- What is passed so far is plain text.
use Rattle.std.proofs.Common.{◌≡◌, ℕ, List, ◌++◌, length}
use Rattle.anstyle_parse.specs.Stream.Items.{EachIs}
use Rattle.anstyle_parse.specs.Stream.Bytes.{is_plain_text}
use Rattle.anstyle_parse.proofs.parser.command.plain_length.Given as goal

abbrev pub invariant-chunks : goal.invariant-chunks
invariant-chunks l = (passed : List ℕ) × (l.bytes ≡ passed ++ l.rest) × EachIs is_plain_text passed

abbrev pub decreases-chunks : goal.decreases-chunks
decreases-chunks l = length l.rest

abbrev pub invariant-bytes : goal.invariant-bytes
invariant-bytes l = (passed : List ℕ) × (l.bytes ≡ passed ++ l.rest) × EachIs is_plain_text passed

abbrev pub decreases-bytes : goal.decreases-bytes
decreases-bytes l = length l.rest
