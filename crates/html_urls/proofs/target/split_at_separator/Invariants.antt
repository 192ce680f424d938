-- No separator stood so far.
use Rattle.std.proofs.Common.{◌≡◌, ◌≤◌, ◌-◌, false, length, take}
use Rattle.std.specs.Prelude.{◌==◌, All}
use Rattle.anstyle_parse.specs.Stream.Bytes.{semicolon}
use Rattle.html_urls.proofs.target.split_at_separator.Given as goal

abbrev pub invariant-bytes : goal.invariant-bytes
invariant-bytes l = (l.count ≤ length l.bytes) × All (λ b. (b == semicolon) ≡ false) (take l.count l.bytes)

abbrev pub decreases-bytes : goal.decreases-bytes
decreases-bytes l = length l.bytes - l.count
