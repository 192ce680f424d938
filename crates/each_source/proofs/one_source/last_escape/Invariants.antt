-- What was looked at is at the end, and has no ESC.
use Rattle.std.proofs.Common.{◌≡◌, ◌++◌, List, ℕ, length}
use Rattle.each_source.specs.Ended.{HasNoEscape}
use Rattle.each_source.proofs.one_source.last_escape.Given as goal

abbrev pub invariant-rest : goal.invariant-rest
invariant-rest l = record {
  after : List ℕ;
  joined : l.fn.bytes ≡ l.rest ++ after;
  others : HasNoEscape after;
}

abbrev pub decreases-rest : goal.decreases-rest
decreases-rest l = length l.rest
