-- What is taken so far goes into the number, before what is taken from here on.
use Rattle.std.proofs.Common.{◌≤◌, ℕ, List, length}
use Rattle.anstyle_parse.specs.Stream.Arguments.{max_field}
use Rattle.anstyle_parse.specs.Views.Fields.{TakesDigits}
use Rattle.anstyle_parse.proofs.parser.header.many_digits.Given as goal

abbrev pub invariant-digits : goal.invariant-digits
invariant-digits l = record {
  fits : l.value ≤ max_field;
  taken : (new : ℕ) (left : List ℕ) → TakesDigits l.value l.rest new left → TakesDigits l.fn.number l.fn.bytes new left;
}

abbrev pub decreases-digits : goal.decreases-digits
decreases-digits l = length l.rest
