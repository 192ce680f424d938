-- The text so far is taken.
use Rattle.std.proofs.Common.{◌≡◌, ℕ, List, ◌++◌, length}
use Rattle.std.specs.Str.{IsUtf8, chars}
use Rattle.safe_text.specs.Writer.{Takes}
use Rattle.safe_text.proofs.performer.SafeWriter.take_text.Given as goal

abbrev pub invariant-rest : goal.invariant-rest
invariant-rest g l = record {
  passed : List ℕ;
  utf8 : IsUtf8 passed;
  rest_utf8 : IsUtf8 l.rest;
  joined : l.text ≡ passed ++ l.rest;
  taken : Takes g.W.Sink l.initial.self (chars passed) l.self;
}

abbrev pub decreases-rest : goal.decreases-rest
decreases-rest g l = length l.rest
