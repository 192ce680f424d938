-- What is taken so far goes into the header, before what is taken from here on.
use Rattle.std.proofs.Common.{List, ℕ, length}
use Rattle.std.specs.Prelude.{⊤}
use Rattle.anstyle_parse.specs.Machine.Step.{Machine}
use Rattle.anstyle_parse.specs.Views.Header.{heading_of}
use Rattle.anstyle_parse.specs.Views.Fields.{TakesFields}
use Rattle.anstyle_parse.proofs.parser.header.Header.fields.Given as goal

abbrev pub invariant-fields : goal.invariant-fields
invariant-fields l =
    (new : Machine ⊤) (left : List ℕ) → TakesFields (heading_of l.self) l.rest new left → TakesFields (heading_of l.fn.self) l.fn.bytes new left

abbrev pub decreases-fields : goal.decreases-fields
decreases-fields l = length l.rest
