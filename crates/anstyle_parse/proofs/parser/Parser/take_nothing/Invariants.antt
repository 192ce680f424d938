-- What is passed so far leaves the machine as it is.
use Rattle.std.proofs.Common.{◌≤◌, ◌∷◌, length}
use Rattle.anstyle_parse.specs.Views.Runs.{LeadsQuietlyTo, begins_nothing}
use Rattle.anstyle_parse.proofs.parser.Parser.take_nothing.Given as goal

abbrev pub invariant-bytes : goal.invariant-bytes
invariant-bytes g l = record {
  leads : LeadsQuietlyTo g.C.CharAccumulator.takes g.C.CharAccumulator.taken begins_nothing l.self (l.first ∷ l.behind) l.self l.rest;
  within : length l.rest ≤ length l.behind;
}

abbrev pub decreases-bytes : goal.decreases-bytes
decreases-bytes g l = length l.rest
