-- What is passed so far is stored.
use Rattle.std.proofs.Common.{◌≡◌, ◌≤◌, length}
use Rattle.anstyle_parse.specs.declared.state.definitions.State.TheVariants.{OscString}
use Rattle.anstyle_parse.specs.Views.Runs.{LeadsQuietlyTo, is_of_command}
use Rattle.anstyle_parse.proofs.parser.Parser.store_text.Given as goal

abbrev pub invariant-text : goal.invariant-text
invariant-text g l = record {
  leads : LeadsQuietlyTo g.C.CharAccumulator.takes g.C.CharAccumulator.taken is_of_command l.fn.self l.bytes l.self l.rest;
  command : l.self.state ≡ OscString;
  within : length l.rest ≤ length l.bytes;
}

abbrev pub decreases-text : goal.decreases-text
decreases-text g l = length l.rest
