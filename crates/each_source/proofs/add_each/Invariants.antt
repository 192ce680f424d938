-- The sources so far were read, and their texts, joined, are written.
use Rattle.std.proofs.Common.{◌≡◌, ◌≤◌, ◌++◌, List, None, length}
use Rattle.std.specs.List.{flat_map}
use Rattle.anstyle_parse.specs.Io.Output.{fault_in, Adds}
use Rattle.each_source.specs.Each.{Given, AreRead}
use Rattle.each_source.proofs.add_each.Given as goal

abbrev pub invariant-loop-reader : goal.invariant-loop-reader
invariant-loop-reader g l = record {
  given : List Given;
  count : length given ≡ l.reader-index;
  within : l.reader-index ≤ length l.initial.readers;
  are_read : AreRead g.R.Source (fault_in l.output ≡ None) ⊥ l.initial.readers l.readers given;
  added : Adds g.W.Sink (flat_map (λ one. g.B.Begin.text l.begin one ++ g.B.Begin.ending l.begin one) given) l.initial.output l.output;
}
