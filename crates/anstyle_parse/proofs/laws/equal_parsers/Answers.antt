use Rattle.std.proofs.Common.{◌≡◌, List, ℕ, ap, sym, subst}
use Rattle.anstyle_parse.specs.Views.Accumulator.{front_of, parser_after}
use Rattle.anstyle_parse.specs.Machine.Step.{Machine, machine_calls}
use Rattle.anstyle_parse.specs.Views.Parser.{machine_of}
use Rattle.anstyle_parse.specs.Machine.Stands.{StandsAfter, seen}
use Rattle.anstyle_parse.proofs.Machine.Equal.{same_fields-equivalence, machine_of-same}
use Rattle.anstyle_parse.proofs.laws.equal_parsers.Goals as goal

pub returns-clause-equivalence : goal.returns-clause-equivalence
returns-clause-equivalence c = same_fields-equivalence

pub returns-clause-stands : goal.returns-clause-stands
returns-clause-stands c = λ a b before same.
    let e : seen front_of (machine_of a) ≡ seen front_of (machine_of b) = ap (seen front_of) (machine_of-same a b same) in
    let Q : Machine (List ℕ) → Type 0 = λ m. StandsAfter m before in
    (subst Q e, subst Q (sym e))

pub returns-clause-calls : goal.returns-clause-calls
returns-clause-calls c = λ a b bytes same. ap (machine_calls parser_after bytes) (machine_of-same a b same)
