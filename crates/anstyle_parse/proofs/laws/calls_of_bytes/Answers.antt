use Rattle.std.proofs.Common.{[]}
use Rattle.anstyle_parse.specs.Machine.Decoder.{decoded}
use Rattle.anstyle_parse.specs.Machine.Step.{new_machine, machine_calls}
use Rattle.anstyle_parse.proofs.Agreement.Whole.{AreCalls-machine}
use Rattle.anstyle_parse.proofs.Division.Only.{AreCalls-only}
use Rattle.anstyle_parse.proofs.laws.calls_of_bytes.Goals as goal

pub returns-clause-some : goal.returns-clause-some
returns-clause-some c = λ bytes. (machine_calls decoded bytes (new_machine []), AreCalls-machine bytes)

pub returns-clause-only : goal.returns-clause-only
returns-clause-only c = λ bytes calls others are too. AreCalls-only bytes others calls too are
