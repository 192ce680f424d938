use Rattle.std.proofs.Common.{arith}
use Rattle.anstyle_parse.specs.Views.Parser.{machine_of}
use Rattle.anstyle_parse.specs.Machine.Stands.{seen, unseen}
use Rattle.anstyle_parse.proofs.Agreement.Forgotten.{forgotten, Continues-forgotten}
use Rattle.anstyle_parse.proofs.laws.forgotten.Goals as goal

pub returns-clause-stands : goal.returns-clause-stands
returns-clause-stands g c = λ parser before. forgotten (seen g.C.CharAccumulator.front (machine_of parser)) before

pub returns-clause-ascii : goal.returns-clause-ascii
returns-clause-ascii g c = λ parser before stands. ((omega arith, tt), forgotten (unseen (machine_of parser)) before stands.1)

pub returns-clause-calls : goal.returns-clause-calls
returns-clause-calls g c = Continues-forgotten
