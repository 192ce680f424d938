use Rattle.anstyle_parse.specs.Views.Parser.{machine_of}
use Rattle.anstyle_parse.specs.Machine.Stands.{seen, unseen}
use Rattle.anstyle_parse.proofs.Agreement.Forgotten.{cancelled_is_new, Continues-cancelled}
use Rattle.anstyle_parse.proofs.laws.cancelled.Goals as goal

pub returns-clause-stands : goal.returns-clause-stands
returns-clause-stands g c = λ parser before byte cancels. cancelled_is_new (seen g.C.CharAccumulator.front (machine_of parser)) before byte cancels

pub returns-clause-ascii : goal.returns-clause-ascii
returns-clause-ascii g c = λ parser before byte cancels stands. (tt, cancelled_is_new (unseen (machine_of parser)) before byte cancels stands.1)

pub returns-clause-calls : goal.returns-clause-calls
returns-clause-calls g c = Continues-cancelled
