-- The characters of lawful calls are scalar values.
use Rattle.std.proofs.Common.{false}
use Rattle.safe_text.specs.Safe.{characters}
use Rattle.safe_text.specs.Marks.{marked}
use Rattle.safe_text.proofs.CallLemmas.{scalars-lawful}
use Rattle.safe_text.proofs.MarkedLemmas.{marked-items}
use Rattle.safe_text.proofs.WholeLemmas.{safe-utf8, items-utf8}
use Rattle.safe_text.proofs.laws.safe_utf8.Goals as goal

pub returns-clause-plain : goal.returns-clause-plain
returns-clause-plain c = λ bytes calls are.
    safe-utf8 0 (characters calls) (scalars-lawful false calls (c.calls_are_lawful.ensures bytes calls are))

pub returns-clause-marked : goal.returns-clause-marked
returns-clause-marked c = λ bytes calls are.
    items-utf8 0 (marked calls) (marked-items calls (c.calls_are_lawful.ensures bytes calls are))
