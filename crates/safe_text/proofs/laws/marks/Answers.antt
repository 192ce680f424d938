-- A mark is no character, and without one that hides text there is none.
use Rattle.safe_text.proofs.MarkedLemmas.{without-all, never-marks}
use Rattle.safe_text.proofs.ToldLemmas.{told-marked}
use Rattle.safe_text.proofs.laws.marks.Goals as goal

pub returns-clause-hidden : goal.returns-clause-hidden
returns-clause-hidden c = λ bytes calls are. told-marked calls (c.calls_are_lawful.ensures bytes calls are)

pub returns-clause-characters : goal.returns-clause-characters
returns-clause-characters c = λ bytes calls are. without-all calls (c.calls_are_lawful.ensures bytes calls are)

pub returns-clause-none : goal.returns-clause-none
returns-clause-none c = λ calls never. never-marks calls never
