-- The characters of lawful calls are scalar values, so those of the text are what was encoded.
use Rattle.std.proofs.Common.{false, List, ℕ, sym, subst, IsTrue}
use Rattle.std.specs.List.{AllByRecursion}
use Rattle.safe_text.specs.Classes.{is_of_safe_text}
use Rattle.safe_text.specs.Safe.{characters}
use Rattle.safe_text.specs.Marks.{marked}
use Rattle.safe_text.proofs.CallLemmas.{scalars-lawful}
use Rattle.safe_text.proofs.MarkedLemmas.{marked-items}
use Rattle.safe_text.proofs.WholeLemmas.{safe-chars, items-chars, safe-class}
use Rattle.safe_text.proofs.laws.of_the_class.Goals as goal

pub returns-clause-plain : goal.returns-clause-plain
returns-clause-plain c = λ bytes calls are.
    let cs = characters calls in
    subst (λ (l : List ℕ). AllByRecursion (λ k. IsTrue (is_of_safe_text k)) l)
    (sym (safe-chars 0 cs (scalars-lawful false calls (c.calls_are_lawful.ensures bytes calls are)))) (safe-class 0 cs)

pub returns-clause-marked : goal.returns-clause-marked
returns-clause-marked c = λ bytes calls are.
    let cs = marked calls in
    subst (λ (l : List ℕ). AllByRecursion (λ k. IsTrue (is_of_safe_text k)) l)
    (sym (items-chars 0 cs (marked-items calls (c.calls_are_lawful.ensures bytes calls are)))) (safe-class 0 cs)
