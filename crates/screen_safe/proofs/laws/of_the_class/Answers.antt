-- They are scalar values and marks, so those of the text are what was encoded.
use Rattle.std.proofs.Common.{List, ℕ, sym, subst, IsTrue}
use Rattle.std.specs.List.{AllByRecursion}
use Rattle.ansi_screen.specs.After.{new_state}
use Rattle.safe_text.specs.Classes.{is_of_safe_text}
use Rattle.safe_text.proofs.WholeLemmas.{items-chars, safe-class}
use Rattle.screen_safe.specs.Shown.{shown_marked}
use Rattle.screen_safe.proofs.MarkedLemmas.{items-shown}
use Rattle.screen_safe.proofs.laws.of_the_class.Goals as goal

pub returns : goal.returns
returns c = λ columns rows bytes calls are.
    let cs = shown_marked (new_state columns rows) calls in
    subst (λ (l : List ℕ). AllByRecursion (λ k. IsTrue (is_of_safe_text k)) l)
    (sym (items-chars 0 cs (items-shown columns rows bytes calls are))) (safe-class 0 cs)
