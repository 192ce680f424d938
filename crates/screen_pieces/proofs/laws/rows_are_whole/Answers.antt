-- A new screen is within its sizes, and each call keeps it so.
use Rattle.std.proofs.Common.{refl}
use Rattle.ansi_screen.specs.After.{new_state}
use Rattle.ansi_screen.proofs.KeptCalls.{new-screen}
use Rattle.screen_pieces.proofs.WholeRowLemmas.{all-whole, kept-whole}
use Rattle.screen_pieces.proofs.laws.rows_are_whole.Goals as goal

pub returns-clause-left : goal.returns-clause-left
returns-clause-left c = λ columns rows calls wide narrow some few.
    all-whole columns calls (new_state columns rows) (new-screen columns rows wide narrow some few) refl

pub returns-clause-kept : goal.returns-clause-kept
returns-clause-kept c = λ columns rows keeps_erased calls wide narrow some few.
    kept-whole columns keeps_erased calls (new_state columns rows) (new-screen columns rows wide narrow some few) refl
