-- The last calls.
use Rattle.screen_draw.proofs.SelectedLemmas.{drawn-modes, drawn-style, drawn-sets}
use Rattle.screen_draw.proofs.laws.selected.Goals as goal

pub returns-clause-modes : goal.returns-clause-modes
returns-clause-modes c = λ drawn old. drawn-modes drawn old

pub returns-clause-style : goal.returns-clause-style
returns-clause-style c = λ drawn old foreground background. drawn-style drawn old foreground background

pub returns-clause-sets : goal.returns-clause-sets
returns-clause-sets c = λ drawn old. drawn-sets drawn old
