use Rattle.ansi_style.proofs.RenditionLemmas.{selected-reset, selected-reset_within}
use Rattle.ansi_style.proofs.laws.reset.Goals as goal

pub returns-clause-alone : goal.returns-clause-alone
returns-clause-alone c = selected-reset

pub returns-clause-forgets : goal.returns-clause-forgets
returns-clause-forgets c = selected-reset_within
