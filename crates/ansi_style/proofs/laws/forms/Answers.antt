use Rattle.ansi_style.proofs.RenditionLemmas.{selected-indexed, selected-direct, selected-with_space}
use Rattle.ansi_style.proofs.laws.forms.Goals as goal

pub returns-clause-indexed : goal.returns-clause-indexed
returns-clause-indexed c = selected-indexed

pub returns-clause-direct : goal.returns-clause-direct
returns-clause-direct c = selected-direct

pub returns-clause-with_space : goal.returns-clause-with_space
returns-clause-with_space c = selected-with_space
