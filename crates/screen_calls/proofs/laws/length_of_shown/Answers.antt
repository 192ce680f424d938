use Rattle.screen_calls.proofs.BoundLemmas.{bound-shown, bound-lines, bound-blocks, bound-numbered}
use Rattle.screen_calls.proofs.laws.length_of_shown.Goals as goal

pub returns-clause-bound : goal.returns-clause-bound
returns-clause-bound c = bound-shown

pub returns-clause-lines_bound : goal.returns-clause-lines_bound
returns-clause-lines_bound c = bound-lines

pub returns-clause-blocks_bound : goal.returns-clause-blocks_bound
returns-clause-blocks_bound c = bound-blocks

pub returns-clause-numbered_bound : goal.returns-clause-numbered_bound
returns-clause-numbered_bound c = bound-numbered
