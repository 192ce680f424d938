use Rattle.screen_text.proofs.SizeTextLemmas.{line-out, line-kept}
use Rattle.screen_text.proofs.laws.without_line.Goals as goal

pub returns-clause-left_out : goal.returns-clause-left_out
returns-clause-left_out c = line-out

pub returns-clause-kept : goal.returns-clause-kept
returns-clause-kept c = line-kept
