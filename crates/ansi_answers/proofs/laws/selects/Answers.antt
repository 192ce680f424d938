use Rattle.ansi_style.proofs.CodesLemmas.{selected-codes_of}
use Rattle.ansi_answers.proofs.laws.selects.Goals as goal

pub returns : goal.returns
returns c before = selected-codes_of c.args.style before c.bounded_style.ensures.foreground c.bounded_style.ensures.background
