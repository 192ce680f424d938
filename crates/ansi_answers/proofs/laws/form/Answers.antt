use Rattle.ansi_answers.proofs.ByteLemmas.{answer-bytes, answer-few}
use Rattle.ansi_answers.proofs.ReadLemmas.{answer-read}
use Rattle.ansi_answers.proofs.laws.form.Goals as goal

pub returns-clause-bytes : goal.returns-clause-bytes
returns-clause-bytes c = answer-bytes c.args.answer c.bounded.ensures

pub returns-clause-bound : goal.returns-clause-bound
returns-clause-bound c = answer-few c.args.answer c.bounded.ensures

pub returns-clause-read : goal.returns-clause-read
returns-clause-read c = answer-read c.args.answer c.bounded.ensures
