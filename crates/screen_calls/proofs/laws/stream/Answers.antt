use Rattle.screen_calls.proofs.HtmlLemmas.{made-shown, made-converted}
use Rattle.screen_calls.proofs.laws.stream.Goals as goal

pub returns-clause-shown : goal.returns-clause-shown
returns-clause-shown c = made-shown

pub returns-clause-converted : goal.returns-clause-converted
returns-clause-converted c = made-converted
