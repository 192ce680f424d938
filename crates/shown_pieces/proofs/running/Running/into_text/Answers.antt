-- What is written of the whole log is what the screen showed of it.
use Rattle.shown_pieces.proofs.RunningLemmas.{text-shown, safe-shown, html-shown}
use Rattle.shown_pieces.proofs.running.Running.into_text.Goals as goal

pub returns-in-AsText : goal.returns-in-AsText
returns-in-AsText c = text-shown _ c.args.self c.in-AsText.following c.into_text.result c.in-AsText.is c.into_text.ensures

pub returns-in-AsSafe : goal.returns-in-AsSafe
returns-in-AsSafe c = safe-shown _ c.args.self c.in-AsSafe.following c.into_text-in-AsSafe.result c.in-AsSafe.is c.into_text-in-AsSafe.ensures

pub returns-in-AsHtml : goal.returns-in-AsHtml
returns-in-AsHtml c = html-shown _ c.args.self c.in-AsHtml.following c.into_text-in-AsHtml.result c.in-AsHtml.is c.into_text-in-AsHtml.ensures
