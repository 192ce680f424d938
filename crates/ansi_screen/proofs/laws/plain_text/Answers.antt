-- Line by line; and by the one list of calls of the bytes.
use Rattle.ansi_screen.proofs.PlainLemmas.{lines-shown, text-shown}
use Rattle.ansi_screen.proofs.laws.plain_text.Goals as goal

pub returns-clause-calls : goal.returns-clause-calls
returns-clause-calls c = λ columns rows lines few fit. lines-shown columns rows lines few fit

pub returns-clause-bytes : goal.returns-clause-bytes
returns-clause-bytes c = λ columns rows lines new few fit shows. text-shown columns rows lines new few fit shows
