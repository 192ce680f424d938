use Rattle.anstyle_parse.proofs.Canonical.Bounds.{length-calls}
use Rattle.anstyle_parse.proofs.Canonical.Length.{length-canon}
use Rattle.anstyle_parse.proofs.Canonical.TextLength.{text_length-continued}
use Rattle.anstyle_parse.proofs.laws.bounds.Goals as goal

pub returns-clause-calls : goal.returns-clause-calls
returns-clause-calls c = length-calls

pub returns-clause-text : goal.returns-clause-text
returns-clause-text c = length-canon

pub returns-clause-piece : goal.returns-clause-piece
returns-clause-piece c = text_length-continued
