use Rattle.anstyle_parse.proofs.Machine.AsReadParts.{as_read-parts, as_read_whole-parts}
use Rattle.anstyle_parse.proofs.Machine.AsReadText.{as_read-text, as_read_whole-text}
use Rattle.anstyle_parse.proofs.Machine.AsReadTwice.{as_read-again}
use Rattle.anstyle_parse.proofs.laws.read_logs.Goals as goal

pub returns-clause-again : goal.returns-clause-again
returns-clause-again c = as_read-again

pub returns-clause-text : goal.returns-clause-text
returns-clause-text c = as_read-text

pub returns-clause-text_end : goal.returns-clause-text_end
returns-clause-text_end c = as_read_whole-text

pub returns-clause-parts : goal.returns-clause-parts
returns-clause-parts c = as_read-parts

pub returns-clause-parts_end : goal.returns-clause-parts_end
returns-clause-parts_end c = as_read_whole-parts
