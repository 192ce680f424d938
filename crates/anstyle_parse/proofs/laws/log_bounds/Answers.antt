use Rattle.anstyle_parse.proofs.Machine.LogLength.{text_length-read, text_length-read_whole}
use Rattle.anstyle_parse.proofs.Machine.LogQuoted.{enough-read, enough-read_whole, length-enough}
use Rattle.std.proofs.Common.{length}
use Rattle.anstyle_parse.proofs.laws.log_bounds.Goals as goal

pub returns-clause-calls : goal.returns-clause-calls
returns-clause-calls c = λ bytes calls are. length-enough (length bytes) calls (enough-read bytes calls are)

pub returns-clause-calls_end : goal.returns-clause-calls_end
returns-clause-calls_end c = λ bytes calls are. length-enough (length bytes) calls (enough-read_whole bytes calls are)

pub returns-clause-text : goal.returns-clause-text
returns-clause-text c = text_length-read

pub returns-clause-text_end : goal.returns-clause-text_end
returns-clause-text_end c = text_length-read_whole

pub returns-clause-enough : goal.returns-clause-enough
returns-clause-enough c = enough-read

pub returns-clause-enough_end : goal.returns-clause-enough_end
returns-clause-enough_end c = enough-read_whole
