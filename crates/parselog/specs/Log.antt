-- What a log writer shows.
use Rattle.anstyle_parse.specs.declared.io.output.Output.{Output}
use Rattle.parselog.specs.declared.log.LogWriter.{LogWriter}

-- the output that it writes to
abbrev pub output_of : {W : Type 0} → LogWriter W → Output W
output_of performer = performer.output
