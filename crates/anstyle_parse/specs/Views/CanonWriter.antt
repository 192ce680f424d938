-- What a canonical writer shows.
use Rattle.anstyle_parse.specs.declared.io.output.Output.{Output}
use Rattle.anstyle_parse.specs.declared.canon.writer.CanonWriter.{CanonWriter}

-- the output that it writes to
abbrev pub output_of : {W : Type 0} → CanonWriter W → Output W
output_of performer = performer.output
