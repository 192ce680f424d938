-- What a stripper shows.
use Rattle.anstyle_parse.specs.declared.io.output.Output.{Output}
use Rattle.ansi_strip.specs.declared.performer.Stripper.{Stripper}

-- the output that it writes to
abbrev pub output_of : {W : Type 0} → Stripper W → Output W
output_of performer = performer.output
