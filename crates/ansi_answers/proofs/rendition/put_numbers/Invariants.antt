-- The numbers so far are written.
use Rattle.std.proofs.Common.{take, map}
use Rattle.anstyle_parse.specs.Io.Output.{Adds}
use Rattle.ansi_style.specs.Codes.{one, more_text}
use Rattle.ansi_answers.proofs.rendition.put_numbers.Given as goal

abbrev pub invariant-loop-number : goal.invariant-loop-number
invariant-loop-number g l = Adds g.W.Sink (more_text (map one (take l.number-index l.numbers))) l.initial.output l.output
