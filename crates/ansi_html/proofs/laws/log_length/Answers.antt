use Rattle.std.proofs.Common.{length}
use Rattle.ansi_html.proofs.LogBound.{length-enough}
use Rattle.ansi_html.proofs.laws.log_length.Goals as goal

pub returns : goal.returns
returns c = λ styling log calls are. length-enough styling (length log) calls (c.log_bounds.ensures.enough_end log calls are)
