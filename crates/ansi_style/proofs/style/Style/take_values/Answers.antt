-- Too few fields change nothing.
use Rattle.std.proofs.Common.{arith}
use Rattle.ansi_style.proofs.WalkLemmas.{selected_from-few}
use Rattle.ansi_style.proofs.style.Style.take_values.Goals as goal

pub returns-in-empty : goal.returns-in-empty
returns-in-empty c = (selected_from-few c.args.target c.args.fields.now c.args.self.now c.in-empty.len_below, omega arith)
