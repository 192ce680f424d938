-- What is not looked at is left out.
use Rattle.std.proofs.Common.{◌∙◌}
use Rattle.ansi_screen.specs.Text.{left_out}
use Rattle.ansi_screen.proofs.TextLemmas.{used-rest, left_out-blank}
use Rattle.ansi_screen.proofs.text.used_of_written.Goals as goal

pub returns-clause-used : goal.returns-clause-used
returns-clause-used c =
    c.used.ensures.used ∙ used-rest (left_out c.args.ends) c.args.cells.now c.args.written (left_out-blank c.args.ends) c.requires.rest
