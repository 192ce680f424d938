-- What is printed changes the screen alone.
use Rattle.std.proofs.Common.{sym, ap, ◌∙◌}
use Rattle.ansi_screen.specs.After.{State}
use Rattle.ansi2svg.specs.PictureProof.{text-shown}
use Rattle.ansi2svg.proofs.picture.LinkedPerformText.print_text.Goals as goal

pub returns : goal.returns
returns c =
    ap (λ (s : State). record c.args.self.now { screen = s }) c.print_text.ensures
    ∙ sym (text-shown c.args.text.now c.args.self.now)
