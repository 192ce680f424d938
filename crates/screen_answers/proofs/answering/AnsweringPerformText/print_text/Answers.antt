-- What is printed changes the screen alone.
use Rattle.std.proofs.Common.{sym, ap, ◌∙◌}
use Rattle.ansi_screen.specs.After.{State}
use Rattle.screen_answers.specs.AnsweringProof.{text-shown}
use Rattle.screen_answers.proofs.answering.AnsweringPerformText.print_text.Goals as goal

pub returns : goal.returns
returns c =
    ap (λ (s : State). record c.args.self.now { screen = s }) c.print_text.ensures
    ∙ sym (text-shown c.args.text.now c.args.self.now)
