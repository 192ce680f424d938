-- By what a drawing shows, and updates.
use Rattle.std.proofs.Common.{ap, ◌∙◌}
use Rattle.ansi_screen.specs.State.{State}
use Rattle.ansi_screen.specs.Text.{text_of}
use Rattle.screen_draw.specs.Updates.{last_of}
use Rattle.screen_draw.proofs.RedrawnLemmas.{redrawn-is}
use Rattle.screen_draw.proofs.TextLemmas.{text-drawn}
use Rattle.screen_draw.proofs.UpdatesLemmas.{followed-is}
use Rattle.screen_draw.proofs.laws.same_text.Goals as goal

pub returns-clause-shown : goal.returns-clause-shown
returns-clause-shown c = λ d. text-drawn d

pub returns-clause-drawn : goal.returns-clause-drawn
returns-clause-drawn c = λ drawn old screen contents width height.
    ap (λ (s : State). text_of s.display) (redrawn-is drawn old screen contents width height) ∙ text-drawn drawn

pub returns-clause-followed : goal.returns-clause-followed
returns-clause-followed c = λ first old pieces screens screen contents wide high are.
    ap text_of (followed-is first screen contents pieces screens old wide high are).display ∙ text-drawn (last_of first screens).display
