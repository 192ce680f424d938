-- Nothing, no cell, few calls, and a move alone.
use Rattle.screen_draw.proofs.CountLemmas.{update-few}
use Rattle.screen_draw.proofs.UnchangedLemmas.{same-nothing, alike-nothing, cursor-alone}
use Rattle.screen_draw.proofs.laws.unchanged.Goals as goal

pub returns-clause-screen : goal.returns-clause-screen
returns-clause-screen c = λ shown. same-nothing shown

pub returns-clause-cell : goal.returns-clause-cell
returns-clause-cell c = λ row column brush old new olds behind alike. alike-nothing row column brush old new olds behind alike

pub returns-clause-cursor : goal.returns-clause-cursor
returns-clause-cursor c = λ shown row column steady inside. cursor-alone shown row column steady inside

pub returns-clause-few : goal.returns-clause-few
returns-clause-few c = λ shown wanted steady. update-few shown wanted steady
