-- Call by call.
use Rattle.ansi_screen.proofs.ScrollLemmas.{rows-up, rows-first}
use Rattle.ansi_screen.proofs.laws.rows_leave.Goals as goal

pub returns-clause-up : goal.returns-clause-up
returns-clause-up c = λ screen call is keeps top main. rows-up screen call is keeps top main

pub returns-clause-rows : goal.returns-clause-rows
returns-clause-rows c = λ screen call keeps. rows-first screen call keeps
