-- All of it.
use Rattle.screen_draw.proofs.UpdatesLemmas.{followed-is, whole-shows}
use Rattle.screen_draw.proofs.laws.followed.Goals as goal

pub returns-clause-shown : goal.returns-clause-shown
returns-clause-shown c = λ first old pieces screens screen contents wide high are. followed-is first screen contents pieces screens old wide high are

pub returns-clause-whole : goal.returns-clause-whole
returns-clause-whole c = λ first pieces screens are. whole-shows first pieces screens are
