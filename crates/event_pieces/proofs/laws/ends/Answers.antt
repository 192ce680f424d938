-- By what an end is.
use Rattle.event_pieces.proofs.EndLaws.{ends-ordered, ends-within, ends-only}
use Rattle.event_pieces.proofs.laws.ends.Goals as goal

pub returns-clause-ordered : goal.returns-clause-ordered
returns-clause-ordered c = λ before bytes room events ends are exact place other le here. ends-ordered before bytes room events are ends exact place other le here

pub returns-clause-within : goal.returns-clause-within
returns-clause-within c = λ before bytes room events ends are exact place here. ends-within before bytes room events are ends exact place here

pub returns-clause-only : goal.returns-clause-only
returns-clause-only c = λ before bytes room events ends others are exact also long. ends-only before bytes room events are ends others exact also long
