-- By the places of the table.
use Rattle.screen_html.proofs.LastLemmas.{last-kept, last-lost}
use Rattle.screen_html.proofs.laws.last_links.Goals as goal

pub returns-clause-kept : goal.returns-clause-kept
returns-clause-kept c = λ before earlier later parts long are few. last-kept before earlier later parts long are few

pub returns-clause-lost : goal.returns-clause-lost
returns-clause-lost c = λ before earlier later parts long are many. last-lost before earlier later parts long are many
