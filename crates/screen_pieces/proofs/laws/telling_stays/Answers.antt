-- Its screen stays, and what it was asked for, but for what was told of.
use Rattle.screen_pieces.proofs.AskedLemmas.{told-stands, taken-stands, themed-stands}
use Rattle.screen_pieces.proofs.laws.telling_stays.Goals as goal

pub returns-clause-told : goal.returns-clause-told
returns-clause-told c = λ first bytes old new tells stands. told-stands first bytes old new tells stands

pub returns-clause-answers : goal.returns-clause-answers
returns-clause-answers c = λ first bytes old new takes stands. taken-stands first bytes old new takes stands

pub returns-clause-theme : goal.returns-clause-theme
returns-clause-theme c = λ first bytes theme old new has stands. themed-stands first bytes theme old new has stands
