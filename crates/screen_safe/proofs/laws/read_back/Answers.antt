-- The characters and the marks of the text are read one after another; a mark is no character.
use Rattle.std.proofs.Common.{ap, ◌∙◌}
use Rattle.ansi_screen.specs.After.{new_state}
use Rattle.safe_text.specs.Reading.{read_back as read}
use Rattle.safe_text.proofs.MarkedLemmas.{items-below}
use Rattle.safe_text.proofs.ReadLemmas.{read-safe}
use Rattle.safe_text.proofs.WholeLemmas.{items-chars}
use Rattle.screen_safe.specs.Shown.{shown_marked}
use Rattle.screen_safe.proofs.MarkedLemmas.{items-shown, without-shown}
use Rattle.screen_safe.proofs.laws.read_back.Goals as goal

pub returns-clause-names : goal.returns-clause-names
returns-clause-names c = λ columns rows bytes calls are.
    let cs = shown_marked (new_state columns rows) calls in
    let items = items-shown columns rows bytes calls are in
    ap read (items-chars 0 cs items) ∙ read-safe 0 cs (items-below cs items)

pub returns-clause-characters : goal.returns-clause-characters
returns-clause-characters c = without-shown
