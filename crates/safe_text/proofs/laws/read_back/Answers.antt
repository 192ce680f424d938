-- The characters of the text are read one after another; equal texts are read as the same.
use Rattle.std.proofs.Common.{◌≡◌, false, ap, sym, ◌∙◌}
use Rattle.std.specs.Str.{chars}
use Rattle.anstyle_parse.specs.Laws.Lawful.{AreLawful}
use Rattle.anstyle_parse.specs.Stream.Call.{Call}
use Rattle.std.specs.Prelude.{List}
use Rattle.safe_text.specs.Safe.{characters, safe}
use Rattle.safe_text.specs.Reading.{read_back as read, with_line_feeds}
use Rattle.safe_text.proofs.CallLemmas.{scalars-lawful, all-below}
use Rattle.safe_text.proofs.ToldLemmas.{read-marked}
use Rattle.safe_text.proofs.ReadLemmas.{read-safe}
use Rattle.safe_text.proofs.WholeLemmas.{safe-chars}
use Rattle.safe_text.proofs.laws.read_back.Goals as goal

read-lawful : (calls : List Call) → AreLawful calls → read (chars (safe calls)) ≡ with_line_feeds (characters calls)
read-lawful calls lawful =
    let scalars = scalars-lawful false calls lawful in
    ap read (safe-chars 0 (characters calls) scalars) ∙ read-safe 0 (characters calls) (all-below (characters calls) scalars)

pub returns-clause-names : goal.returns-clause-names
returns-clause-names c = λ bytes calls are. read-lawful calls (c.calls_are_lawful.ensures bytes calls are)

pub returns-clause-only : goal.returns-clause-only
returns-clause-only c = λ bytes others calls more are too same.
    sym (read-lawful calls (c.calls_are_lawful.ensures bytes calls are))
    ∙ (ap (λ t. read (chars t)) same ∙ read-lawful more (c.calls_are_lawful.ensures others more too))

pub returns-clause-marks : goal.returns-clause-marks
returns-clause-marks c = λ bytes calls are. read-marked calls (c.calls_are_lawful.ensures bytes calls are)

pub returns-clause-only_marks : goal.returns-clause-only_marks
returns-clause-only_marks c = λ bytes others calls more are too same.
    sym (read-marked calls (c.calls_are_lawful.ensures bytes calls are))
    ∙ (ap (λ t. read (chars t)) same ∙ read-marked more (c.calls_are_lawful.ensures others more too))
