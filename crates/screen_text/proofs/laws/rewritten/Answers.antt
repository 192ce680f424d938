-- What the row showed leaves no row and no trace.
use Rattle.std.proofs.Common.{◌≤◌, ◌+◌, subst}
use Rattle.ansi_screen.specs.Display.{Display}
use Rattle.ansi_screen.specs.Reachable.{IsScreen}
use Rattle.ansi_screen.specs.Laws.{text_columns}
use Rattle.screen_text.proofs.RewrittenLemmas.{rewritten-shown, wiped-shown}
use Rattle.screen_text.proofs.laws.rewritten.Goals as goal

pub returns-clause-text : goal.returns-clause-text
returns-clause-text c = λ screen earlier later before text there is whole room fits.
    rewritten-shown screen earlier later before text (subst (λ d. IsScreen d) is whole)
    (subst (λ (d : Display). d.cursor.column + text_columns before ≤ d.width) is room) (subst (λ (d : Display). text_columns text ≤ d.width) is fits)

pub returns-clause-line : goal.returns-clause-line
returns-clause-line c = λ screen earlier later before there is whole room.
    wiped-shown screen earlier later before (subst (λ d. IsScreen d) is whole)
    (subst (λ (d : Display). d.cursor.column + text_columns before ≤ d.width) is room)
