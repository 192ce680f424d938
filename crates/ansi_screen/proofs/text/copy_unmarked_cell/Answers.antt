-- A right half has no text; any other cell has its character.
use Rattle.std.proofs.Common.{sym, ◌∙◌}
use Rattle.ansi_screen.proofs.TextLemmas.{unmarked-right, unmarked-other}
use Rattle.ansi_screen.proofs.text.copy_unmarked_cell.Goals as goal

pub returns-then-is_right-clause-text : goal.returns-then-is_right-clause-text
returns-then-is_right-clause-text c = sym (unmarked-right c.args.cell.now (sym c.is_right.ensures ∙ c.if-is_right.true))

pub returns-clause-text : goal.returns-clause-text
returns-clause-text c =
    c.copy_character.ensures.text ∙ sym (unmarked-other c.args.cell.now (sym c.is_right.ensures ∙ c.if-is_right.false) c.requires.unmarked)
