-- All rows are copied, or all cells are plain blanks.
use Rattle.std.proofs.Common.{length, ap, ◌∙◌}
use Rattle.std.specs.Prelude.{replicate}
use Rattle.ansi_style.specs.declared.style.Style.{Style}
use Rattle.ansi_screen.specs.Cells.{blank}
use Rattle.ansi_screen.specs.Grid.{with_list}
use Rattle.ansi_screen.proofs.MovedLemmas.{copied-whole, both-blank}
use Rattle.ansi_screen.proofs.grid.Grid.copy_all.Goals as goal

pub returns-then-has_writing : goal.returns-then-has_writing
returns-then-has_writing c =
    c.copy_rows.ensures ∙ copied-whole c.args.self.now c.args.other.now c.height-height.result c.width.ensures.filled c.width-2.ensures.filled c.requires.width c.requires.height c.height-height.ensures

pub returns-else-has_writing : goal.returns-else-has_writing
returns-else-has_writing c =
    c.fill.ensures
    ∙ (ap (λ (s : Style). with_list (replicate (length c.args.self.now.cells) (blank s)) c.args.self.now) c.default.ensures
    ∙ both-blank c.args.self.now c.args.other.now c.width.ensures.filled c.width-2.ensures.filled c.requires.width c.requires.height (c.has_writing.ensures c.if-has_writing.false))
