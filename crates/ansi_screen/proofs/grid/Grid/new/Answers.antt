-- Blank rows, each once.
use Rattle.std.proofs.Common.{sym, subst, ap, ◌∙◌}
use Rattle.std.specs.Prelude.{replicate}
use Rattle.ansi_style.specs.Style.{plain}
use Rattle.ansi_screen.specs.Cells.{blank}
use Rattle.ansi_screen.specs.Grid.{IsOrder, blank_grid}
use Rattle.ansi_screen.proofs.grid.Grid.new.Goals as goal

pub of_blanks-requires-clause-blank : goal.of_blanks-requires-clause-blank
of_blanks-requires-clause-blank c =
    c.in_ok-rows.ensures ∙ ap (λ n. replicate n (replicate c.args.width (blank plain))) (c.from.ensures ∙ sym c.in_ok-numbers.ensures.length)

pub of_blanks-requires-clause-order : goal.of_blanks-requires-clause-order
of_blanks-requires-clause-order c =
    subst (λ n. IsOrder n c.in_ok-numbers.field-0.items) (sym c.in_ok-numbers.ensures.length) c.in_ok-numbers.ensures.order

pub returns : goal.returns
returns c = c.of_blanks.ensures ∙ ap (blank_grid c.args.width) c.in_ok-numbers.ensures.length
