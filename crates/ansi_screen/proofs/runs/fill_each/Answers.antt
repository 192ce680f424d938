-- One cell more.
use Rattle.std.proofs.Common.{ap, ◌∙◌}
use Rattle.ansi_screen.specs.declared.cell.Part.TheVariants.{Whole}
use Rattle.ansi_screen.specs.Cells.{printed_cell}
use Rattle.ansi_screen.proofs.RunLemmas.{fill-more}
use Rattle.ansi_screen.proofs.runs.fill_each.Goals as goal

pub loop-i-preserved : goal.loop-i-preserved
loop-i-preserved c =
    fill-more c.args.run.now c.loop-i.i c.args.style c.args.link c.printed.result c.loop-i.cells c.args.cells.now
    c.loop-i-test.true c.requires (c.printed.ensures ∙ ap (λ ch. printed_cell ch c.args.style c.args.link Whole) c.from.ensures) c.loop-i.invariant
