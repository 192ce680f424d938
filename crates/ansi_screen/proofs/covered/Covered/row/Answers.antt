-- Where there is memory alone, the one row is like each.
use Rattle.std.proofs.Common.{ap, sym, ◌∙◌, arith}
use Rattle.ansi_screen.specs.Grid.{Grid}
use Rattle.ansi_screen.proofs.CoveredLemmas.{unwritten, row-for-each}
use Rattle.ansi_screen.proofs.covered.Covered.row.Goals as goal

pub row-requires : goal.row-requires
row-requires c =
    let known = unwritten c.self.inside.memory c.self.inside.grid c.args.self.now c.self.view_is c.self.invariant (sym c.is_some.ensures ∙ c.if-is_some.true) in
    omega (arith, ap (λ (g : Grid). g.height) known.1)

pub returns-then-is_some-clause-cells : goal.returns-then-is_some-clause-cells
returns-then-is_some-clause-cells c =
    let known = unwritten c.self.inside.memory c.self.inside.grid c.args.self.now c.self.view_is c.self.invariant (sym c.is_some.ensures ∙ c.if-is_some.true) in
    c.row.ensures.cells ∙ row-for-each c.args.row c.self.inside.grid c.args.self.now known.0 known.1 c.requires

pub returns-then-is_some-clause-columns : goal.returns-then-is_some-clause-columns
returns-then-is_some-clause-columns c =
    let known = unwritten c.self.inside.memory c.self.inside.grid c.args.self.now c.self.view_is c.self.invariant (sym c.is_some.ensures ∙ c.if-is_some.true) in
    c.row.ensures.columns ∙ ap (λ (g : Grid). g.width) known.1
