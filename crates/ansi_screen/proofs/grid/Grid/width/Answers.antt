-- The rows fill the list, and each begins where a row's width says.
use Rattle.std.proofs.Common.{◌*◌, ap, ◌∙◌}
use Rattle.ansi_screen.specs.Grid.{in_order}
use Rattle.ansi_screen.proofs.GridLemmas.{flat-length, flat-paired, rows-begin, rows-in_order, length-in_order}
use Rattle.ansi_screen.proofs.grid.Grid.width.Goals as goal

pub returns-clause-filled : goal.returns-clause-filled
returns-clause-filled c =
    let w = c.self.inside.width in
    let order = c.self.inside.order.items in
    let rows = c.self.inside.rows.items in
    rw (← c.self.view_is)
    (flat-length w (in_order order rows) (rows-in_order w order rows c.self.invariant.1 c.self.invariant.2.numbers) ∙ ap (λ n. n * w) (length-in_order order rows))

pub returns-clause-begin : goal.returns-clause-begin
returns-clause-begin c =
    let w = c.self.inside.width in
    let order = c.self.inside.order.items in
    let rows = c.self.inside.rows.items in
    rw (← c.self.view_is)
    (λ row. rows-begin w row (in_order order rows) c.self.invariant.0 (rows-in_order w order rows c.self.invariant.1 c.self.invariant.2.numbers))

pub returns-clause-paired : goal.returns-clause-paired
returns-clause-paired c =
    let w = c.self.inside.width in
    let order = c.self.inside.order.items in
    let rows = c.self.inside.rows.items in
    rw (← c.self.view_is) (flat-paired w (in_order order rows) (rows-in_order w order rows c.self.invariant.1 c.self.invariant.2.numbers))
