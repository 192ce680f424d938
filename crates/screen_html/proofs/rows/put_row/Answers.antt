-- The row ends.
use Rattle.std.proofs.Common.{List, ℕ, true, false, take, map, sym, ap, ◌∙◌}
use Rattle.screen_html.specs.Links.{table}
use Rattle.screen_html.specs.Paid.{Purse, purse_of, purse_after}
use Rattle.screen_html.specs.Shown.{cell_styled, linked, linking_of}
use Rattle.screen_html.proofs.RowLemmas.{writes-row, writes-row_on, row-ends}
use Rattle.screen_html.proofs.rows.put_row.Goals as goal

pub returns-then-not-goes_on-clause-written : goal.returns-then-not-goes_on-clause-written
returns-then-not-goes_on-clause-written g c =
    writes-row g.W.Sink (linking_of c.args.last.now c.args.links.now.places c.args.spare.now) c.args.row.now c.used_of_written-end.result
    c.args.writer.now c.put_cells.new.writer c.put_line_feed.new.writer
    c.used_of_written-end.ensures.used (sym c.goes_on.ensures ∙ c.if-not-goes_on.true) c.put_cells.ensures.written c.put_line_feed.ensures

pub returns-then-not-goes_on-clause-linking : goal.returns-then-not-goes_on-clause-linking
returns-then-not-goes_on-clause-linking g c =
    let places = c.args.links.now.places in
    let before = purse_of c.args.last.now c.args.spare.now in
    let after = purse_of c.put_cells.new.last c.put_cells.new.spare in
    let spent = c.put_cells.ensures.spent
    ∙ ap (λ (n : ℕ). purse_after before (map (cell_styled places) (take n c.args.row.now))) c.used_of_written-end.ensures.used in
    ap (λ (it : Purse). linked it.last (table places it.spare)) c.end_line.ensures
    ∙ row-ends places c.args.row.now false before after spent (sym c.goes_on.ensures ∙ c.if-not-goes_on.true)

pub returns-else-not-goes_on-clause-written : goal.returns-else-not-goes_on-clause-written
returns-else-not-goes_on-clause-written g c =
    writes-row_on g.W.Sink (linking_of c.args.last.now c.args.links.now.places c.args.spare.now) c.args.row.now c.used_of_written-end.result
    c.args.writer.now c.put_cells.new.writer
    c.used_of_written-end.ensures.used (sym c.goes_on.ensures ∙ c.if-not-goes_on.false) c.put_cells.ensures.written

pub returns-else-not-goes_on-clause-linking : goal.returns-else-not-goes_on-clause-linking
returns-else-not-goes_on-clause-linking g c =
    let places = c.args.links.now.places in
    let before = purse_of c.args.last.now c.args.spare.now in
    let after = purse_of c.put_cells.new.last c.put_cells.new.spare in
    let spent = c.put_cells.ensures.spent
    ∙ ap (λ (n : ℕ). purse_after before (map (cell_styled places) (take n c.args.row.now))) c.used_of_written-end.ensures.used in
    row-ends places c.args.row.now true before after spent (sym c.goes_on.ensures ∙ c.if-not-goes_on.false)
