-- A row that does not go on ends a line of the block.
use Rattle.std.proofs.Common.{◌∙◌, sym, ap, subst, ◌-◌}
use Rattle.anstyle_parse.specs.Io.Output.{Adds}
use Rattle.screen_html.specs.Writer.{output_of, standing_of}
use Rattle.screen_html.specs.Blocks.{Blocked, blocked, block_closing, blocks_output, blocked_of}
use Rattle.screen_html.proofs.BlockRowLemmas.{left-ended, left-on, writes-row, closes-none}
use Rattle.screen_html.proofs.blocks.BlockRowsTakeRow.take_row.Goals as goal

pub returns-then-not-goes_on : goal.returns-then-not-goes_on
returns-then-not-goes_on g c =
    let old = c.args.self.now in
    let begun = c.begin_row.new.self in
    let taken = c.take_row.new.self in
    let new = c.end_line.new.self in
    let row = c.args.row.now in
    let left = left-ended (blocked_of old) row (sym c.goes_on.ensures ∙ c.if-not-goes_on.true)
    ∙ ap (λ (it : Blocked). it.left - 1) (sym c.begin_row.ensures.standing) in
    writes-row g.W.Sink old begun new row taken c.begin_row.ensures.standing c.begin_row.ensures.added c.take_row.ensures
    (c.end_line.ensures.standing ∙ ap (λ n. blocked (standing_of taken) n) (sym left))
    (subst (λ n. Adds g.W.Sink (block_closing n) (output_of taken) (blocks_output new)) (sym left) c.end_line.ensures.added)

pub returns-else-not-goes_on : goal.returns-else-not-goes_on
returns-else-not-goes_on g c =
    let old = c.args.self.now in
    let begun = c.begin_row.new.self in
    let taken = c.take_row.new.self in
    let row = c.args.row.now in
    let on = sym c.goes_on.ensures ∙ c.if-not-goes_on.false in
    writes-row g.W.Sink old begun (record { rows = taken; left = begun.left }) row taken c.begin_row.ensures.standing c.begin_row.ensures.added c.take_row.ensures
    (ap (λ (it : Blocked). blocked (standing_of taken) it.left) c.begin_row.ensures.standing ∙ ap (λ n. blocked (standing_of taken) n) (sym (left-on (blocked_of old) row on)))
    (closes-none g.W.Sink old row taken on)
