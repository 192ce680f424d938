-- The last line is ended, and the last span.
use Rattle.ansi_html.specs.Styled.{WritesStyled}
use Rattle.screen_html.specs.Shown.{closing_styled}
use Rattle.screen_html.proofs.RowLemmas.{closing-open, closing-closed, adds-closing}
use Rattle.screen_html.proofs.page.PageRows.into_output.Goals as goal
use Rattle.screen_html.proofs.page.PageRows.into_output.Goals.{then-is_open, else-is_open}

pub returns : goal.returns
returns g c =
    let rows = c.args.self in
    let writer = c.if-is_open.writer in
    let closed : WritesStyled g.W.Sink rows.writer (closing_styled rows.is_open) writer = elim c.if-is_open.branch [
      | then-is_open w ↦ closing-open g.W.Sink rows.is_open rows.writer w.put_line_feed.new.writer writer w.if-is_open.true w.writer-is w.put_line_feed.ensures
      | else-is_open w ↦ closing-closed g.W.Sink rows.is_open rows.writer writer w.if-is_open.false w.writer-is
    ] in
    adds-closing g.W.Sink rows.is_open rows.writer writer c.into_output.result closed c.into_output.ensures
