-- The rows that left, and then those that still show.
use Rattle.std.proofs.Common.{◌≡◌, ℕ, List, ap, sym, subst}
use Rattle.std.specs.Prelude.{Option}
use Rattle.ansi_screen.specs.declared.cell.Cell.{Cell}
use Rattle.ansi_screen.specs.After.{State}
use Rattle.ansi_screen.specs.History.{Kept}
use Rattle.ansi_screen.specs.Leaving.{TakesRows}
use Rattle.ansi_screen.proofs.LeavingLemmas.{takes-append}
use Rattle.screen_text.specs.Lines.{showing}
use Rattle.screen_pieces.specs.History.{kept_of}
use Rattle.screen_pieces.specs.Rows.{rows_numbered}
use Rattle.screen_pieces.specs.Terminal.{display_of, history_of}
use Rattle.screen_pieces.proofs.terminal.Terminal.hand_on.Goals as goal

pub returns-in-2 : goal.returns-in-2
returns-in-2 g c =
    let takes = g.R.TakeRow.takes in
    let terminal = c.args.self.now in
    let middle = c.hand_on_left-in-2.new.taker in
    let end = c.hand_on_showing.new.taker in
    let kept : c.history-in-2.result.now.rows ≡ (history_of terminal).rows =
    ap (λ (history : Option Kept). (kept_of history).rows) c.history-in-2.ensures in
    subst (λ (n : ℕ). TakesRows takes c.args.taker.now (rows_numbered n terminal) end) (sym c.in-2.is)
    (takes-append takes (history_of terminal).rows (showing (display_of terminal)) c.args.taker.now middle end
    (subst (λ (rows : List (List Cell)). TakesRows takes c.args.taker.now rows middle) kept c.hand_on_left-in-2.ensures)
    (subst (λ (s : State). TakesRows takes middle (showing s.display) end) c.screen.ensures c.hand_on_showing.ensures))
