-- As of all that a screen showed.
use Rattle.std.specs.Prelude.{◌≡◌}
use Rattle.ansi_screen.specs.After.{new_state, after_all}
use Rattle.ansi_screen.specs.Text.{printed_rows}
use Rattle.screen_html.specs.Links.{no_links}
use Rattle.screen_html.specs.Page.{all_links}
use Rattle.screen_html.proofs.CellLemmas.{good-page}
use Rattle.screen_html.proofs.HandedLemmas.{kept-none}
use Rattle.screen_html.proofs.PaidBoundLemmas.{length-lines_paid}
use Rattle.screen_html.proofs.WholeLemmas.{read-lines, text-lines, links-in_lines, length-lines, drawn-lines, IsFragment-lines, IsUtf8-lines, kept-all, whole-page}
use Rattle.screen_html.proofs.laws.page.Goals as goal

pub returns-clause-read_back : goal.returns-clause-read_back
returns-clause-read_back c = read-lines

pub returns-clause-text : goal.returns-clause-text
returns-clause-text c = text-lines

pub returns-clause-links : goal.returns-clause-links
returns-clause-links c = links-in_lines

pub returns-clause-bound : goal.returns-clause-bound
returns-clause-bound c = length-lines_paid

pub returns-clause-text_bound : goal.returns-clause-text_bound
returns-clause-text_bound c = length-lines

pub returns-clause-lines : goal.returns-clause-lines
returns-clause-lines c styling columns rows bytes calls are =
    drawn-lines styling (all_links calls (new_state columns rows) no_links) (printed_rows (after_all calls (new_state columns rows)).display)
    (good-page columns rows bytes calls are)

pub returns-clause-grammar : goal.returns-clause-grammar
returns-clause-grammar c styling columns rows bytes calls are =
    IsFragment-lines styling (all_links calls (new_state columns rows) no_links) (printed_rows (after_all calls (new_state columns rows)).display)
    (good-page columns rows bytes calls are) (kept-all calls (new_state columns rows) no_links kept-none)

pub returns-clause-utf8 : goal.returns-clause-utf8
returns-clause-utf8 c styling columns rows bytes calls are =
    IsUtf8-lines styling (all_links calls (new_state columns rows) no_links) (printed_rows (after_all calls (new_state columns rows)).display)
    (good-page columns rows bytes calls are) (kept-all calls (new_state columns rows) no_links kept-none)

pub returns-clause-whole : goal.returns-clause-whole
returns-clause-whole c = whole-page
