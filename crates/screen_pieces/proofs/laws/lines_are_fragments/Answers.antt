-- As of rows wherever they are from.
use Rattle.screen_html.proofs.WholeLemmas.{drawn-lines, IsFragment-lines, IsUtf8-lines, links-of_lines}
use Rattle.screen_pieces.specs.Page.{styling_numbered}
use Rattle.screen_pieces.specs.Rows.{rows_numbered, lines_of}
use Rattle.screen_pieces.specs.Terminal.{table_of}
use Rattle.screen_pieces.proofs.LineLawLemmas.{good-numbered, kept-links}
use Rattle.screen_pieces.proofs.laws.lines_are_fragments.Goals as goal

pub returns-clause-same : goal.returns-clause-same
unfolding lines_of
returns-clause-same c columns rows which styling bytes terminal stands =
    drawn-lines (styling_numbered styling) (table_of terminal) (rows_numbered which terminal) (good-numbered columns rows bytes terminal stands which)

pub returns-clause-grammar : goal.returns-clause-grammar
returns-clause-grammar c columns rows which styling bytes terminal stands =
    IsFragment-lines (styling_numbered styling) (table_of terminal) (rows_numbered which terminal) (good-numbered columns rows bytes terminal stands which)
    (kept-links columns rows bytes terminal stands)

pub returns-clause-links : goal.returns-clause-links
returns-clause-links c columns rows which styling bytes terminal stands =
    links-of_lines (styling_numbered styling) (table_of terminal) (rows_numbered which terminal) (kept-links columns rows bytes terminal stands)

pub returns-clause-utf8 : goal.returns-clause-utf8
returns-clause-utf8 c columns rows which styling bytes terminal stands =
    IsUtf8-lines (styling_numbered styling) (table_of terminal) (rows_numbered which terminal) (good-numbered columns rows bytes terminal stands which)
    (kept-links columns rows bytes terminal stands)
