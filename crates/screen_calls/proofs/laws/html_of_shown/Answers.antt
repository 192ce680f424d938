use Rattle.screen_calls.proofs.HtmlLemmas.{grammar-shown, lines-shown, blocks-shown, utf8-shown, lines_utf8-shown, blocks_utf8-shown}
use Rattle.screen_calls.proofs.laws.html_of_shown.Goals as goal

pub returns-clause-grammar : goal.returns-clause-grammar
returns-clause-grammar c = grammar-shown

pub returns-clause-numbered : goal.returns-clause-numbered
returns-clause-numbered c = lines-shown

pub returns-clause-blocks : goal.returns-clause-blocks
returns-clause-blocks c = blocks-shown

pub returns-clause-utf8 : goal.returns-clause-utf8
returns-clause-utf8 c = utf8-shown

pub returns-clause-lines_utf8 : goal.returns-clause-lines_utf8
returns-clause-lines_utf8 c = lines_utf8-shown

pub returns-clause-blocks_utf8 : goal.returns-clause-blocks_utf8
returns-clause-blocks_utf8 c = blocks_utf8-shown
